-- The sizes of a journal, and what its calls spend at most. Source: this project.
use Rattle.std.specs.Prelude.{◌^◌, ℕ}

-- the bytes that an area may be filled up to
abbrev pub area_limit : ℕ
area_limit = 2 ^ 40

-- the syncs of making a journal
abbrev pub make_syncs : ℕ
make_syncs = 4

-- the bytes that are written in making a journal, beside those of its first body
abbrev pub make_bytes : ℕ
make_bytes = 31

-- the bytes that are read in making a journal
abbrev pub make_reads : ℕ
make_reads = 1

-- the syncs of a load
abbrev pub load_syncs : ℕ
load_syncs = 1

-- the syncs of a commit
abbrev pub commit_syncs : ℕ
commit_syncs = 2

-- the bytes that are written in a commit, beside those of its body
abbrev pub commit_bytes : ℕ
commit_bytes = 6

-- the bytes of a record in front of its body
abbrev pub prefix_len : ℕ
prefix_len = 5
