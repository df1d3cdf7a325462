-- How a map's steps are read off bytes, from the front. Source: this project.
use Rattle.std.specs.Prelude.{ℕ, ◌+◌, ◌*◌, ◌==◌, if◌then◌else◌, None}
use Rattle.ec_model.specs.Versions.{Version}
use Rattle.ec_words.specs.Readers.{Reader, and_then, mapped, both, read_byte, read_u32, read_counted, read_version}
use Rattle.map_model.specs.Steps.{MapStep, Profile, Begin, Alive, Mark}

abbrev pub mask_from : ℕ × ℕ → ℕ
mask_from p = p.0 * 256 + p.1

-- a set of positions in two bytes
abbrev pub read_mask : Reader ℕ
read_mask = mapped mask_from (both read_byte read_byte)

abbrev pub begin_of : ℕ × ℕ → MapStep
begin_of p = Begin p.0 p.1

abbrev pub alive_of : ℕ × (ℕ × Version) → MapStep
alive_of p = Alive p.0 p.1.0 p.1.1

abbrev pub mark_of : ℕ × ℕ → MapStep
mark_of p = Mark p.0 p.1

abbrev pub read_lines : Reader MapStep
read_lines = mapped Profile read_counted

abbrev pub read_begin : Reader MapStep
read_begin = mapped begin_of (both read_u32 read_mask)

abbrev pub read_alive : Reader MapStep
read_alive = mapped alive_of (both read_u32 (both read_mask read_version))

abbrev pub read_mark : Reader MapStep
read_mark = mapped mark_of (both read_byte read_byte)

-- a step of this kind
abbrev pub read_kind : ℕ → Reader MapStep
read_kind kind text =
    if kind == 1 then read_lines text
    else if kind == 2 then read_begin text
    else if kind == 3 then read_alive text
    else if kind == 4 then read_mark text
    else None

abbrev pub read_step : Reader MapStep
read_step text = and_then (read_byte text) read_kind
