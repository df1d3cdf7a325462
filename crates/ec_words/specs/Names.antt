-- Names. Source: this project.
use Rattle.std.specs.Prelude.{ℕ, Bool, ◌&&◌, nat_le, List, length}
use Rattle.std.specs.List.{list_all}

-- the bytes of the longest name
abbrev pub max_name : ℕ
max_name = 255

-- a visible ASCII character: from `!` to `~`
abbrev pub is_name_byte : ℕ → Bool
is_name_byte b = nat_le 33 b && nat_le b 126

-- 1 to `max_name` such characters
abbrev pub is_name : List ℕ → Bool
is_name text = nat_le 1 (length text) && (nat_le (length text) max_name && list_all is_name_byte text)
