-- What calls do to an area, and what a crash may make of it between two syncs. Source: this project.
use Rattle.std.specs.Prelude.{◌≡◌, ◌≢◌, ◌⊎◌, ◌≤◌, ℕ, ◌+◌, max, min, List, ◌++◌, length, take, drop, Option, None, Some}

-- the slots as a crash may leave them: the bytes of each area of each slot
abbrev pub Image : Type 0
Image = ℕ → ℕ → List ℕ

-- area `a` of slot `s` is another one than area `area` of slot `slot`
abbrev pub IsOther : ℕ → ℕ → ℕ → ℕ → Type 0
IsOther slot area s a = (s ≢ slot) ⊎ (a ≢ area)

-- what is told of an area after a change, if it was told before
abbrev pub on_told : (List ℕ → List ℕ) → Option (List ℕ) → Option (List ℕ)
on_told change None = None
on_told change (Some there) = Some (change there)

-- these bytes over what is there from this place on
abbrev pub written : ℕ → List ℕ → List ℕ → List ℕ
written at bytes there = take at there ++ bytes ++ drop (at + length bytes) there

-- the first n bytes of a buffer are those from this place on, and its others are as before
abbrev pub read_part : List ℕ → ℕ → ℕ → List ℕ → List ℕ
read_part there at n into = take n (drop at there) ++ drop n into

-- after a write of n bytes that a crash may cut short: any bytes in the range and past the old end, the same elsewhere,
-- and a length between the old one and that of the whole write
pub record Torn (at n : ℕ) (old new : List ℕ) : Type 0 where
  pub before : take at new ≡ take at old
  pub after : drop (at + n) new ≡ drop (at + n) old
  pub no_shorter : length old ≤ length new
  pub no_longer : length new ≤ max (length old) (at + n)

-- after a cut to n bytes that a crash may cut short: the front of some length between; what is shorter already stays
pub record Cut (n : ℕ) (old new : List ℕ) : Type 0 where
  pub no_shorter : min n (length old) ≤ length new
  pub front : take (length new) old ≡ new

-- one of these images with a step in one area, all others as they were, and nothing said
pub record From (images : Image → List ℕ → Type 0) (slot area : ℕ) (step : List ℕ → List ℕ → Type 0) (image : Image) (text : List ℕ) : Type 0 where
  pub source : Image
  pub was : images source text
  pub others : (s a : ℕ) → IsOther slot area s a → image s a ≡ source s a
  pub stepped : step (source slot area) (image slot area)

-- one of these images, with some first bytes said besides
pub record Saying (images : Image → List ℕ → Type 0) (bytes : List ℕ) (image : Image) (text : List ℕ) : Type 0 where
  pub before : List ℕ
  pub was : images image before
  pub count : ℕ
  pub said : text ≡ before ++ take count bytes

-- any change of an area
abbrev pub Any : List ℕ → List ℕ → Type 0
Any old new = Unit {0}
