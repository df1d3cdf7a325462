-- Where a name stands in a list of attributes that ascend. Source: this project.
use Rattle.std.specs.Prelude.{◌≡◌, ◌≤◌, ◌<◌, ◌+◌, ℕ, Bool, true, List, ◌∷◌, ◌++◌, cond, not, take, drop, get_or, length, Some, None}
use Rattle.std.specs.Ordering.{nat_cmp, eq_by_cmp}
use Rattle.std.specs.Cmp.Lexicographic.{slice_cmp}
use Rattle.std.specs.List.{filter}
use Rattle.std.specs.FinMap as map

abbrev pub Attr : Type 0
Attr = List ℕ × List ℕ

-- the list without the attribute of this name
abbrev pub without : List ℕ → List Attr → List Attr
without name list = filter (λ attr. not (eq_by_cmp (slice_cmp nat_cmp) name attr.0)) list

-- the name's attribute has this index in the list, or would have it: the list's parts before and after it
pub record IsSpot (name : List ℕ) (list : List Attr) (i : ℕ) (found : Bool) : Type 0 where
  pub inside : found ≡ true → i < length list
  pub low : i ≤ length list
  pub key : (d : Attr) → found ≡ true → (get_or list i d).0 ≡ name
  pub value : (d : Attr) → map.find (slice_cmp nat_cmp) name list ≡ cond found (Some (get_or list i d).1) None
  pub put : (value : List ℕ) → map.put (slice_cmp nat_cmp) name value list ≡ take i list ++ (name, value) ∷ drop (cond found (i + 1) i) list
  pub taken : without name list ≡ take i list ++ drop (cond found (i + 1) i) list
