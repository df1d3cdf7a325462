-- Laws about the definitions of this crate. Source: this project.
use Rattle.std.specs.Prelude.{◌≡◌, ◌↔◌, ◌<◌, ◌^◌, ℕ, IsTrue}
use Rattle.std.specs.Ordering.{nat_cmp, is_lt}
use Rattle.std.specs.Cmp.Lexicographic.{slice_cmp}
use Rattle.ec_model.specs.Codes.{CodeRows}
use Rattle.ec_words.specs.Masks.{positions_below}
use Rattle.read_plan.specs.Plans.{size_of, ComesBefore, IsLeastPlan}

-- of two sets of one size the first comes before the second exactly if its ascending list is less
abbrev pub OrderIsByLists : Type 0
OrderIsByLists = (one other : ℕ) → one < 2 ^ 16 → other < 2 ^ 16 → size_of one ≡ size_of other
    → ComesBefore one other ↔ IsTrue (is_lt (slice_cmp nat_cmp (positions_below 16 one) (positions_below 16 other)))

-- there is at most one least plan
abbrev pub LeastPlanIsOne : Type 0
LeastPlanIsOne = (code : CodeRows) (avail wanted one other : ℕ) → IsLeastPlan code avail wanted one → IsLeastPlan code avail wanted other → one ≡ other
