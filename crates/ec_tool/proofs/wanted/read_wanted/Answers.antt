use Rattle.std.proofs.Common.{◌≡◌, List, ℕ, true, false, IfSome, map, subst, sym, ◌∙◌}
use Rattle.ec_tool.specs.Wanted.{AreNumbers}
use Rattle.ec_tool.specs.Words.{AreDistinct}
use Rattle.ec_tool.proofs.WantedLemmas.{distinct_numbers}
use Rattle.ec_tool.proofs.wanted.read_wanted.Goals as goal

pub returns-clause-none : goal.returns-clause-none
returns-clause-none c = λ wanted list.
    let are = subst (λ o. IfSome o (λ numbers. AreNumbers (map (λ text. text.now) c.deref.result.now) numbers.items)) c.in-Some.is c.in_ok-numbers.ensures.some in
    let told = subst (λ (texts : List (List ℕ)). AreNumbers texts c.in-Some.numbers.items) ((λ i. map (λ text. text.now) (c.deref.ensures.value i)) ∙ c.in_ok-pieces.ensures) are in
    let distinct = subst AreDistinct (sym c.deref-2.ensures.value) (distinct_numbers _ wanted _ list told) in
    let t : true ≡ false = sym (c.are_distinct.ensures.1 distinct) ∙ c.if-are_distinct.false in cc
