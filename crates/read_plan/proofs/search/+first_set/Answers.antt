use Rattle.std.proofs.Common.{◌≡◌, ◌-◌, arith, subst, sym, ◌∙◌, true, false}
use Rattle.read_plan.specs.Settling.{IsFirst, NoneSettles}
use Rattle.read_plan.proofs.SetLemmas.{some_position, size-with}
use Rattle.read_plan.proofs.SearchLemmas.{first_of_none, none_of_none, none_of_few, first_with, first_without_if, none_of_both_if}
use Rattle.read_plan.proofs.search.+first_set.Goals as goal

pub lowest-q-requires : goal.lowest-q-requires
lowest-q-requires t c = some_position c.args.avail.0 (let ne = c.in_default in let le = c.if-size-len.false in let e = c.size.ensures in grind arith)

pub first_set-requires : goal.first_set-requires
first_set-requires t c =
    let more = size-with c.lowest-q.result c.without-rest.result.0 c.args.avail.0 c.lowest-q.ensures.below c.without-rest.ensures in
    (omega (arith, c.decreases), tt)

pub first_set-requires-in-None : goal.first_set-requires-in-None
first_set-requires-in-None t c =
    let more = size-with c.lowest-q.result c.without-rest.result.0 c.args.avail.0 c.lowest-q.ensures.below c.without-rest.ensures in
    (omega (arith, c.decreases), tt)

pub returns-then-are_settled-clause-some : goal.returns-then-are_settled-clause-some
returns-then-are_settled-clause-some t c =
    subst (λ n. IsFirst c.args.rows.now c.args.avail.0 c.args.wanted.0 n 0) (sym c.in-0.is)
    (first_of_none c.args.rows.now c.args.avail.0 c.args.wanted.0 (omega arith) (c.are_settled.ensures.0 c.if-are_settled.true))

pub returns-else-are_settled-clause-none : goal.returns-else-are_settled-clause-none
returns-else-are_settled-clause-none t c =
    subst (λ n. NoneSettles c.args.rows.now c.args.avail.0 c.args.wanted.0 n) (sym c.in-0.is)
    (none_of_none c.args.rows.now c.args.avail.0 c.args.wanted.0 (omega arith) (λ settles. never (sym c.if-are_settled.false ∙ c.are_settled.ensures.1 settles)))
  where
    never : false ≡ true → ⊥
    never e = cc

pub returns-then-size-len-clause-none : goal.returns-then-size-len-clause-none
returns-then-size-len-clause-none t c = none_of_few c.args.rows.now c.args.avail.0 c.args.wanted.0 c.args.len (omega (arith, c.size.ensures, c.if-size-len.true))

pub returns-in-Some-clause-some : goal.returns-in-Some-clause-some
returns-in-Some-clause-some t c =
    first_with c.args.rows.now c.args.avail.0 c.args.wanted.0 c.args.len (c.args.len - 1) c.lowest-q.result c.without-rest.result.0 c.both.result.0 c.taken-left.result
    (record {
      place = c.lowest-q.ensures.below;
      one_less = let ne = c.in_default in grind arith;
      lowest = c.lowest-q.ensures.least;
      others = c.without-rest.ensures;
      kept = c.both.ensures.one;
      asked = c.both.ensures.other;
      taken = c.taken-left.ensures;
    }) c.in-Some.found.0 c.with.result.0 c.in-Some.ensures.some c.with.ensures

pub returns-in-None-clause-some : goal.returns-in-None-clause-some
returns-in-None-clause-some t c =
    first_without_if c.args.rows.now c.args.avail.0 c.args.wanted.0 c.args.len (c.args.len - 1) c.lowest-q.result c.without-rest.result.0 c.both.result.0 c.taken-left.result
    (record {
      place = c.lowest-q.ensures.below;
      one_less = let ne = c.in_default in grind arith;
      lowest = c.lowest-q.ensures.least;
      others = c.without-rest.ensures;
      kept = c.both.ensures.one;
      asked = c.both.ensures.other;
      taken = c.taken-left.ensures;
    }) c.first_set-in-None.result c.in-None.ensures.none c.first_set-in-None.ensures.some

pub returns-in-None-clause-none : goal.returns-in-None-clause-none
returns-in-None-clause-none t c =
    none_of_both_if c.args.rows.now c.args.avail.0 c.args.wanted.0 c.args.len (c.args.len - 1) c.lowest-q.result c.without-rest.result.0 c.both.result.0 c.taken-left.result
    (record {
      place = c.lowest-q.ensures.below;
      one_less = let ne = c.in_default in grind arith;
      lowest = c.lowest-q.ensures.least;
      others = c.without-rest.ensures;
      kept = c.both.ensures.one;
      asked = c.both.ensures.other;
      taken = c.taken-left.ensures;
    }) c.first_set-in-None.result c.in-None.ensures.none c.first_set-in-None.ensures.none
