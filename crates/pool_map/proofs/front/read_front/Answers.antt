use Rattle.std.proofs.Common.{rules, ◌≡◌, ◌≢◌, ◌≤◌, ◌∙◌, inr, get_or, length, sym, ap, arith}
use Rattle.std.proofs.lemmas.Bool.Decides.{nat_tests}
use Rattle.rig_disk.proofs.Moments.{only_stays}
use Rattle.pool_map.proofs.FrontLemmas.{front_read, first_byte}
use Rattle.pool_map.proofs.front.read_front.Goals as goal

pub returns-clause-some : goal.returns-clause-some
returns-clause-some g c holds there told =
    let told_then = c.length.ensures.reads ∙ c.in_ok-sync.ensures.reads ∙ told in
    let le : 24 ≤ length there = omega (arith, c.if-len.false, c.in_ok-len.ensures.value there (c.in_ok-sync.ensures.reads ∙ told)) in
    let is = front_read there c.args.front.now c.read_at.new.into _ (search rules) le (c.in_ok-read_at.ensures.count there told_then) (c.in_ok-read_at.ensures.bytes there told_then) in
    let opens : get_or c.read_at.new.into 0 0 ≡ 79 = grind (arith, nat_tests, holds) in
    (le, (sym (first_byte there) ∙ ap (λ t. get_or t 0 0) (sym is) ∙ opens, is))

pub returns-clause-none : goal.returns-clause-none
returns-clause-none g c fails there told =
    let told_then = c.length.ensures.reads ∙ c.in_ok-sync.ensures.reads ∙ told in
    let le : 24 ≤ length there = omega (arith, c.if-len.false, c.in_ok-len.ensures.value there (c.in_ok-sync.ensures.reads ∙ told)) in
    let is = front_read there c.args.front.now c.read_at.new.into _ (search rules) le (c.in_ok-read_at.ensures.count there told_then) (c.in_ok-read_at.ensures.bytes there told_then) in
    let shut : get_or c.read_at.new.into 0 0 ≢ 79 = grind (arith, nat_tests, fails) in
    inr (λ is_open. shut (ap (λ t. get_or t 0 0) is ∙ first_byte there ∙ is_open))

pub returns-then-len-clause-durable : goal.returns-then-len-clause-durable
returns-then-len-clause-durable g c there told =
    only_stays g.R.Rig.clock g.R.Rig.images c.sync.new.self c.length.new.self 16 0 there (c.in_ok-sync.ensures.durable there (sym c.length.ensures.reads ∙ told)) c.length.ensures.any_moment

pub returns-clause-durable : goal.returns-clause-durable
returns-clause-durable g c there told =
    let before = sym c.read_at.ensures.reads ∙ told in
    only_stays g.R.Rig.clock g.R.Rig.images c.length.new.self c.read_at.new.self 16 0 there
    (only_stays g.R.Rig.clock g.R.Rig.images c.sync.new.self c.length.new.self 16 0 there (c.in_ok-sync.ensures.durable there (sym c.length.ensures.reads ∙ before)) c.length.ensures.any_moment)
    c.read_at.ensures.any_moment
