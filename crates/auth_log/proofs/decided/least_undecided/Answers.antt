use Rattle.std.proofs.Common.{◌≡◌, Some, refl, ap, length, slice_get, arith}
use Rattle.std.proofs.lemmas.Bool.{false≢true}
use Rattle.std.proofs.lemmas.Option.{slice_get_read}
use Rattle.auth_log.proofs.DecidedLemmas.{one_decided, one_undecided}
use Rattle.auth_log.proofs.decided.least_undecided.Goals as goal
use Rattle.auth_log.proofs.decided.least_undecided.Goals.{then-not-is_decided, else-not-is_decided}

pub is_decided-requires : goal.is_decided-requires
is_decided-requires g c = λ joined base e. c.requires c.interval-item.result.epoch joined (record {
  place = c.loop-interval.interval-index;
  interval = c.interval-item.result;
  base = base;
  there = slice_get_read c.args.intervals.now _ c.loop-interval.interval-index c.interval-item.result refl c.loop-interval-test.true c.interval-item.is;
  dated = refl;
  alive = e;
})

pub loop-interval-preserved : goal.loop-interval-preserved
loop-interval-preserved g c =
    let code = (goal.Code-dyn g c.args.code.now).meaning c.args.code.now.1 in
    let i = c.loop-interval.interval-index in
    let interval = c.interval-item.result in
    let there : slice_get c.args.intervals.now i ≡ Some interval =
    slice_get_read c.args.intervals.now _ i interval refl c.loop-interval-test.true c.interval-item.is in
    elim c.if-not-is_decided.branch [
      | then-not-is_decided w ↦
          let at : c.interval.inside.epoch ≡ interval.epoch = ap (λ i. i.epoch) c.interval.view_is in
          rw w.least-is rw w.earlier.ensures rw at
          (one_undecided code c.args.eligible.0 c.args.epoch c.args.intervals.now i interval c.loop-interval.least there (λ d. false≢true (w.if-not-is_decided.ensures.1 d)) c.loop-interval.invariant)
      | else-not-is_decided w ↦ rw w.least-is
          (one_decided code c.args.eligible.0 c.args.epoch c.args.intervals.now i interval c.loop-interval.least there (w.if-not-is_decided.ensures.0 refl) c.loop-interval.invariant)
    ]

pub returns : goal.returns
returns g c = let end : c.loop-interval.interval-index ≡ length c.args.intervals.now = omega arith in rw (← end) c.loop-interval.invariant
