use Rattle.std.proofs.Common.{◌≡◌}
use Rattle.std.specs.Fmt.{HasWritten, IsPlainFormatter}
use Rattle.ec_words.specs.Masks.{positions_below}
use Rattle.ec_words.proofs.MaskLemmas.{is_empty, joined}
use Rattle.ec_words.proofs.mask.MaskDisplay.fmt.Given as goal

abbrev pub invariant-loop-p : goal.invariant-loop-p
invariant-loop-p g l =
    (l.first ≡ is_empty (positions_below l.p-counter l.mask.0))
    × (IsPlainFormatter l.initial.f → HasWritten g.W.Write.write_str_gives l.initial.f (joined (positions_below l.p-counter l.mask.0)) l.f)
