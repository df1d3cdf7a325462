use Rattle.std.proofs.Common.{◌≡◌, ◌<◌, take, length, ap, ◌∙◌, subst, refl, arith}
use Rattle.std.proofs.Math.Seq.{take-length}
use Rattle.ec_files.specs.Chunks.{IsSetOf}
use Rattle.ec_files.proofs.PositionLemmas.{one_position_more}
use Rattle.ec_files.proofs.positions.set_of.Goals as goal

pub loop-p-preserved : goal.loop-p-preserved
loop-p-preserved c =
    let lt : c.loop-p.p-index < length c.args.positions.now = omega arith in
    one_position_more c.args.positions.now c.loop-p.bits c.loop-p.p-index _ (c.requires c.loop-p.p-index 0 lt) lt refl c.loop-p.invariant

pub returns : goal.returns
returns c =
    let end : c.loop-p.p-index ≡ length c.args.positions.now = omega arith in
    subst (λ l. IsSetOf l c.loop-p.bits) (ap (λ n. take n c.args.positions.now) end ∙ take-length c.args.positions.now) c.loop-p.invariant
