use Rattle.std.proofs.Common.{arith, sym, ◌∙◌, subst, ℕ, ◌↔◌, IsSome, length, true, false, ◌+◌, ◌<◌, ◌≡◌}
use Rattle.ec_model.specs.Codes.{HasPosition}
use Rattle.stripe_map.specs.Chunks.{chunk_of_position}
use Rattle.stripe_map.proofs.ChunkLemmas.{HasBelow, some_there, no_position, one_position_more, no_position_more, mask_of}
use Rattle.stripe_map.proofs.chunks.Chunks.mask.Goals as goal
use Rattle.stripe_map.proofs.chunks.Chunks.mask.Goals.{then-is_some, else-is_some}

pub loop-p-init : goal.loop-p-init
loop-p-init c = no_position c.self.inside.list

pub loop-p-preserved : goal.loop-p-preserved
loop-p-preserved c =
    let inside : c.loop-p.p < length c.self.inside.list = omega (arith, c.loop-p-test.true, c.self.invariant) in
    elim c.if-is_some.branch [
      | then-is_some w ↦
          subst (λ bits. HasBelow c.self.inside.list bits (c.loop-p.p + 1)) (sym w.bits-is)
          (one_position_more c.self.inside.list c.loop-p.bits c.loop-p.p c.loop-p-test.true
          (some_there c.self.inside.list c.loop-p.p c.index-self-p.result c.is_some.result true inside c.is_some.ensures w.if-is_some.true) c.loop-p.invariant)
      | else-is_some w ↦
          subst (λ bits. HasBelow c.self.inside.list bits (c.loop-p.p + 1)) (sym w.bits-is)
          (no_position_more c.self.inside.list c.loop-p.bits c.loop-p.p
          (some_there c.self.inside.list c.loop-p.p c.index-self-p.result c.is_some.result false inside c.is_some.ensures w.if-is_some.false) c.loop-p.invariant)
    ]

pub returns-clause-value : goal.returns-clause-value
returns-clause-value c =
    let last : c.loop-p.p ≡ 16 = omega (arith, c.loop-p-test.false, c.loop-p.auto.p-end) in
    subst (λ list. (p : ℕ) → HasPosition c.loop-p.bits p ↔ IsSome (chunk_of_position list p)) c.self.view_is
    (mask_of c.self.inside.list c.loop-p.bits c.loop-p.p (c.self.invariant ∙ sym last) c.loop-p.invariant)
