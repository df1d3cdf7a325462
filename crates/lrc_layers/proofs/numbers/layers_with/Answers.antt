use Rattle.std.proofs.Common.{◌≡◌, ◌+◌, map, ap, ◌∙◌, arith}
use Rattle.std.specs.List.{range_with_len}
use Rattle.ec_model.specs.Lrc.{global_mark, local_mark}
use Rattle.ec_code.specs.Mappings.{layer_at}
use Rattle.ec_code.specs.LrcFaults.{text_of_layer}
use Rattle.lrc_layers.proofs.CheckLemmas.{up_to_next}
use Rattle.lrc_layers.proofs.NumberLemmas.{text_of_added}
use Rattle.lrc_layers.proofs.numbers.layers_with.Goals as goal

pub loop-h-init : goal.loop-h-init
loop-h-init c = (
  omega (arith, c.add.ensures.count, c.new-layers.ensures.count),
  text_of_added (global_mark c.args.d c.args.l) c.global_marks.result c.args.n c.add.new.self.each c.new-layers.result.count 0 c.new-layers.ensures.count
      c.add.ensures.layer c.global_marks.ensures.long c.requires.n c.global_marks.ensures.value,
  λ g lt. absurd (omega (arith, lt)),
)

pub loop-h-preserved : goal.loop-h-preserved
loop-h-preserved c = (
  omega (arith, c.add-in-loop-h.ensures.count, c.loop-h.invariant.0),
  ap (λ t. text_of_layer t) (c.add-in-loop-h.ensures.kept 0 (λ e. omega (arith, e, c.loop-h.invariant.0))) ∙ c.loop-h.invariant.1,
  up_to_next (λ g. text_of_layer (layer_at c.add-in-loop-h.new.self.each (g + 1)) ≡ map (local_mark g c.args.l) (range_with_len 0 c.args.n)) c.loop-h.h
      (λ g lt. ap (λ t. text_of_layer t) (c.add-in-loop-h.ensures.kept (g + 1) (λ e. omega (arith, e, lt, c.loop-h.invariant.0))) ∙ c.loop-h.invariant.2 g lt)
      (text_of_added (local_mark c.loop-h.h c.args.l) c.local_marks.result c.args.n c.add-in-loop-h.new.self.each c.loop-h.layers.count (c.loop-h.h + 1) c.loop-h.invariant.0
      c.add-in-loop-h.ensures.layer c.local_marks.ensures.long c.requires.n c.local_marks.ensures.value),
)
