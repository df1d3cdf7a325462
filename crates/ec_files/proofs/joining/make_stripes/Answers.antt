use Rattle.std.proofs.Common.{◌∙◌, arith, refl}
use Rattle.std.specs.Option.{option_copied}
use Rattle.ec_files.proofs.JoinLemmas.{zeros_are_stripes, stripes_of_one_more}
use Rattle.ec_files.proofs.joining.make_stripes.Goals as goal

pub loop-q-init : goal.loop-q-init
loop-q-init c = (
  zeros_are_stripes c.args.g.k c.args.g.unit c.args.rows.now c.args.chunks.now c.args.from c.args.here c.fill.new.self (c.fill.ensures.len ∙ c.requires.size)
      (λ i lt. c.fill.ensures.clones i 0 (omega (arith, c.fill.ensures.len, lt)) refl),
  refl,
)

pub loop-q-preserved : goal.loop-q-preserved
loop-q-preserved c = (
  stripes_of_one_more c.args.g.k c.args.g.unit c.loop-q.q c.args.rows.now c.args.chunks.now (option_copied c.get.result) c.args.from c.args.here c.loop-q.piece c.add_stripes.new.piece
      c.get.ensures c.add_stripes.ensures.long c.add_stripes.ensures.value c.loop-q.invariant.0,
  c.add_stripes.ensures.long ∙ c.loop-q.invariant.1,
)
