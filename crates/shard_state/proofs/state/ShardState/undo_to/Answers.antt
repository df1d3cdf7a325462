use Rattle.std.proofs.Common.{sym, ap, not, ◌∙◌}
use Rattle.std.proofs.lemmas.Bool.{and_from}
use Rattle.shard_model.specs.States.{holds}
use Rattle.shard_state.proofs.HoldLemmas.{past_given}
use Rattle.shard_state.proofs.state.ShardState.undo_to.Goals as goal

pub returns-clause-past : goal.returns-clause-past
returns-clause-past c =
    past_given c.args.self.now c.back.new.self c.args.version c.back.ensures.stripes c.back.ensures.value c.requires (sym c.holds.ensures ∙ c.if-not-holds.false)

pub back-requires : goal.back-requires
back-requires c = and_from (not c.args.self.now.state.partial) (holds c.args.self.now.state c.args.version) (ap not c.requires) (sym c.holds.ensures ∙ c.if-not-holds.false)
