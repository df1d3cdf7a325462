use Rattle.std.proofs.Common.{sym, ap, ◌∙◌, map}
use Rattle.std.specs.List.{list_any}
use Rattle.ec_model.specs.Versions.{is_same, is_up_to}
use Rattle.shard_model.specs.States.{holds}
use Rattle.shard_state.specs.Records.{recorded}
use Rattle.shard_state.specs.Sound.{logged_in}
use Rattle.shard_state.proofs.HoldLemmas.{held, log_is}
use Rattle.shard_state.proofs.state.ShardState.holds.Goals as goal

pub returns-then-is_up_to : goal.returns-then-is_up_to
returns-then-is_up_to c =
    let v = c.args.version in
    let firm = sym c.is_up_to.ensures ∙ c.if-not-is_up_to.false in
    let same = sym c.is_same.ensures ∙ c.if-is_same.false in
    let later = sym c.is_up_to-2.ensures ∙ c.if-is_up_to.true in
    c.is_logged.ensures
    ∙ ap (list_any (λ n. is_same n.version v)) (log_is c.self.inside.log.items)
    ∙ held (is_up_to c.self.inside.firm v) (is_same c.self.inside.tail v) (is_up_to c.self.inside.tail v)
    (list_any (λ n. is_same n.version v) (map logged_in (map recorded c.self.inside.log.items))) firm same later
    ∙ ap (λ s. holds s.state v) c.self.view_is
