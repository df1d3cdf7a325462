use Rattle.std.proofs.Common.{Err, sym, ap, subst, ◌∙◌}
use Rattle.pool_run.specs.Stored.{IsStored}
use Rattle.pool_run.proofs.StoredLemmas.{mask_below, data_decided}
use Rattle.pool_run.proofs.object.StoredObject.decode.Goals as goal

pub decode_object-requires-clause-below : goal.decode_object-requires-clause-below
decode_object-requires-clause-below g c =
    let code = (goal.Code-dyn g c.args.code.now).meaning c.args.code.now.1 in
    let kept = subst (IsStored code c.args.unit c.requires.stored.0) (sym c.self.view_is) c.requires.stored.1 in
    mask_below c.self.inside.chunks code.n kept.positions

pub unreachable-requires : goal.unreachable-requires
unreachable-requires g c =
    let code = (goal.Code-dyn g c.args.code.now).meaning c.args.code.now.1 in
    let kept = subst (IsStored code c.args.unit c.requires.stored.0) (sym c.self.view_is) c.requires.stored.1 in
    c.decode_object.ensures.not_decided.0 (c.in-Err-NotDecided.is ∙ ap Err c.in-Err-NotDecided.field-0-is) (data_decided code c.self.inside.chunks c.shape-k.ensures.1 kept.positions)
