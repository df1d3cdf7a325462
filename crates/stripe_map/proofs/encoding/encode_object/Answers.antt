use Rattle.std.proofs.Common.{subst, sym}
use Rattle.ec_model.specs.Codes.{IsPositionList}
use Rattle.stripe_map.proofs.EncodingLemmas.{position_list}
use Rattle.stripe_map.proofs.encoding.encode_object.Goals as goal

pub returns : goal.returns
returns g c =
    let code = (goal.Code-dyn g c.args.code.now).meaning c.args.code.now.1 in
    subst (IsPositionList code c.args.g.unit c.args.bytes.now c.args.p) (sym c.of.ensures)
    (position_list code c.args.g.k c.args.g.unit c.row_of-row.result c.args.bytes.now c.args.p c.in_ok-list.list.items c.requires.same_k c.row_of-row.ensures.inside c.in_ok-list.ensures.long c.in_ok-list.ensures.value)
