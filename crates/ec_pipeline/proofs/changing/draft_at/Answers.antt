use Rattle.std.proofs.Common.{length, ◌∙◌}
use Rattle.ec_pipeline.proofs.DraftLemmas.{same_place, place_fits}
use Rattle.ec_pipeline.proofs.changing.draft_at.Goals as goal

pub write_draft-requires-clause-new_size : goal.write_draft-requires-clause-new_size
write_draft-requires-clause-new_size g c =
    place_fits (length c.args.bytes.now) c.args.off c.first_byte-at.result c.first_byte-at.ensures.none c.first_byte-at.ensures.some c.requires.new

pub returns-in-Ok-clause-value : goal.returns-in-Ok-clause-value
returns-in-Ok-clause-value g c o is all stored has p =
    let code = (goal.Code-dyn g c.args.code.now).meaning c.args.code.now.1 in
    c.in-Ok.ensures.value o is all stored has p
    ∙ same_place code c.args.checked.now.g.unit p c.args.off c.first_byte-at.result o c.args.bytes.now c.first_byte-at.ensures.none c.first_byte-at.ensures.some
