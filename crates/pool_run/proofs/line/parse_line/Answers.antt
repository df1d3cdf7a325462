use Rattle.std.proofs.Common.{◌≡◌, ◌∙◌, IfOk, sym, subst}
use Rattle.ec_words.specs.Fields.{fields}
use Rattle.pool_run.specs.Lines.{ScriptLine, line_shown}
use Rattle.pool_run.proofs.LineLemmas.{two_pieces}
use Rattle.pool_run.proofs.line.parse_line.Goals as goal

pub returns-in-Some-field-clause-value : goal.returns-in-Some-field-clause-value
returns-in-Some-field-clause-value c =
    let its = two_pieces (fields c.args.text.now) c.in-Some.word.now c.in-Some-field.second.now
    (sym c.field_count.ensures ∙ c.in-2.is) (sym c.in-Some.ensures) (sym c.in-Some-field.ensures) in
    subst (λ (l : ScriptLine). IfOk c.read_two_fields.result (λ line. l ≡ line_shown line)) (sym its) c.read_two_fields.ensures.value
