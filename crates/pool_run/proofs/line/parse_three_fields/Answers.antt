use Rattle.std.proofs.Common.{◌≡◌, IfOk, sym, subst}
use Rattle.ec_words.specs.Fields.{fields}
use Rattle.pool_run.specs.Lines.{ScriptLine, line_shown}
use Rattle.pool_run.proofs.LineLemmas.{three_pieces}
use Rattle.pool_run.proofs.line.parse_three_fields.Goals as goal

pub returns-clause-value : goal.returns-clause-value
returns-clause-value c =
    let its = three_pieces (fields c.args.text.now) c.args.word.now c.in-Some-Some.name.now c.in-Some-Some.third.now
    c.requires.count c.requires.first (sym c.in-Some-Some.ensures) (sym c.in-Some-Some.ensures') in
    subst (λ (l : ScriptLine). IfOk c.read_three_fields.result (λ line. l ≡ line_shown line)) (sym its) c.read_three_fields.ensures.value
