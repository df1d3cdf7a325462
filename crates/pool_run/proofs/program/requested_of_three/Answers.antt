use Rattle.std.proofs.Common.{refl, arith}
use Rattle.pool_run.proofs.WordLemmas.{three_words, same_text}
use Rattle.pool_run.proofs.program.requested_of_three.Goals as goal

pub returns-then-eq : goal.returns-then-eq
returns-then-eq c =
    c.created.ensures c.args.words.now
    (three_words c.args.words.now c.word-item.result c.profile-item.result _ _ (omega arith) (omega arith) c.word-item.is c.profile-item.is
    (same_text _ _ _ c.as_str.ensures.value c.if-eq.ensures) refl)
