use Rattle.std.proofs.Common.{refl, sym, arith}
use Rattle.pool_run.proofs.WordLemmas.{two_words, same_text}
use Rattle.pool_run.proofs.program.requested.Goals as goal

pub returns-then-eq : goal.returns-then-eq
returns-then-eq c =
    two_words c.args.words.now c.word-item.result c.profile-item.result _ _ (omega arith) (omega arith) c.word-item.is c.profile-item.is
    (same_text _ _ _ c.as_str.ensures.value c.if-eq.ensures) (sym c.as_str-then-eq.ensures.value)

pub returns-then-eq-2 : goal.returns-then-eq-2
returns-then-eq-2 c =
    c.shown.ensures c.args.words.now
    (two_words c.args.words.now c.word-item.result c.profile-item.result _ _ (omega arith) (omega arith) c.word-item.is c.profile-item.is
    (same_text _ _ _ c.as_str-else-eq.ensures.value c.if-eq-2.ensures) refl)
