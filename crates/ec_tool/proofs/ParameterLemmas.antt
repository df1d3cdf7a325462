-- The parameters that are shown.
use Rattle.std.proofs.Common.{◌≡◌, ◌∷◌, [], length, refl, arith}
use Rattle.ec_tool.specs.Words.{Words, texts_of}

pub no_texts : (words : Words) → length words ≡ 0 → texts_of words ≡ []
no_texts [] none = refl
no_texts (word ∷ words) none = absurd (omega arith)
