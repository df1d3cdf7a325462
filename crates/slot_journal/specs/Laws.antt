-- Laws of the grammar of texts. Source: this project.
use Rattle.std.specs.Prelude.{◌≡◌, ℕ, List}
use Rattle.slot_journal.specs.Text.{IsText, IsBadText}

-- a text has one list of bodies and one place of its closed gate, whatever heads it is read for
abbrev pub TextsHaveOneReading : Type 0
TextsHaveOneReading =
    (text head other : List ℕ) (bodies those : List (List ℕ)) (place there : ℕ)
    → IsText head bodies place text → IsText other those there text → (bodies ≡ those) × (place ≡ there)

-- a text of the grammar has no place where it fails, and any other text has one first such place at most
abbrev pub BadTextsHaveOnePlace : Type 0
BadTextsHaveOnePlace =
    (text head : List ℕ) (at : ℕ) → IsBadText head text at
    → ((bodies : List (List ℕ)) (place : ℕ) → IsText head bodies place text → ⊥)
    × ((other : ℕ) → IsBadText head text other → other ≡ at)
