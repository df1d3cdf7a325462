-- The part of a list up to a version, and the part after it. Source: this project.
use Rattle.std.specs.Prelude.{cond, List, [], ◌∷◌}
use Rattle.ec_model.specs.Versions.{Version, is_up_to}

-- the front of a list whose versions are not above v
abbrev pub up_to : {A : Type 0} → (A → Version) → Version → List A → List A
up_to f v [] = []
up_to f v (x ∷ xs) = cond (is_up_to (f x) v) (x ∷ up_to f v xs) []

-- what follows that front
abbrev pub after : {A : Type 0} → (A → Version) → Version → List A → List A
after f v [] = []
after f v (x ∷ xs) = cond (is_up_to (f x) v) (after f v xs) (x ∷ xs)
