-- What callers of this crate need of boxes.
use Rattle.std.proofs.Common.{ℕ, List, [], ◌∷◌, ◌<◌, length, arith}
use Rattle.ec_code.specs.declared.profile.Plugin.{Plugin}
use Rattle.ec_code.specs.declared.profile.Plugin.TheVariants as plugin

-- an element of a list that has one
pub element : {A : Type 0} (xs : List A) (i : ℕ) → i < length xs → A
element {A} [] i less = absurd (omega (arith, less))
element {A} (x ∷ xs) i less = x

-- what holds of each plugin
pub each_plugin : (P : Plugin → Type 0) → P plugin.Jerasure → P plugin.Lrc → P plugin.Shec → (q : Plugin) → P q
each_plugin P jerasure lrc shec plugin.Jerasure = jerasure
each_plugin P jerasure lrc shec plugin.Lrc = lrc
each_plugin P jerasure lrc shec plugin.Shec = shec
