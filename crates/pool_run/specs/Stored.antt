-- Objects as they are kept. Source: this project.
-- `unit` is the bytes of a chunk in one stripe.
use Rattle.std.specs.Prelude.{◌≡◌, ◌↔◌, ◌<◌, ◌≤◌, ℕ, List, length, Option, Some, None, IsSome, ⊤, refl}
use Rattle.std.specs.Ordering.{nat_cmp}
use Rattle.std.specs.Cmp.Lexicographic.{slice_cmp}
use Rattle.std.specs.Option.{option_map}
use Rattle.std.specs.Coded.{Coded, code_by, coded_ℕ, coded_list, coded_option, coded×}
use Rattle.std.specs.FinMap as map
use Rattle.ec_model.specs.Codes.{CodeRows}
use Rattle.ec_positions.specs.Objects.{Object, Objects, max_usage, usage}
use Rattle.stripe_map.specs.Chunks.{chunk_of_position}
use Rattle.stripe_map.specs.Decoding.{AreOfObject}

-- the bytes of the longest object
abbrev pub max_object : ℕ
max_object = 67108864

-- what is kept of an object: the number of its bytes, and its chunks by position
pub record Stored : Type 0 where
  pub size : ℕ
  pub chunks : List (Option (List ℕ))

-- it is coded as the two
abbrev pub coded_stored : Coded Stored
coded_stored =
    code_by (ℕ × List (Option (List ℕ))) (coded× coded_ℕ (coded_list (coded_option (coded_list coded_ℕ)))) (λ o. (o.size, o.chunks))
    (λ pair. record { size = pair.0; chunks = pair.1 }) (λ _. refl)

-- exactly the positions below n have a chunk
abbrev pub HaveChunksBelow : List (Option (List ℕ)) → ℕ → Type 0
HaveChunksBelow chunks n = (p : ℕ) → IsSome (chunk_of_position chunks p) ↔ p < n

-- an object of these bytes is kept: its size, and the chunks of all positions of the code
pub record IsStored (code : CodeRows) (unit : ℕ) (bytes : List ℕ) (stored : Stored) : Type 0 where
  pub within_limit : stored.size ≤ max_object
  pub of_object : AreOfObject code unit stored.chunks stored.size bytes
  pub positions : HaveChunksBelow stored.chunks code.n

-- the stored objects by name
abbrev pub StoredObjects : Type 0
StoredObjects = map.FinMap (slice_cmp nat_cmp) Stored

-- an object that may be there is kept exactly if it is there. It has no attributes: no line sets one so far
abbrev pub IsKept : CodeRows → ℕ → Option Object → Option Stored → Type 0
IsKept code unit (Some object) (Some stored) = IsStored code unit object.bytes stored × (object.attrs ≡ map.empty)
IsKept code unit None None = ⊤
IsKept code unit _ _ = ⊥

-- what is kept of some objects: each of them by its name, how many they are, and the bytes that they take
pub record Kept : Type 0 where
  pub objects : StoredObjects
  pub count : ℕ
  pub usage : ℕ

-- it is coded as the three
abbrev pub coded_kept : Coded Kept
coded_kept =
    code_by (StoredObjects × (ℕ × ℕ)) (coded× (map.code {R = slice_cmp nat_cmp} (coded_list coded_ℕ) coded_stored) (coded× coded_ℕ coded_ℕ))
    (λ k. (k.objects, (k.count, k.usage))) (λ p. record { objects = p.0; count = p.1.0; usage = p.1.1 }) (λ _. refl)

-- nothing is kept
abbrev pub nothing : Kept
nothing = record { objects = map.empty; count = 0; usage = 0 }

-- the objects are kept, name by name. They take no more than they may
pub record AreStored (code : CodeRows) (unit : ℕ) (objects : Objects) (kept : Kept) : Type 0 where
  pub each : (name : List ℕ) → IsKept code unit (map.get objects name) (map.get kept.objects name)
  pub count : kept.count ≡ map.len objects
  pub taken : kept.usage ≡ usage objects
  pub within : usage objects ≤ max_usage

-- what holds of each list of objects that is kept so
abbrev pub OfKept : CodeRows → ℕ → Kept → (Objects → Type 0) → Type 0
OfKept code unit kept P = (objects : Objects) → AreStored code unit objects kept → P objects

-- the bytes of an object, if it is there
abbrev pub bytes_at : Objects → List ℕ → Option (List ℕ)
bytes_at objects name = option_map (λ o. o.bytes) (map.get objects name)

-- the size of an object, if it is there
abbrev pub size_at : Objects → List ℕ → Option ℕ
size_at objects name = option_map (λ o. length o.bytes) (map.get objects name)

-- a size, or 0 if there is none
abbrev pub or_zero : Option ℕ → ℕ
or_zero None = 0
or_zero (Some size) = size
