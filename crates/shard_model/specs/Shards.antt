-- A shard's geometry and state as one value. It is stored as numbers and lists. Source: this project.
use Rattle.std.specs.Prelude.{◌≡◌, ℕ, zero, suc, Bool, List, [], Option, Some, None, refl}
use Rattle.std.specs.Ordering.{nat_cmp}
use Rattle.std.specs.Cmp.Lexicographic.{slice_cmp}
use Rattle.std.specs.Coded.{Coded, code_by, coded×, coded_ℕ, coded_bool, coded_list, coded_option}
use Rattle.std.specs.FinMap as fin
use Rattle.ec_model.specs.Versions.{Version, version_code}
use Rattle.shard_model.specs.Objects.{ShardObject, shard_object_code, Geometry, ShardObjects}
use Rattle.shard_model.specs.Changes.{Kind, OfWrite, OfReplace, OfRemove, OfSetAttr, OfRemoveAttr, OfPast, Undo, Fresh, Extent, Kept, Attr, Settled, whole_undo}
use Rattle.shard_model.specs.States.{Phase, Unbegun, Based, Running, State, Logged, state_after}
use Rattle.shard_model.specs.Steps.{Step}

-- how objects lie in stripes, and what the shard holds
pub record Shard : Type 0 where
  pub geometry : Geometry
  pub state : State

-- the shard after a step
abbrev pub stepped : Shard → Step → Shard
stepped s step = record { geometry = s.geometry; state = state_after s.geometry s.state step }

-- each kind, undo, entry, phase and shard is told by numbers and lists
abbrev pub kind_number : Kind → ℕ
kind_number OfWrite = 0
kind_number OfReplace = 1
kind_number OfRemove = 2
kind_number OfSetAttr = 3
kind_number OfRemoveAttr = 4
kind_number OfPast = 5

abbrev pub kind_numbered : ℕ → Kind
kind_numbered zero = OfWrite
kind_numbered (suc zero) = OfReplace
kind_numbered (suc (suc zero)) = OfRemove
kind_numbered (suc (suc (suc zero))) = OfSetAttr
kind_numbered (suc (suc (suc (suc zero)))) = OfRemoveAttr
kind_numbered (suc (suc (suc (suc (suc n))))) = OfPast

abbrev pub kind_back : (k : Kind) → kind_numbered (kind_number k) ≡ k
kind_back OfWrite = refl
kind_back OfReplace = refl
kind_back OfRemove = refl
kind_back OfSetAttr = refl
kind_back OfRemoveAttr = refl
kind_back OfPast = refl

abbrev pub kind_code : Coded Kind
kind_code = code_by ℕ coded_ℕ kind_number kind_numbered kind_back

-- numbers, an object, bytes, bytes that may be missing
abbrev pub UndoParts : Type 0
UndoParts = (ℕ × ℕ) × ((ℕ × Option ShardObject) × (List ℕ × Option (List ℕ)))

abbrev pub undo_parts : Undo → UndoParts
undo_parts Fresh = ((0, 0), ((0, None), ([], None)))
undo_parts (Extent size at before) = ((1, size), ((at, None), (before, None)))
undo_parts (Kept before) = ((2, 0), ((0, Some before), ([], None)))
undo_parts (Attr attr before) = ((3, 0), ((0, None), (attr, before)))
undo_parts Settled = ((4, 0), ((0, None), ([], None)))

abbrev pub undo_from : ℕ → UndoParts → Undo
undo_from zero p = Fresh
undo_from (suc zero) p = Extent p.0.1 p.1.0.0 p.1.1.0
undo_from (suc (suc zero)) p = whole_undo p.1.0.1
undo_from (suc (suc (suc zero))) p = Attr p.1.1.0 p.1.1.1
undo_from (suc (suc (suc (suc n)))) p = Settled

abbrev pub undo_back : (u : Undo) → undo_from (undo_parts u).0.0 (undo_parts u) ≡ u
undo_back Fresh = refl
undo_back (Extent size at before) = refl
undo_back (Kept before) = refl
undo_back (Attr attr before) = refl
undo_back Settled = refl

abbrev pub undo_code : Coded Undo
undo_code =
    code_by UndoParts
    (coded× (coded× coded_ℕ coded_ℕ) (coded× (coded× coded_ℕ (coded_option shard_object_code)) (coded× (coded_list coded_ℕ) (coded_option (coded_list coded_ℕ)))))
    undo_parts (λ p. undo_from p.0.0 p) undo_back

abbrev pub logged_code : Coded Logged
logged_code =
    code_by ((Version × Version) × (List ℕ × (Kind × Undo)))
    (coded× (coded× version_code version_code) (coded× (coded_list coded_ℕ) (coded× kind_code undo_code)))
    (λ n. ((n.version, n.prior), (n.name, (n.kind, n.undo))))
    (λ p. record { version = p.0.0; prior = p.0.1; name = p.1.0; kind = p.1.1.0; undo = p.1.1.1 }) (λ _. refl)

abbrev pub phase_number : Phase → ℕ
phase_number Unbegun = 0
phase_number Based = 1
phase_number Running = 2

abbrev pub phase_numbered : ℕ → Phase
phase_numbered zero = Unbegun
phase_numbered (suc zero) = Based
phase_numbered (suc (suc n)) = Running

abbrev pub phase_back : (p : Phase) → phase_numbered (phase_number p) ≡ p
phase_back Unbegun = refl
phase_back Based = refl
phase_back Running = refl

abbrev pub phase_code : Coded Phase
phase_code = code_by ℕ coded_ℕ phase_number phase_numbered phase_back

abbrev pub shard_code : Coded Shard
shard_code =
    code_by (((ℕ × ℕ) × (ShardObjects × List Logged)) × ((Version × Version) × (Version × ((ℕ × Bool) × Phase))))
    (coded× (coded× (coded× coded_ℕ coded_ℕ) (coded× (fin.code {R = slice_cmp nat_cmp} (coded_list coded_ℕ) shard_object_code) (coded_list logged_code)))
    (coded× (coded× version_code version_code) (coded× version_code (coded× (coded× coded_ℕ coded_bool) phase_code))))
    (λ s. (((s.geometry.k, s.geometry.unit), (s.state.objects, s.state.log)), ((s.state.tail, s.state.firm), (s.state.head, ((s.state.les, s.state.partial), s.state.phase)))))
    (λ p. record {
      geometry = record { k = p.0.0.0; unit = p.0.0.1 };
      state = record { objects = p.0.1.0; log = p.0.1.1; tail = p.1.0.0; firm = p.1.0.1; head = p.1.1.0; les = p.1.1.1.0.0; partial = p.1.1.1.0.1; phase = p.1.1.1.1 };
    })
    (λ _. refl)
