-- Intervals and slots of an image.
use Rattle.std.proofs.Common.{◌≡◌, ◌<◌, ◌≤◌, ◌^◌, ◌%◌, lit<, ℕ, zero, suc, replicate, length, slice_get, slice_index, Some, None, refl, sym, ap, subst, ◌∙◌, arith}
use Rattle.ec_model.specs.Codes.{CodeRows, IsCode, IsColumn, HasPosition, chunk_of}
use Rattle.ec_model.specs.Rows.{row_at}
use Rattle.ec_model.specs.Versions.{Version}
use Rattle.auth_log.proofs.CallerLemmas.{alive_among}
use Rattle.map_model.proofs.LastLemmas.{some_same, none_some}
use Rattle.ec_matrix.proofs.SumLaws.{dot_unit, dot_comm}
use Rattle.auth_log.specs.Choice.{Info, WentAlive, DecidesAll}
use Rattle.shard_model.specs.Replays.{Replay}
use Rattle.map_model.specs.States.{MapState, kept}
use Rattle.map_model.specs.Sound.{IsSound}
use Rattle.pool_history.specs.Images.{StoredPool, info_of, said_of}

-- ---- intervals

pub alive_is_kept : (state : MapState) (epoch joined : ℕ) (base : Version) → WentAlive state.intervals epoch joined base → state.clean ≤ epoch
    → WentAlive (kept state) epoch joined base
alive_is_kept state epoch joined base a late = (alive_among state.intervals state.clean epoch joined base).1 (a, late)

pub kept_is_alive : (state : MapState) (epoch joined : ℕ) (base : Version) → WentAlive (kept state) epoch joined base → WentAlive state.intervals epoch joined base
kept_is_alive state epoch joined base w = ((alive_among state.intervals state.clean epoch joined base).0 w).0

-- there is one interval of an epoch
pub one_alive : (n : ℕ) (m : MapState) → IsSound n m → (epoch joined others : ℕ) (base its : Version) → WentAlive m.intervals epoch joined base
    → WentAlive m.intervals epoch others its → (joined ≡ others) × (base ≡ its)
one_alive n m sound epoch joined others base its a b =
    let places : a.place ≡ b.place =
    (let da = sound.dated a.place a.interval a.there in let db = sound.dated b.place b.interval b.there in omega (arith, da, db, a.dated, b.dated)) in
    let there : slice_get m.intervals b.place ≡ Some a.interval = subst (λ i. slice_get m.intervals i ≡ Some a.interval) places a.there in
    let same : a.interval ≡ b.interval = some_same a.interval b.interval (sym there ∙ b.there) in
    let pair : (joined, base) ≡ (others, its) = some_same (joined, base) (others, its) (sym a.alive ∙ ap (λ i. i.alive) same ∙ b.alive) in
    (ap (λ p. p.0) pair, ap (λ p. p.1) pair)

-- ---- what a slot says

-- what is said is that of a shard
pub record Says (image : StoredPool) (p : ℕ) (info : Info) : Type 0 where
  pub shard : Replay
  pub there : image.shards p ≡ Some shard
  pub is : info_of shard ≡ info

pub says_of : (image : StoredPool) (p : ℕ) (info : Info) → said_of (image.shards p) ≡ Some info → Says image p info
says_of image p info e =
    elim (image.shards p) as (λ o. image.shards p ≡ o → said_of o ≡ Some info → Says image p info) [
      | None ↦ λ t f. absurd (none_some info f)
      | Some s ↦ λ t f. record { shard = s; there = t; is = some_same (info_of s) info f }
    ] refl e

-- ---- no slots decide nothing

at_first : (k c : ℕ) → 1 ≤ k → slice_index (replicate k c) 0 ≡ c
at_first zero c some = absurd (omega (arith, some))
at_first (suc k) c some = refl

below_byte : (k c j : ℕ) → c < 2 ^ 8 → slice_index (replicate k c) j < 2 ^ 8
below_byte zero c j lt = lit< tt
below_byte (suc k) c zero lt = lt
below_byte (suc k) c (suc j) lt = below_byte k c j lt

length_of : (k c : ℕ) → length (replicate k c) ≡ k
length_of zero c = refl
length_of (suc k) c = let e = length_of k c in omega (arith, e)

all_of : (k c : ℕ) → c < 2 ^ 8 → IsColumn k (replicate k c)
all_of k c lt = record { long = length_of k c; bytes = λ j. below_byte k c j lt }

chunk_first : (code : CodeRows) (c : ℕ) → IsCode code → c < 2 ^ 8 → chunk_of code (replicate code.k c) (slice_index code.places 0) ≡ c % 2 ^ 8
chunk_first code c is lt =
    let row = row_at code.rows (slice_index code.places 0) in
    dot_comm code.k row (replicate code.k c)
    ∙ dot_unit code.k 0 (replicate code.k c) row is.some_data (λ j below. is.units 0 j is.some_data below)
    ∙ ap (λ x. x % 2 ^ 8) (at_first code.k c is.some_data)

pub some_decide : (code : CodeRows) (mask : ℕ) → IsCode code → DecidesAll code mask → ((q : ℕ) → HasPosition mask q → ⊥) → ⊥
some_decide code mask is decides none =
    let p = slice_index code.places 0 in
    let same = (decides p (is.placed 0 is.some_data)).agree (replicate code.k 0) (replicate code.k 1) (all_of code.k 0 (lit< tt)) (all_of code.k 1 (lit< tt))
    (λ q below has. absurd (none q has)) in
    let zero_is : 0 ≡ 1 % 2 ^ 8 = sym (chunk_first code 0 is (lit< tt)) ∙ same ∙ chunk_first code 1 is (lit< tt) in
    absurd (omega (arith, zero_is))
