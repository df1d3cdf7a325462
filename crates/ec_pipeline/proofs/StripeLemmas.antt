-- Stripes of an object that the slots of a set give.
use Rattle.std.proofs.Common.{◌≡◌, ℕ, ◌+◌, ◌*◌, ◌^◌, ◌<◌, ◌≤◌, List, length, take, drop, sym, ap, ◌∙◌, arith, subst, Some, inl, inr}
use Rattle.std.specs.Int.{div_ceil}
use Rattle.std.specs.List.{All}
use Rattle.std.proofs.lemmas.Bool.{cases_eq}
use Rattle.std.proofs.lemmas.Grind.{common_steps}
use Rattle.std.proofs.lemmas.List.Elements.{All-take, All-drop, All-append, All-replicate}
use Rattle.std.proofs.lemmas.Nat.{mul-le}
use Rattle.ec_model.specs.Codes.{CodeRows}
use Rattle.ec_model.specs.Stripes.{stripe_count, shard_len}
use Rattle.shard_store.specs.Ranges.{range_of, object_bytes}
use Rattle.shard_store.specs.Shelved.{Shelved}
use Rattle.shard_store.specs.Shelves.{store_at}
use Rattle.ec_positions.specs.Positions.{position_list}
use Rattle.ec_positions.specs.Windows.{stripes_from}
use Rattle.ec_positions.proofs.ListLemmas.{length-position_list}
use Rattle.ec_positions.proofs.WindowLemmas.{part_list, length-stripes_from, whole_count}
use Rattle.ec_positions.proofs.WriteLemmas.{some_width}
use Rattle.ec_pipeline.specs.Reading.{GiveRange, HasStripesOf}

-- the bytes of a position of whole stripes
pub units_of : (k unit count : ℕ) → 1 ≤ k → 1 ≤ unit → shard_len k unit (count * (k * unit)) ≡ count * unit
units_of k unit count some_k some = ap (λ n. n * unit) (whole_count count (k * unit) (some_width k unit some_k some))

zero_stripes : (k unit : ℕ) → stripe_count k unit 0 ≡ 0
zero_stripes k unit = grind arith

positive_is : (n : ℕ) → (n ≡ 0 → ⊥) → 0 < n
positive_is n some = grind arith

pub in_range : (list : List ℕ) (at n : ℕ) → at + n ≤ length list → range_of (Some list) at n ≡ Some (take n (drop at list))
in_range list at n inside = grind (arith, common_steps)

-- the slots that have an object give the list of their position of some of its stripes
pub stripes_given : (code : CodeRows) (unit set : ℕ) (shelf : Shelved) (name : List ℕ) (first count : ℕ) (old : List ℕ) → 1 ≤ code.k → 1 ≤ unit → 0 < count
    → first + count ≤ stripe_count code.k unit (length old) → HasStripesOf code unit set shelf name old → GiveRange code unit set shelf name (first * unit) (stripes_from (code.k * unit) first count old)
stripes_given code unit set shelf name first count old some_k some positive inside has s there =
    let width = code.k * unit in
    let list = position_list code unit old s in
    let part = part_list code unit s first count old some_k some inside in
    let units : shard_len code.k unit (length (stripes_from width first count old)) ≡ count * unit =
    ap (λ n. div_ceil n width * unit) (length-stripes_from width first count old) ∙ ap (λ n. n * unit) (whole_count count width (some_width code.k unit some_k some)) in
    let rows : (first + count) * unit ≤ shard_len code.k unit (length old) = mul-le (first + count) unit (stripe_count code.k unit (length old)) unit inside (omega arith) in
    let both : first * unit + count * unit ≡ (first + count) * unit = grind arith in
    ap (λ n. range_of (object_bytes (store_at shelf s) name) (first * unit) n) units
    ∙ ap (λ o. range_of o (first * unit) (count * unit)) (has s there (some_bytes old inside))
    ∙ in_range list (first * unit) (count * unit) (omega (arith, rows, both, length-position_list code unit old s))
    ∙ ap (λ l. Some l) (sym part)
  where
    some_bytes : (bytes : List ℕ) → first + count ≤ stripe_count code.k unit (length bytes) → 0 < length bytes
    some_bytes bytes inside = elim (cases_eq (length bytes) 0) [
      | inl none ↦ absurd (omega (arith, subst (λ n. first + count ≤ stripe_count code.k unit n) none inside, positive, zero_stripes code.k unit))
      | inr some ↦ positive_is (length bytes) some
    ]

pub all_stripes : (width first count : ℕ) (old : List ℕ) → All (λ b. b < 2 ^ 8) old → All (λ b. b < 2 ^ 8) (stripes_from width first count old)
all_stripes width first count old all =
    All-append (λ b. b < 2 ^ 8) _ _ (All-take (λ b. b < 2 ^ 8) (count * width) (drop (first * width) old) (All-drop (λ b. b < 2 ^ 8) (first * width) old all))
    (All-replicate (λ b. b < 2 ^ 8) _ 0 (omega arith))

-- whole stripes have whole chunks
pub shard_whole : (k unit from count : ℕ) → 1 ≤ k → 1 ≤ unit → from ≡ k → shard_len k unit (count * (from * unit)) ≡ count * unit
shard_whole k unit from count some_k some is =
    ap (λ x. shard_len k unit (count * (x * unit))) is ∙ ap (λ x. x * unit) (whole_count count (k * unit) (some_width k unit some_k some))
