-- A map's steps are read off their bytes.
use Rattle.std.proofs.Common.{◌≡◌, ℕ, zero, suc, ◌<◌, ◌^◌, true, false, cond, ◌==◌, List, [], ◌∷◌, ◌++◌, get_or, refl, sym, ap, subst, ◌∙◌, Option, Some, arith}
use Rattle.std.specs.Int.{bytes_high_first}
use Rattle.std.proofs.lemmas.Bool.{eqb-true}
use Rattle.std.proofs.lemmas.Nat.{be_bytes_2, from_be_bytes-to_be_bytes_2}
use Rattle.std.proofs.lemmas.List.{append_assoc}
use Rattle.ec_words.specs.Readers.{version_bytes, IsWord, HasWords}
use Rattle.ec_words.specs.Readers.{Reader, AreBytes, IsReadingOf, mapped, both, read_byte, read_u32, read_counted, read_version}
use Rattle.ec_words.proofs.ReaderLemmas.{same_read, not_read, parts, on, both_reading, byte_reading, u32_reading}
use Rattle.ec_words.proofs.ReaderLemmas.{counted_list, version_reading}
use Rattle.map_model.specs.Steps.{MapStep, Profile, Begin, Alive, Mark}
use Rattle.pool_map.specs.Steps.{mask_bytes, step_bytes, IsWritable}
use Rattle.pool_map.specs.StepReading.{mask_from, read_mask, begin_of, alive_of, mark_of, read_lines, read_begin, read_alive, read_mark, read_kind, read_step}

-- values read in another form, which can be turned back
mapped_reads : {X Y : Type 0} {Has : X → Type 0} {bytes_of : X → List ℕ} (f : X → Y) (reader : Reader X) (reading : IsReadingOf reader bytes_of Has)
    (bytes_y : Y → List ℕ) (HasY : Y → Type 0) (tag : List ℕ) → ((x : X) → Has x → bytes_y (f x) ≡ tag ++ bytes_of x) → ((x : X) → Has x → HasY (f x))
    → (text : List ℕ) (y : Y) (rest : List ℕ) → AreBytes text → mapped f reader text ≡ Some (y, rest) → HasY y × (tag ++ text ≡ bytes_y y ++ rest)
mapped_reads {bytes_of = bytes_of} f reader reading bytes_y HasY tag same_bytes has_there text y rest all e =
    let a = parts reader reading (λ x rest. Some (f x, rest)) text y rest all e in
    let same = same_read (f a.x) y a.mid rest a.next in (
      subst HasY same.0 (has_there a.x a.has),
      ap (λ t. tag ++ t) a.is ∙ sym (append_assoc tag (bytes_of a.x) a.mid) ∙ ap (λ t. t ++ a.mid) (sym (same_bytes a.x a.has))
          ∙ (λ i. bytes_y (same.0 i) ++ same.1 i),
    )

two_bytes : IsReadingOf (both read_byte read_byte) (λ p. (p.0 ∷ []) ++ (p.1 ∷ [])) (λ p. (p.0 < 256) × (p.1 < 256))
two_bytes = both_reading read_byte read_byte byte_reading byte_reading

small : (a b : ℕ) → a < 256 → b < 256 → (i : ℕ) → get_or (a ∷ b ∷ []) i 0 < 256
small a b la lb zero = la
small a b la lb (suc zero) = lb
small a b la lb (suc (suc i)) = omega arith

mask_is : (p : ℕ × ℕ) → (p.0 < 256) × (p.1 < 256) → mask_bytes (mask_from p) ≡ p.0 ∷ p.1 ∷ []
mask_is p has = be_bytes_2 (p.0 ∷ p.1 ∷ []) (mask_from p) refl (small p.0 p.1 has.0 has.1) (omega arith)

mask_fits : (p : ℕ × ℕ) → (p.0 < 256) × (p.1 < 256) → mask_from p < 2 ^ 16
mask_fits p has = omega (arith, has.0, has.1)

pub mask_reading : IsReadingOf read_mask mask_bytes (λ m. m < 2 ^ 16)
mask_reading = record {
  reads = mapped_reads mask_from (both read_byte read_byte) two_bytes mask_bytes (λ m. m < 2 ^ 16) [] mask_is mask_fits;
  spelled = λ m rest has. ap (λ v. Some (v, rest)) (from_be_bytes-to_be_bytes_2 m has);
}

begin_parts : IsReadingOf (both read_u32 read_mask) (λ p. bytes_high_first 4 p.0 ++ mask_bytes p.1) (λ p. IsWord p.0 × (p.1 < 2 ^ 16))
begin_parts = both_reading read_u32 read_mask u32_reading mask_reading

alive_parts : IsReadingOf (both read_u32 (both read_mask read_version)) (λ p. bytes_high_first 4 p.0 ++ (mask_bytes p.1.0 ++ version_bytes p.1.1))
    (λ p. IsWord p.0 × ((p.1.0 < 2 ^ 16) × HasWords p.1.1))
alive_parts = both_reading read_u32 (both read_mask read_version) u32_reading (both_reading read_mask read_version mask_reading version_reading)

module _ (text : List ℕ) (s : MapStep) (rest : List ℕ) (all : AreBytes text) where
  abbrev Spells : ℕ → Type 0
  Spells kind = IsWritable s × (kind ∷ text ≡ step_bytes s ++ rest)

  of_lines : read_lines text ≡ Some (s, rest) → Spells 1
  of_lines e = mapped_reads Profile read_counted counted_list step_bytes IsWritable (1 ∷ []) (λ x has. refl) (λ x has. has) text s rest all e

  of_begin : read_begin text ≡ Some (s, rest) → Spells 2
  of_begin e = mapped_reads begin_of (both read_u32 read_mask) begin_parts step_bytes IsWritable (2 ∷ []) (λ x has. refl) (λ x has. has) text s rest all e

  of_alive : read_alive text ≡ Some (s, rest) → Spells 3
  of_alive e = mapped_reads alive_of (both read_u32 (both read_mask read_version)) alive_parts step_bytes IsWritable (3 ∷ []) (λ x has. refl) (λ x has. has) text s rest all e

  of_mark : read_mark text ≡ Some (s, rest) → Spells 4
  of_mark e = mapped_reads mark_of (both read_byte read_byte) two_bytes step_bytes IsWritable (4 ∷ []) (λ x has. refl) (λ x has. has) text s rest all e

  by_kind : (kind n : ℕ) (one other : Option (MapStep × List ℕ)) → (one ≡ Some (s, rest) → Spells n) → (other ≡ Some (s, rest) → Spells kind)
      → cond (kind == n) one other ≡ Some (s, rest) → Spells kind
  by_kind kind n one other first second e =
      elim (kind == n) as (λ b. (kind == n) ≡ b → cond b one other ≡ Some (s, rest) → Spells kind) [
        | true ↦ λ is e. subst Spells (sym (eqb-true kind n is)) (first e)
        | false ↦ λ is e. second e
      ] refl e

  kind_reads : (kind : ℕ) → read_kind kind text ≡ Some (s, rest) → Spells kind
  kind_reads kind =
      by_kind kind 1 _ _ of_lines
      (by_kind kind 2 _ _ of_begin
      (by_kind kind 3 _ _ of_alive
      (by_kind kind 4 _ _ of_mark (λ e. absurd (not_read s rest e)))))

spelled : (s : MapStep) (rest : List ℕ) → IsWritable s → read_step (step_bytes s ++ rest) ≡ Some (s, rest)
spelled (Profile lines) rest has = on read_counted counted_list (λ x rest. Some (Profile x, rest)) lines rest has
spelled (Begin epoch up) rest has = on (both read_u32 read_mask) begin_parts (λ x rest. Some (begin_of x, rest)) (epoch, up) rest has
spelled (Alive epoch joined base) rest has = on (both read_u32 (both read_mask read_version)) alive_parts (λ x rest. Some (alive_of x, rest)) (epoch, (joined, base)) rest has
spelled (Mark slot down) rest has = refl

step_reads : (text : List ℕ) (s : MapStep) (rest : List ℕ) → AreBytes text → read_step text ≡ Some (s, rest) → IsWritable s × (text ≡ step_bytes s ++ rest)
step_reads [] s rest all e = absurd (not_read s rest e)
step_reads (kind ∷ text) s rest all e = kind_reads text s rest all.1 kind e

pub step_reading : IsReadingOf read_step step_bytes IsWritable
step_reading = record { reads = step_reads; spelled = spelled }
