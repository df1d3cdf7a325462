-- Steps are read off their bytes.
use Rattle.std.proofs.Common.{◌≡◌, ℕ, zero, suc, ◌<◌, ◌≤◌, Bool, true, false, cond, nat_le, ◌==◌, List, [], ◌∷◌, ◌++◌, length, refl, sym, ap, subst, ◌∙◌, Option, Some, None, arith}
use Rattle.std.specs.List.{AllByRecursion, flat_map, list_all}
use Rattle.std.proofs.lemmas.Bool.{and_parts, leb-true}
use Rattle.std.proofs.lemmas.List.{append-nil}
use Rattle.std.proofs.lemmas.Bool.{eqb-true}
use Rattle.ec_model.specs.Versions.{Version}
use Rattle.ec_words.specs.Names.{is_name, is_name_byte}
use Rattle.shard_model.specs.Changes.{Change, Write, Replace, Remove, SetAttr, RemoveAttr}
use Rattle.shard_model.specs.Steps.{Back, Firm, Trim, Started, Partial, Put, Drop, Clear, Reset, Step, Log, Control, Recover}
use Rattle.shard_model.specs.StepBytes.{version_bytes, name_bytes, pair_bytes, pairs_bytes, head_bytes, step_bytes, HasWords, IsName, IsPair, ArePairs, IsWritableChange, IsWritable}
use Rattle.shard_model.specs.StepReading.{AreBytes, IsReadingOf, mapped, both, read_byte, read_u32, read_list, if_name, read_named, read_name, read_counted, read_version, read_pair, pushed, read_pairs, read_attrs, read_head, entry_of, write_of, replace_of, set_attr_of, put_of, reset_of, removed_of, read_write, read_replace, read_remove, read_set_attr, read_remove_attr, read_started, read_put, read_drop, read_reset, read_kind, read_step}
use Rattle.shard_model.proofs.ReadingLemmas.{same_read, not_read, parts, on, both_reading, counted_reading, with_has, byte_reading, list_reading, u32_reading, mapped_reads}
pub use Rattle.ec_words.proofs.ReaderLemmas.{counted_list, version_reading}

if_name_is : (name rest x after : List ℕ) (b : Bool) → is_name name ≡ b → ◌≡◌ {A = Option (List ℕ × List ℕ)} (cond b (Some (name, rest)) None) (Some (x, after))
    → IsName x × ((name ≡ x) × (rest ≡ after))
if_name_is name rest x after true is e = let same = same_read name x rest after e in (subst IsName same.0 is, same)
if_name_is name rest x after false is e = absurd (not_read x after e)

is_named : (name rest : List ℕ) → IsName name → if_name name rest ≡ Some (name, rest)
is_named name rest is = ap (λ b. cond b (Some (name, rest)) None) is

named_reading : (n : ℕ) → IsReadingOf (read_named n) (λ x. x) (λ x. (length x ≡ n) × IsName x)
named_reading n = record {
  reads = λ text x rest all e.
      let a = parts (read_list n) (list_reading n) if_name text x rest all e in
      let b = if_name_is a.x a.mid x rest (is_name a.x) refl a.next in
      ((ap length (sym b.1.0) ∙ a.has.0, b.0), a.is ∙ (λ i. b.1.0 i ++ b.1.1 i));
  spelled = λ x rest has. on (read_list n) (list_reading n) if_name x rest (has.0, tt) ∙ is_named x rest has.1;
}

name_short : (name : List ℕ) → IsName name → length name < 256
name_short name is =
    let le : length name ≤ 255 = leb-true (length name) 255 (and_parts (nat_le (length name) 255) (list_all is_name_byte name) (and_parts (nat_le 1 (length name)) _ is).1).0 in
    omega (arith, le)

pub name_reading : IsReadingOf read_name name_bytes IsName
name_reading =
    with_has read_name (counted_reading read_byte read_named length byte_reading named_reading) (λ x has. has.1) (λ x has. (name_short x has, has))

pair_reading : IsReadingOf read_pair pair_bytes IsPair
pair_reading = both_reading read_name read_counted name_reading counted_list

abbrev HasLength : ℕ → List (List ℕ × List ℕ) → Type 0
HasLength n attrs = (length attrs ≡ n) × AllByRecursion IsPair attrs

none : (x : List (List ℕ × List ℕ)) (rest : List ℕ) → HasLength zero x → read_pairs zero (flat_map pair_bytes x ++ rest) ≡ Some (x, rest)
none [] rest has = refl
none (p ∷ ps) rest has = absurd (omega (arith, has.0))

no_pairs : IsReadingOf (read_pairs zero) (flat_map pair_bytes) (HasLength zero)
no_pairs = record {
  reads = λ text x rest all e. let same = same_read [] x text rest e in (subst (HasLength zero) same.0 (refl, tt), (λ i. flat_map pair_bytes (same.0 i) ++ same.1 i));
  spelled = none;
}

one_pair_more : (n : ℕ) → IsReadingOf (both read_pair (read_pairs n)) (λ p. pair_bytes p.0 ++ flat_map pair_bytes p.1) (λ p. IsPair p.0 × HasLength n p.1)
    → (x : List (List ℕ × List ℕ)) (rest : List ℕ) → HasLength (suc n) x → read_pairs (suc n) (flat_map pair_bytes x ++ rest) ≡ Some (x, rest)
one_pair_more n two [] rest has = absurd (omega (arith, has.0))
one_pair_more n two (p ∷ ps) rest has = on (both read_pair (read_pairs n)) two (λ x rest. Some (pushed x, rest)) (p, ps) rest (has.1.0, (omega (arith, has.0), has.1.1))

pairs_reading : (n : ℕ) → IsReadingOf (read_pairs n) (flat_map pair_bytes) (HasLength n)
pairs_reading zero = no_pairs
pairs_reading (suc n) =
    let two = both_reading read_pair (read_pairs n) pair_reading (pairs_reading n) in
    record {
      reads = mapped_reads pushed (both read_pair (read_pairs n)) two (flat_map pair_bytes) (HasLength (suc n)) [] (λ x. refl)
          (λ x has. (ap suc has.1.0, (has.0, has.1.1)));
      spelled = one_pair_more n two;
    }

pub attrs_reading : IsReadingOf read_attrs pairs_bytes ArePairs
attrs_reading = counted_reading read_byte read_pairs length byte_reading pairs_reading

pub head_reading : IsReadingOf read_head head_bytes (λ h. HasWords h.0 × (HasWords h.1.0 × IsName h.1.1))
head_reading =
    both_reading read_version (both read_version read_name) version_reading (both_reading read_version read_name version_reading name_reading)

module _ (text : List ℕ) (s : Step) (rest : List ℕ) (all : AreBytes text) where
  abbrev Spells : ℕ → Type 0
  Spells kind = IsWritable s × (kind ∷ text ≡ step_bytes s ++ rest)

  of_write : read_write text ≡ Some (s, rest) → Spells 1
  of_write e =
      mapped_reads (entry_of write_of) (both read_head (both read_byte (both read_u32 (both read_u32 read_counted))))
      (both_reading read_head (both read_byte (both read_u32 (both read_u32 read_counted))) head_reading
      (both_reading read_byte (both read_u32 (both read_u32 read_counted)) byte_reading
      (both_reading read_u32 (both read_u32 read_counted) u32_reading (both_reading read_u32 read_counted u32_reading counted_list))))
      step_bytes IsWritable (1 ∷ []) (λ x. refl) (λ x has. has) text s rest all e

  of_replace : read_replace text ≡ Some (s, rest) → Spells 2
  of_replace e =
      mapped_reads (entry_of replace_of) (both read_head (both read_u32 read_counted))
      (both_reading read_head (both read_u32 read_counted) head_reading (both_reading read_u32 read_counted u32_reading counted_list))
      step_bytes IsWritable (2 ∷ []) (λ x. refl) (λ x has. has) text s rest all e

  of_set_attr : read_set_attr text ≡ Some (s, rest) → Spells 4
  of_set_attr e =
      mapped_reads (entry_of set_attr_of) (both read_head (both read_name read_counted))
      (both_reading read_head (both read_name read_counted) head_reading (both_reading read_name read_counted name_reading counted_list))
      step_bytes IsWritable (4 ∷ []) (λ x. refl) (λ x has. has) text s rest all e

  of_remove_attr : read_remove_attr text ≡ Some (s, rest) → Spells 5
  of_remove_attr e =
      mapped_reads (entry_of RemoveAttr) (both read_head read_name) (both_reading read_head read_name head_reading name_reading)
      step_bytes IsWritable (5 ∷ []) (λ x. refl) (λ x has. has) text s rest all e

  of_put : read_put text ≡ Some (s, rest) → Spells 11
  of_put e =
      mapped_reads put_of (both read_name (both read_u32 (both read_counted read_attrs)))
      (both_reading read_name (both read_u32 (both read_counted read_attrs)) name_reading
      (both_reading read_u32 (both read_counted read_attrs) u32_reading (both_reading read_counted read_attrs counted_list attrs_reading)))
      step_bytes IsWritable (11 ∷ []) (λ x. refl) (λ x has. has) text s rest all e

  of_reset : read_reset text ≡ Some (s, rest) → Spells 14
  of_reset e =
      mapped_reads reset_of (both read_version read_u32) (both_reading read_version read_u32 version_reading u32_reading)
      step_bytes IsWritable (14 ∷ []) (λ x. refl) (λ x has. has) text s rest all e

  of_remove : read_remove text ≡ Some (s, rest) → Spells 3
  of_remove e = mapped_reads removed_of read_head head_reading step_bytes IsWritable (3 ∷ []) (λ x. ap (λ bs. 3 ∷ bs) (append-nil (head_bytes x))) (λ x has. (has, tt)) text s rest all e

  of_version : (kind : ℕ) (step : Version → Step) → ((v : Version) → step_bytes (step v) ≡ kind ∷ version_bytes v) → ((v : Version) → HasWords v → IsWritable (step v))
      → mapped step read_version text ≡ Some (s, rest) → Spells kind
  of_version kind step bytes has e = mapped_reads step read_version version_reading step_bytes IsWritable (kind ∷ []) bytes has text s rest all e

  of_started : read_started text ≡ Some (s, rest) → Spells 7
  of_started e = mapped_reads (λ epoch. Control (Started epoch)) read_u32 u32_reading step_bytes IsWritable (7 ∷ []) (λ x. refl) (λ x has. has) text s rest all e

  of_drop : read_drop text ≡ Some (s, rest) → Spells 12
  of_drop e = mapped_reads (λ name. Recover (Drop name)) read_name name_reading step_bytes IsWritable (12 ∷ []) (λ x. refl) (λ x has. has) text s rest all e

  of_nothing : (kind : ℕ) (step : Step) → step_bytes step ≡ kind ∷ [] → IsWritable step → ◌≡◌ {A = Option (Step × List ℕ)} (Some (step, text)) (Some (s, rest)) → Spells kind
  of_nothing kind step bytes has e =
      let same = same_read step s text rest e in
      (subst IsWritable same.0 has, ap (λ t. t ++ text) (sym bytes) ∙ (λ i. step_bytes (same.0 i) ++ same.1 i))

  -- one of two readings, by the kind
  by_kind : (kind n : ℕ) (one other : Option (Step × List ℕ)) → (one ≡ Some (s, rest) → Spells n) → (other ≡ Some (s, rest) → Spells kind)
      → cond (kind == n) one other ≡ Some (s, rest) → Spells kind
  by_kind kind n one other first second e =
      elim (kind == n) as (λ b. (kind == n) ≡ b → cond b one other ≡ Some (s, rest) → Spells kind) [
        | true ↦ λ is e. subst Spells (sym (eqb-true kind n is)) (first e)
        | false ↦ λ is e. second e
      ] refl e

  pub kind_reads : (kind : ℕ) → read_kind kind text ≡ Some (s, rest) → Spells kind
  kind_reads kind =
      by_kind kind 1 _ _ of_write
      (by_kind kind 2 _ _ of_replace
      (by_kind kind 3 _ _ of_remove
      (by_kind kind 4 _ _ of_set_attr
      (by_kind kind 5 _ _ of_remove_attr
      (by_kind kind 6 _ _ (of_version 6 (λ v. Control (Back v)) (λ v. refl) (λ v has. has))
      (by_kind kind 7 _ _ of_started
      (by_kind kind 8 _ _ (of_version 8 (λ v. Control (Firm v)) (λ v. refl) (λ v has. has))
      (by_kind kind 9 _ _ (of_version 9 (λ v. Control (Trim v)) (λ v. refl) (λ v has. has))
      (by_kind kind 10 _ _ (of_nothing 10 (Control Partial) refl tt)
      (by_kind kind 11 _ _ of_put
      (by_kind kind 12 _ _ of_drop
      (by_kind kind 13 _ _ (of_nothing 13 (Recover Clear) refl tt)
      (by_kind kind 14 _ _ of_reset (λ e. absurd (not_read s rest e)))))))))))))))

-- an entry's bytes, behind its kind
spelled_entry : (version prior : Version) (name : List ℕ) (c : Change) (rest : List ℕ) → (HasWords version × (HasWords prior × IsName name)) × IsWritableChange c
    → read_step (step_bytes (Log (record { version = version; prior = prior; name = name; change = c })) ++ rest) ≡ Some (Log (record { version = version; prior = prior; name = name; change = c }), rest)
spelled_entry version prior name (Write fresh size at bytes) rest has =
    on (both read_head (both read_byte (both read_u32 (both read_u32 read_counted))))
    (both_reading read_head (both read_byte (both read_u32 (both read_u32 read_counted))) head_reading
    (both_reading read_byte (both read_u32 (both read_u32 read_counted)) byte_reading
    (both_reading read_u32 (both read_u32 read_counted) u32_reading (both_reading read_u32 read_counted u32_reading counted_list))))
    (λ x rest. Some (entry_of write_of x, rest)) ((version, (prior, name)), (fresh, (size, (at, bytes)))) rest has
spelled_entry version prior name (Replace size bytes) rest has =
    on (both read_head (both read_u32 read_counted))
    (both_reading read_head (both read_u32 read_counted) head_reading (both_reading read_u32 read_counted u32_reading counted_list))
    (λ x rest. Some (entry_of replace_of x, rest)) ((version, (prior, name)), (size, bytes)) rest has
spelled_entry version prior name Remove rest has =
    ap (λ t. read_step (3 ∷ t ++ rest)) (append-nil (head_bytes (version, (prior, name))))
    ∙ on read_head head_reading (λ x rest. Some (removed_of x, rest)) (version, (prior, name)) rest has.0
spelled_entry version prior name (SetAttr attr value) rest has =
    on (both read_head (both read_name read_counted))
    (both_reading read_head (both read_name read_counted) head_reading (both_reading read_name read_counted name_reading counted_list))
    (λ x rest. Some (entry_of set_attr_of x, rest)) ((version, (prior, name)), (attr, value)) rest has
spelled_entry version prior name (RemoveAttr attr) rest has =
    on (both read_head read_name) (both_reading read_head read_name head_reading name_reading) (λ x rest. Some (entry_of RemoveAttr x, rest)) ((version, (prior, name)), attr) rest has

-- each step's bytes, behind its kind
spelled : (s : Step) (rest : List ℕ) → IsWritable s → read_step (step_bytes s ++ rest) ≡ Some (s, rest)
spelled (Log e) rest has = spelled_entry e.version e.prior e.name e.change rest has
spelled (Control (Back v)) rest has = on read_version version_reading (λ x rest. Some (Control (Back x), rest)) v rest has
spelled (Control (Started epoch)) rest has = on read_u32 u32_reading (λ x rest. Some (Control (Started x), rest)) epoch rest has
spelled (Control (Firm v)) rest has = on read_version version_reading (λ x rest. Some (Control (Firm x), rest)) v rest has
spelled (Control (Trim v)) rest has = on read_version version_reading (λ x rest. Some (Control (Trim x), rest)) v rest has
spelled (Control Partial) rest has = refl
spelled (Recover (Put name size bytes attrs)) rest has =
    on (both read_name (both read_u32 (both read_counted read_attrs)))
    (both_reading read_name (both read_u32 (both read_counted read_attrs)) name_reading
    (both_reading read_u32 (both read_counted read_attrs) u32_reading (both_reading read_counted read_attrs counted_list attrs_reading)))
    (λ x rest. Some (put_of x, rest)) (name, (size, (bytes, attrs))) rest has
spelled (Recover (Drop name)) rest has = on read_name name_reading (λ x rest. Some (Recover (Drop x), rest)) name rest has
spelled (Recover Clear) rest has = refl
spelled (Recover (Reset v epoch)) rest has =
    on (both read_version read_u32) (both_reading read_version read_u32 version_reading u32_reading) (λ x rest. Some (reset_of x, rest)) (v, epoch) rest has

step_reads : (text : List ℕ) (s : Step) (rest : List ℕ) → AreBytes text → read_step text ≡ Some (s, rest) → IsWritable s × (text ≡ step_bytes s ++ rest)
step_reads [] s rest all e = absurd (not_read s rest e)
step_reads (kind ∷ text) s rest all e = kind_reads text s rest all.1 kind e

pub step_reading : IsReadingOf read_step step_bytes IsWritable
step_reading = record { reads = step_reads; spelled = spelled }
