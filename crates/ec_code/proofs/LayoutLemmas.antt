-- How often the mapping of three numbers has `D`, and what the texts of a profile are.
use Rattle.std.proofs.Common.{◌≡◌, ◌≢◌, ◌⊎◌, ℕ, List, Bool, true, false, zero, suc, ◌+◌, ◌*◌, ◌/◌, ◌%◌, ◌<◌, ◌≤◌, min, length, map, refl, ap, sym, ◌∙◌, arith, add-one, inl, inr}
use Rattle.std.specs.Prelude.{slice_index, ◌==◌, if◌then◌else◌}
use Rattle.std.specs.List.{range_with_len}
use Rattle.std.proofs.Math.Nat.{eq-zero-or-pos, suc-mul, mul-suc, div-add-mod, mul_comm, le_of_mul-le-mul_left}
use Rattle.std.proofs.Math.Seq.{take-length}
use Rattle.std.proofs.lemmas.Nat.{mod-mul-add}
use Rattle.std.proofs.lemmas.Bool.{le-leb, lt-leb, lt-ltb, le-ltb, eq-eqb}
use Rattle.std.proofs.lemmas.List.Sums.{count_by_more_yes, count_by_more_no, count_by-le-length}
use Rattle.std.proofs.lemmas.List.FromFn.{get_or-map-range_with_len, length-map-range_with_len}
use Rattle.ec_model.specs.Codes.{CodeRows}
use Rattle.ec_model.specs.Lrc.{data_count, mark_number, mapping_of, mapping_mark, group_count, position_count, HasUnevenGroups}
use Rattle.ec_code.specs.declared.mapping.Mapping.{Mapping}
use Rattle.ec_code.specs.declared.profile.Profile.{Profile}
use Rattle.ec_code.specs.declared.fault.ProfileFault.{ProfileFault}
use Rattle.ec_code.specs.declared.fault.ProfileFault.TheVariants as fault
use Rattle.ec_code.specs.LrcFaults.{text_of, mapping_text, data_chunks_of, has_number, HasFaultBy, HasLrcFault, IsCodeBy, IsLrcsCode}

-- the mark at a position of a text that is made position by position
pub mark_of_made : (f : ℕ → ℕ) (n p : ℕ) → p < n → slice_index (map f (range_with_len 0 n)) p ≡ f p
mark_of_made f n p lt = get_or-map-range_with_len f 0 n p p 0 lt (omega arith)

-- one more `D`, or no more
more_data : (text : List ℕ) (p : ℕ) → p < length text → slice_index text p ≡ 68 → mark_number 68 text (p + 1) ≡ mark_number 68 text p + 1
more_data text p lt e = count_by_more_yes (λ b. b == 68) text p 0 lt (eq-eqb (slice_index text p) 68 e)

no_more_data : (text : List ℕ) (p : ℕ) → p < length text → (slice_index text p == 68) ≡ false → mark_number 68 text (p + 1) ≡ mark_number 68 text p
no_more_data text p lt e = count_by_more_no (λ b. b == 68) text p 0 lt e

-- numbers that are shared evenly
pub record SharesEvenly (k m l : ℕ) : Type 0 where
  pub some : 0 < l
  pub whole : group_count k m l * l ≡ k + m
  pub data_chunks : group_count k m l * (k / group_count k m l) ≡ k

whole_parts : (n g : ℕ) → n % g ≡ 0 → g * (n / g) ≡ n
whole_parts n g e = let s = div-add-mod n g in omega (arith, s, e)

pub shares_evenly : (k m l : ℕ) → (HasUnevenGroups k m l → ⊥) → SharesEvenly k m l
shares_evenly k m l even = record {
  some = elim (eq-zero-or-pos l) [ inl e ↦ absurd (even (inl e)) | inr h ↦ h ];
  whole = mul_comm (group_count k m l) l ∙ whole_parts (k + m) l (elim (eq-zero-or-pos ((k + m) % l)) [
    | inl e ↦ e
    | inr h ↦ absurd (even (inr (inl (λ e. omega (arith, e, h)))))
  ]);
  data_chunks = whole_parts k (group_count k m l) (elim (eq-zero-or-pos (k % group_count k m l)) [
    | inl e ↦ e
    | inr h ↦ absurd (even (inr (inr (inl (λ e. omega (arith, e, h))))))
  ]);
}

either : (a b : ℕ) → (a < b) ⊎ (b ≤ a)
either a b = grind arith

-- the `D` before place w of group h
in_group : (d l n h w : ℕ) → w ≤ l + 1 → h * (l + 1) + w ≤ n → mark_number 68 (map (mapping_mark d l) (range_with_len 0 n)) (h * (l + 1)) ≡ h * d
    → mark_number 68 (map (mapping_mark d l) (range_with_len 0 n)) (h * (l + 1) + w) ≡ h * d + min w d
in_group d l n h zero small room before =
    ap (λ t. mark_number 68 (map (mapping_mark d l) (range_with_len 0 n)) t) (at_start (h * (l + 1))) ∙ before ∙ omega arith
  where
    at_start : (a : ℕ) → a + 0 ≡ a
    at_start a = omega arith
in_group d l n h (suc w) small room before =
    let text = map (mapping_mark d l) (range_with_len 0 n) in
    let p = h * (l + 1) + w in
    let long : length text ≡ n = length-map-range_with_len (mapping_mark d l) 0 n in
    let place : p % (l + 1) ≡ w = mod-mul-add h (l + 1) w (omega arith) in
    let mark : slice_index text p ≡ mapping_mark d l p = mark_of_made (mapping_mark d l) n p (omega arith) in
    let ih = in_group d l n h w (omega arith) (omega arith) before in
    ap (λ t. mark_number 68 text t) (next (h * (l + 1))) ∙ elim (either w d) [
      | inl below ↦ more_data text p (omega (arith, long)) (mark ∙ ap (λ t. mark_by t) (lt-ltb (p % (l + 1)) d (omega arith))) ∙ ap (λ t. t + 1) ih ∙ omega arith
      | inr above ↦ no_more_data text p (omega (arith, long)) (ap (λ t. t == 68) (mark ∙ ap (λ t. mark_by t) (le-ltb (p % (l + 1)) d (omega arith)))) ∙ ih ∙ omega arith
    ]
  where
    next : (a : ℕ) → a + suc w ≡ a + w + 1
    next a = omega arith

    mark_by : Bool → ℕ
    mark_by b = if b then 68 else 95

-- the `D` of the first groups
in_groups : (d l n h : ℕ) → d ≤ l → h * (l + 1) ≤ n → mark_number 68 (map (mapping_mark d l) (range_with_len 0 n)) (h * (l + 1)) ≡ h * d
in_groups d l n zero few room = ap (λ t. mark_number 68 (map (mapping_mark d l) (range_with_len 0 n)) t) (none (l + 1)) ∙ sym (none d)
  where
    none : (a : ℕ) → 0 * a ≡ 0
    none a = omega arith
in_groups d l n (suc h) few room =
    let next : suc h * (l + 1) ≡ h * (l + 1) + (l + 1) = suc-mul h (l + 1) in
    ap (λ t. mark_number 68 (map (mapping_mark d l) (range_with_len 0 n)) t) next
    ∙ in_group d l n h (l + 1) (omega arith) (omega (arith, next)) (in_groups d l n h few (omega (arith, next)))
    ∙ omega (arith, suc-mul h d)

pub length_of_made : (k m l : ℕ) → length (mapping_of k m l) ≡ position_count k m l
length_of_made k m l = length-map-range_with_len (mapping_mark (k / group_count k m l) l) 0 (position_count k m l)

share_fits : (g d l : ℕ) → 0 < g → g * d ≤ g * l → d ≤ l
share_fits g d l some le = le_of_mul-le-mul_left le some

-- of the positions that three numbers make, k are data chunks
pub data_of_made : (k m l : ℕ) → 1 ≤ k → (HasUnevenGroups k m l → ⊥) → data_count (mapping_of k m l) ≡ k
data_of_made k m l some even =
    let s = shares_evenly k m l even in
    let g = group_count k m l in
    let all : g * (l + 1) ≡ position_count k m l = ap (λ t. g * t) (add-one l) ∙ mul-suc g l ∙ omega (arith, s.whole) in
    ap (λ t. data_count t) (sym (take-length (mapping_of k m l)))
    ∙ ap (λ t. mark_number 68 (mapping_of k m l) t) (length_of_made k m l ∙ sym all)
    ∙ in_groups (k / g) l (position_count k m l) g (share_fits g (k / g) l (some_groups s) (omega (arith, s.data_chunks, s.whole, mul_comm g l))) (omega (arith, all))
    ∙ s.data_chunks
  where
    some_groups : SharesEvenly k m l → 0 < group_count k m l
    some_groups s = elim (eq-zero-or-pos (group_count k m l)) [
      | inl e ↦ absurd (omega (arith, sym (ap (λ t. t * (k / group_count k m l)) e) ∙ s.data_chunks))
      | inr h ↦ h
    ]

-- fewer data chunks than positions, where some are not
below_all : (text : List ℕ) (n : ℕ) → length text ≡ n → data_count text ≢ n → data_count text < n
below_all text n e ne = let le = count_by-le-length (λ b. b == 68) text in omega (arith, e, ne, le)

pub length_of_text : (first : List ℕ) (n : ℕ) → length (text_of first n) ≡ n
length_of_text first n = length-map-range_with_len (λ p. slice_index first p) 0 n

-- of a short mapping the `D` are counted
pub counted : (m : Mapping) → m.len ≤ 16 → data_chunks_of m ≡ data_count (mapping_text m)
counted m le = rw (le-leb m.len 16 le) refl

pub uncounted : (m : Mapping) → 16 < m.len → data_chunks_of m ≡ m.data_chunks
uncounted m lt = rw (lt-leb m.len 16 lt) refl

none_or_some : (m : ℕ) → (m < 1) ⊎ (1 ≤ m)
none_or_some m = grind arith

at_least : (n a : ℕ) → (n ≤ a) ⊎ (a < n)
at_least n a = grind arith

lrc_coding_by : (b : Bool) (p : Profile) (code : CodeRows) → ((f : ProfileFault) → HasFaultBy b p f → ⊥) → IsCodeBy b p code → code.k < code.n
lrc_coding_by true p code ok (k, ek, (m, em, (l, el, is))) =
    elim (none_or_some k) [
      | inl none ↦ absurd (ok fault.SmallK (k, ek, none))
      | inr some_k ↦ elim (none_or_some m) [
        | inl none ↦ absurd (ok fault.SmallM (m, em, none))
        | inr some_m ↦
            let d = data_of_made k m l some_k (λ uneven. ok fault.Divides (k, ek, (m, em, (l, el, uneven)))) in
            omega (arith, is.data_chunks, is.positions, d, length_of_made k m l)
      ]
    ]
lrc_coding_by false p code ok (mapping, em, (layers, el, is)) =
    let len = length_of_text mapping.first mapping.len in
    elim (at_least mapping.len 16) [
      | inr many ↦ absurd (ok fault.TooMany (mapping, em, many))
      | inl few ↦
          let below = below_all (mapping_text mapping) mapping.len len (λ e. ok fault.SmallM (mapping, em, counted mapping few ∙ e)) in
          omega (arith, is.data_chunks, is.positions, below, len)
    ]

-- the code of a profile of the plugin lrc without a fault has a coding chunk
pub lrc_coding : (p : Profile) (code : CodeRows) → ((f : ProfileFault) → HasLrcFault p f → ⊥) → IsLrcsCode p code → code.k < code.n
lrc_coding p code ok is = lrc_coding_by (has_number p) p code ok is
