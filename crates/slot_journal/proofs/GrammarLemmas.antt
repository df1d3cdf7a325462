-- A text has one reading, and one that is not in the grammar has one first place where it fails.
use Rattle.std.proofs.Common.{◌≡◌, ◌≢◌, ◌≤◌, ◌<◌, ◌+◌, inl, inr, ⊎_elim, ℕ, List, [], ◌∷◌, ◌++◌, length, get_or, take, drop, refl, sym, ◌∙◌, ap, subst, arith, append_assoc, length-append}
use Rattle.std.proofs.lemmas.List.{take_at, drop_at, get_or_append_left}
use Rattle.std.proofs.lemmas.Bool.{cases_lt, cases_eq}
use Rattle.byteorder.specs.Endian.{big_bytes, big_number}
use Rattle.byteorder.specs.Numbers.{big_number-reads_back, big_from-append}
use Rattle.slot_journal.specs.Header.{open_gate}
use Rattle.slot_journal.specs.Text.{max_body, Serves, FitsAt, IsHeader, record_bytes, records, AreSized, IsText, IsBadLength, FailsAt, IsBadHeader, IsBadText}

-- no record begins here
abbrev pub IsEnd : List ℕ → Type 0
IsEnd rest = (body after : List ℕ) → 1 ≤ length body → length body ≤ max_body → rest ≡ record_bytes body ++ after → ⊥

-- two records that begin one list are one
pub record RecordsMeet (a b s t : List ℕ) : Type 0 where
  pub body : a ≡ b
  pub after : s ≡ t

length_back : (n : ℕ) → n ≤ max_body → big_number 4 (big_bytes 4 n) ≡ n
length_back n le = big_number-reads_back 4 n [] (omega (arith, le))

pub records_meet : (a b s t : List ℕ) → length a ≤ max_body → length b ≤ max_body → record_bytes a ++ s ≡ record_bytes b ++ t → RecordsMeet a b s t
records_meet a b s t fits_a fits_b same =
    let P : List ℕ = open_gate ∷ big_bytes 4 (length a) in
    let Q : List ℕ = open_gate ∷ big_bytes 4 (length b) in
    let whole : P ++ (a ++ s) ≡ Q ++ (b ++ t) = sym (append_assoc P a s) ∙ same ∙ append_assoc Q b t in
    let front : P ≡ Q = sym (take_at P (a ++ s) 5 refl) ∙ ap (λ (l : List ℕ). take 5 l) whole ∙ take_at Q (b ++ t) 5 refl in
    let back : a ++ s ≡ b ++ t = sym (drop_at P (a ++ s) 5 refl) ∙ ap (λ (l : List ℕ). drop 5 l) whole ∙ drop_at Q (b ++ t) 5 refl in
    let size : length a ≡ length b = sym (length_back (length a) fits_a) ∙ ap (λ (l : List ℕ). big_number 4 (drop 1 l)) front ∙ length_back (length b) fits_b in
    record {
      body = sym (take_at a s (length a) refl) ∙ ap (λ (l : List ℕ). take (length a) l) back ∙ take_at b t (length a) (sym size);
      after = sym (drop_at a s (length a) refl) ∙ ap (λ (l : List ℕ). drop (length a) l) back ∙ drop_at b t (length a) (sym size);
    }

-- two lists of records with the same bytes, each up to a place where no record begins, are one list
pub record EndsMeet (xs ys : List (List ℕ)) (s t : List ℕ) : Type 0 where
  pub bodies : xs ≡ ys
  pub rest : s ≡ t

pub ends_meet : (xs ys : List (List ℕ)) (s t : List ℕ) → AreSized xs → AreSized ys → IsEnd s → IsEnd t → records xs ++ s ≡ records ys ++ t → EndsMeet xs ys s t
ends_meet [] [] s t sized_a sized_b end_s end_t same = record { bodies = refl; rest = same }
ends_meet [] (b ∷ ys) s t sized_a sized_b end_s end_t same = absurd (end_s b (records ys ++ t) sized_b.0 sized_b.1 (same ∙ append_assoc (record_bytes b) (records ys) t))
ends_meet (a ∷ xs) [] s t sized_a sized_b end_s end_t same = absurd (end_t a (records xs ++ s) sized_a.0 sized_a.1 (sym same ∙ append_assoc (record_bytes a) (records xs) s))
ends_meet (a ∷ xs) (b ∷ ys) s t sized_a sized_b end_s end_t same =
    let meet = records_meet a b (records xs ++ s) (records ys ++ t) sized_a.1 sized_b.1 (sym (append_assoc (record_bytes a) (records xs) s) ∙ same ∙ append_assoc (record_bytes b) (records ys) t) in
    let more = ends_meet xs ys s t sized_a.2 sized_b.2 end_s end_t meet.after in
    record { bodies = λ i. meet.body i ∷ more.bodies i; rest = more.rest }

pub closed_ends : (gate : ℕ) (rest : List ℕ) → gate ≢ open_gate → IsEnd (gate ∷ rest)
closed_ends gate rest closed body after some most same = closed (ap (λ (l : List ℕ). get_or l 0 0) same)

pub none_ends : IsEnd []
none_ends body after some most same = cc

pub bad_length_ends : (rest : List ℕ) → IsBadLength rest (length rest) → IsEnd (open_gate ∷ rest)
bad_length_ends rest bad body after some most same =
    ⊎_elim (λ (short : length rest < 4). omega (arith, size, short))
    (⊎_elim (λ (none : big_number 4 rest < 1). omega (arith, is, none, some))
    (⊎_elim (λ (large : max_body < big_number 4 rest). omega (arith, is, large, most)) (λ (past : length rest < 4 + big_number 4 rest). omega (arith, is, past, size)))) bad
  where
    number : List ℕ
    number = big_bytes 4 (length body)

    tail : rest ≡ number ++ (body ++ after)
    tail = ap (λ (l : List ℕ). drop 1 l) same ∙ append_assoc number body after

    is : big_number 4 rest ≡ length body
    is = ap (λ (l : List ℕ). big_number 4 l) tail ∙ big_from-append 4 number (body ++ after) (omega arith) ∙ length_back (length body) most

    size : length rest ≡ 4 + (length body + length after)
    size = ap length tail ∙ omega (arith, length-append body after)

pub fails_ends : (rest : List ℕ) (place at : ℕ) → FailsAt rest place at → IsEnd rest
fails_ends rest place at (inl none) = subst IsEnd (sym none.0) none_ends
fails_ends rest place at (inr bad) = subst IsEnd (sym bad.1) (bad_length_ends bad.0 bad.2)

module _ (head : List ℕ) where
  -- a text that fits a head still does with more bytes behind it
  pub fits_longer : (header rest : List ℕ) (place : ℕ) → FitsAt head header place → FitsAt head (header ++ rest) place
  fits_longer header rest place fits =
      let inside : place < length (header ++ rest) = omega (arith, fits.0, length-append header rest) in
      (inside, subst (λ b. Serves place (get_or (open_gate ∷ head) place 0) b) (sym (get_or_append_left header rest 0 place fits.0)) fits.1)

  -- behind a header the first place that is out of form is no place of it
  pub header_is_good : (header rest : List ℕ) (at : ℕ) → IsHeader head header → IsBadHeader head (header ++ rest) at → ⊥
  header_is_good header rest at is bad = bad.differs (fits_longer header rest at (is.fits at bad.within))

pub header_meets : (x y s t : List ℕ) → length x ≡ 24 → length y ≡ 24 → x ++ s ≡ y ++ t → RecordsMeet x y s t
header_meets x y s t long_x long_y same = record {
  body = sym (take_at x s 24 long_x) ∙ ap (λ (l : List ℕ). take 24 l) same ∙ take_at y t 24 long_y;
  after = sym (drop_at x s 24 long_x) ∙ ap (λ (l : List ℕ). drop 24 l) same ∙ drop_at y t 24 long_y;
}

-- headers, records and what ends them, in two readings of one text
pub record ReadingsMeet (x y : List ℕ) (xs ys : List (List ℕ)) (s t : List ℕ) : Type 0 where
  pub header : x ≡ y
  pub bodies : xs ≡ ys
  pub rest : s ≡ t

pub readings_meet : (text x y : List ℕ) (xs ys : List (List ℕ)) (s t : List ℕ) → length x ≡ 24 → length y ≡ 24 → AreSized xs → AreSized ys → IsEnd s → IsEnd t
    → text ≡ x ++ records xs ++ s → text ≡ y ++ records ys ++ t → ReadingsMeet x y xs ys s t
readings_meet text x y xs ys s t long_x long_y sized_x sized_y end_s end_t first second =
    let meet = header_meets x y (records xs ++ s) (records ys ++ t) long_x long_y (sym (append_assoc x (records xs) s) ∙ sym first ∙ second ∙ append_assoc y (records ys) t) in
    let more = ends_meet xs ys s t sized_x sized_y end_s end_t meet.after in
    record { header = meet.body; bodies = more.bodies; rest = more.rest }

pub one_text : (head other : List ℕ) (xs ys : List (List ℕ)) (at after : ℕ) (text : List ℕ) → IsText head xs at text → IsText other ys after text → (xs ≡ ys) × (at ≡ after)
one_text head other xs ys at after text a b =
    let meet = readings_meet text a.header b.header xs ys (a.gate ∷ a.rest) (b.gate ∷ b.rest) a.is_header.long b.is_header.long a.sized b.sized
    (closed_ends a.gate a.rest a.closed) (closed_ends b.gate b.rest b.closed) a.bytes b.bytes in
    (meet.bodies, a.at ∙ (λ i. length (meet.header i ++ records (meet.bodies i))) ∙ sym b.at)

pub not_both : (head : List ℕ) (bodies : List (List ℕ)) (place at : ℕ) (text : List ℕ) → IsText head bodies place text → IsBadText head text at → ⊥
not_both head bodies place at text is (inl bad) =
    header_is_good head is.header (records bodies ++ is.gate ∷ is.rest) at is.is_header (subst (λ (l : List ℕ). IsBadHeader head l at) (is.bytes ∙ append_assoc is.header (records bodies) (is.gate ∷ is.rest)) bad)
not_both head bodies place at text is (inr bad) =
    let meet = readings_meet text is.header bad.header bodies bad.bodies (is.gate ∷ is.rest) bad.rest is.is_header.long bad.is_header.long is.sized bad.sized
    (closed_ends is.gate is.rest is.closed) (fails_ends bad.rest _ at bad.fails) is.bytes bad.bytes in
    ⊎_elim (λ none. shut_none is.gate is.rest (meet.rest ∙ none.0)) (λ gap. is.closed (ap (λ (l : List ℕ). get_or l 0 0) (meet.rest ∙ gap.1))) bad.fails
  where
    shut_none : (gate : ℕ) (rest : List ℕ) → gate ∷ rest ≡ [] → ⊥
    shut_none gate rest same = cc

one_failing : (rest : List ℕ) (place at after : ℕ) → FailsAt rest place at → FailsAt rest place after → at ≡ after
one_failing rest place at after (inl a) (inl b) = a.1 ∙ sym b.1
one_failing rest place at after (inl a) (inr b) = absurd (clash b.0 (sym a.0 ∙ b.1))
  where
    clash : (l : List ℕ) → [] ≡ open_gate ∷ l → ⊥
    clash l same = cc
one_failing rest place at after (inr a) (inl b) = absurd (clash a.0 (sym b.0 ∙ a.1))
  where
    clash : (l : List ℕ) → [] ≡ open_gate ∷ l → ⊥
    clash l same = cc
one_failing rest place at after (inr a) (inr b) = a.3 ∙ sym b.3

pub one_place : (head : List ℕ) (at after : ℕ) (text : List ℕ) → IsBadText head text at → IsBadText head text after → at ≡ after
one_place head at after text (inl a) (inl b) = elim (cases_eq at after) [
  | inl same ↦ same
  | inr other ↦ absurd (⊎_elim (λ (less : at < after). a.differs (b.before at less)) (λ (most : after ≤ at). b.differs (a.before after (omega (arith, most, other)))) (cases_lt at after))
]
one_place head at after text (inl a) (inr b) = absurd (header_is_good head b.header (records b.bodies ++ b.rest) at b.is_header (subst (λ (l : List ℕ). IsBadHeader head l at) (b.bytes ∙ append_assoc b.header (records b.bodies) b.rest) a))
one_place head at after text (inr a) (inl b) = absurd (header_is_good head a.header (records a.bodies ++ a.rest) after a.is_header (subst (λ (l : List ℕ). IsBadHeader head l after) (a.bytes ∙ append_assoc a.header (records a.bodies) a.rest) b))
one_place head at after text (inr a) (inr b) =
    let meet = readings_meet text a.header b.header a.bodies b.bodies a.rest b.rest a.is_header.long b.is_header.long a.sized b.sized
    (fails_ends a.rest _ at a.fails) (fails_ends b.rest _ after b.fails) a.bytes b.bytes in
    let there : length (b.header ++ records b.bodies) ≡ length (a.header ++ records a.bodies) = λ i. length (sym meet.header i ++ records (sym meet.bodies i)) in
    one_failing a.rest (length (a.header ++ records a.bodies)) at after a.fails
    (subst (λ (l : List ℕ). FailsAt l (length (a.header ++ records a.bodies)) after) (sym meet.rest) (subst (λ n. FailsAt b.rest n after) there b.fails))
