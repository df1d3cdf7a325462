-- Readers read what their bytes spell.
use Rattle.std.proofs.Common.{◌≡◌, ℕ, zero, suc, ◌<◌, ◌≤◌, ◌^◌, Bool, true, false, cond, nat_le, if◌then◌else◌, List, [], ◌∷◌, ◌++◌, length, take, drop, get_or, refl, sym, ap, subst, ◌∙◌, Option, Some, None, is_some, arith}
use Rattle.std.specs.Int.{w32, w64, from_be_bytes, bytes_high_first}
use Rattle.std.proofs.lemmas.Bool.{false≢true, leb-true}
use Rattle.std.proofs.lemmas.Nat.{be_bytes_4, be_bytes_8, from_be_bytes-to_be_bytes_4, from_be_bytes-to_be_bytes_8}
use Rattle.std.proofs.lemmas.List.{append_assoc, length-take, take-append-drop}
use Rattle.std.proofs.lemmas.Grind.{common_steps}
use Rattle.ec_words.specs.Readers.{Reader, AreBytes, IsReadingOf, and_then, mapped, both, read_byte, read_u32, read_u64, read_list, read_counted, version_from, read_version, version_bytes, counted_bytes, HasWords, IsCounted}

-- what a reading gave, or else a pair in hand
value_or : {X : Type 0} → X × List ℕ → Option (X × List ℕ) → X × List ℕ
value_or p None = p
value_or p (Some q) = q

pub same_read : {X : Type 0} (x y : X) (r s : List ℕ) → ◌≡◌ {A = Option (X × List ℕ)} (Some (x, r)) (Some (y, s)) → (x ≡ y) × (r ≡ s)
unfolding value_or
same_read x y r s e = (ap (λ o. (value_or (x, r) o).0) e, ap (λ o. (value_or (x, r) o).1) e)

pub not_read : {X : Type 0} (y : X) (s : List ℕ) → ◌≡◌ {A = Option (X × List ℕ)} None (Some (y, s)) → ⊥
not_read y s e = false≢true (ap is_some e)

-- the bytes of a part are bytes
pub rest_bytes : (xs ys : List ℕ) → AreBytes (xs ++ ys) → AreBytes ys
rest_bytes [] ys all = all
rest_bytes (x ∷ xs) ys all = rest_bytes xs ys all.1

-- a first reading, and the one after it
pub record Parts {X Y : Type 0} (Has : X → Type 0) (bytes_of : X → List ℕ) (f : X → Reader Y) (text : List ℕ) (y : Y) (rest : List ℕ) : Type 0 where
  pub x : X
  pub mid : List ℕ
  pub has : Has x
  pub is : text ≡ bytes_of x ++ mid
  pub bytes : AreBytes mid
  pub next : f x mid ≡ Some (y, rest)

module _ {X Y : Type 0} {Has : X → Type 0} {bytes_of : X → List ℕ} (reader : Reader X) (reading : IsReadingOf reader bytes_of Has) (f : X → Reader Y) where
  pub parts : (text : List ℕ) (y : Y) (rest : List ℕ) → AreBytes text → and_then (reader text) f ≡ Some (y, rest) → Parts Has bytes_of f text y rest
  parts text y rest all e =
      elim (reader text) as (λ o. reader text ≡ o → and_then o f ≡ Some (y, rest) → Parts Has bytes_of f text y rest) [
        | None ↦ λ is e. absurd (not_read y rest e)
        | Some p ↦ λ is e.
            let first = reading.reads text p.0 p.1 all is in
            record { x = p.0; mid = p.1; has = first.0; is = first.1; bytes = rest_bytes (bytes_of p.0) p.1 (subst AreBytes first.1 all); next = e }
      ] refl e

  pub on : (x : X) (rest : List ℕ) → Has x → and_then (reader (bytes_of x ++ rest)) f ≡ f x rest
  on x rest has = ap (λ o. and_then o f) (reading.spelled x rest has)

module _ {X Y : Type 0} {HasX : X → Type 0} {HasY : Y → Type 0} {bytes_x : X → List ℕ} {bytes_y : Y → List ℕ} (first : Reader X) (second : Reader Y)
    (one : IsReadingOf first bytes_x HasX) (two : IsReadingOf second bytes_y HasY) where
  pub both_reading : IsReadingOf (both first second) (λ p. bytes_x p.0 ++ bytes_y p.1) (λ p. HasX p.0 × HasY p.1)
  both_reading = record {
    reads = λ text p rest all e.
        let a = parts first one (λ x rest. and_then (second rest) (λ y rest. Some ((x, y), rest))) text p rest all e in
        let b = parts second two (λ y rest. Some ((a.x, y), rest)) a.mid p rest a.bytes a.next in
        let same = same_read (a.x, b.x) p b.mid rest b.next in (
          subst (λ q. HasX q.0 × HasY q.1) same.0 (a.has, b.has),
          a.is ∙ ap (λ t. bytes_x a.x ++ t) b.is ∙ sym (append_assoc (bytes_x a.x) (bytes_y b.x) b.mid)
              ∙ (λ i. (bytes_x (same.0 i).0 ++ bytes_y (same.0 i).1) ++ same.1 i),
        );
    spelled = λ p rest has.
        ap (both first second) (append_assoc (bytes_x p.0) (bytes_y p.1) rest)
        ∙ on first one (λ x rest. and_then (second rest) (λ y rest. Some ((x, y), rest))) p.0 (bytes_y p.1 ++ rest) has.0
        ∙ on second two (λ y rest. Some ((p.0, y), rest)) p.1 rest has.1;
  }

-- a number of things, and as many of them
module _ {X : Type 0} {HasN : ℕ → Type 0} {Has : X → Type 0} {bytes_n : ℕ → List ℕ} {bytes_x : X → List ℕ} (count : Reader ℕ) (things : ℕ → Reader X) (size : X → ℕ)
    (one : IsReadingOf count bytes_n HasN) (two : (n : ℕ) → IsReadingOf (things n) bytes_x (λ x. (size x ≡ n) × Has x)) where
  pub counted_reading : IsReadingOf (λ text. and_then (count text) things) (λ x. bytes_n (size x) ++ bytes_x x) (λ x. HasN (size x) × Has x)
  counted_reading = record {
    reads = λ text x rest all e.
        let a = parts count one things text x rest all e in
        let b = (two a.x).reads a.mid x rest a.bytes a.next in (
          (subst HasN (sym b.0.0) a.has, b.0.1),
          a.is ∙ (λ i. bytes_n (sym b.0.0 i) ++ b.1 i) ∙ sym (append_assoc (bytes_n (size x)) (bytes_x x) rest),
        );
    spelled = λ x rest has.
        ap (λ text. and_then (count text) things) (append_assoc (bytes_n (size x)) (bytes_x x) rest)
        ∙ on count one things (size x) (bytes_x x ++ rest) has.0
        ∙ (two (size x)).spelled x rest (refl, has.1);
  }

-- the same values with another account of which have a place
pub with_has : {X : Type 0} {Has More : X → Type 0} {bytes_of : X → List ℕ} (reader : Reader X) → IsReadingOf reader bytes_of Has
    → ((x : X) → Has x → More x) → ((x : X) → More x → Has x) → IsReadingOf reader bytes_of More
with_has reader reading there back = record {
  reads = λ text x rest all e. (there x (reading.reads text x rest all e).0, (reading.reads text x rest all e).1);
  spelled = λ x rest has. reading.spelled x rest (back x has);
}

read_first : (text : List ℕ) (b : ℕ) (rest : List ℕ) → AreBytes text → read_byte text ≡ Some (b, rest) → (b < 256) × (text ≡ b ∷ rest)
read_first [] b rest all e = absurd (not_read b rest e)
read_first (x ∷ text) b rest all e =
    let same = same_read x b text rest e in
    (subst (λ y. y < 256) same.0 all.0, (λ i. same.0 i ∷ same.1 i))

pub byte_reading : IsReadingOf read_byte (λ b. b ∷ []) (λ b. b < 256)
byte_reading = record { reads = read_first; spelled = λ b rest has. refl }

-- a test that was met
met : {X : Type 0} (b : Bool) (x : X) (r : List ℕ) (y : X) (s : List ℕ) → ◌≡◌ {A = Option (X × List ℕ)} (cond b (Some (x, r)) None) (Some (y, s)) → (b ≡ true) × ((x ≡ y) × (r ≡ s))
met true x r y s e = (refl, same_read x y r s e)
met false x r y s e = absurd (not_read y s e)

bytes_at : (text : List ℕ) → AreBytes text → (i : ℕ) → get_or text i 0 < 256
bytes_at [] all i = omega arith
bytes_at (b ∷ text) all zero = all.0
bytes_at (b ∷ text) all (suc i) = bytes_at text all.1 i

front_bytes : (n : ℕ) (text : List ℕ) → AreBytes text → AreBytes (take n text)
front_bytes zero text all = tt
front_bytes (suc n) [] all = tt
front_bytes (suc n) (b ∷ text) all = (all.0, front_bytes n text all.1)

length_front : (n : ℕ) (text : List ℕ) → n ≤ length text → length (take n text) ≡ n
length_front n text le = omega (arith, length-take n text, le)

longer : (xs ys : List ℕ) (n : ℕ) → length xs ≡ n → nat_le n (length (xs ++ ys)) ≡ true
longer xs ys n is = grind (arith, common_steps)

front_is : (xs ys : List ℕ) (n : ℕ) → length xs ≡ n → (take n (xs ++ ys) ≡ xs) × (drop n (xs ++ ys) ≡ ys)
front_is [] ys zero is = (refl, refl)
front_is [] ys (suc n) is = absurd (omega (arith, is))
front_is (x ∷ xs) ys zero is = absurd (omega (arith, is))
front_is (x ∷ xs) ys (suc n) is = let rest = front_is xs ys n (omega (arith, is)) in (ap (λ zs. x ∷ zs) rest.0, rest.1)

if_true : {X : Type 0} (b : Bool) (x y : X) → b ≡ true → (if b then x else y) ≡ x
if_true true x y e = refl
if_true false x y e = absurd (false≢true e)

pub list_reading : (n : ℕ) → IsReadingOf (read_list n) (λ x. x) (λ x. (length x ≡ n) × Unit {0})
list_reading n = record {
  reads = λ text x rest all e.
      let m = met (nat_le n (length text)) (take n text) (drop n text) x rest e in
      let le = leb-true n (length text) m.0 in (
        (ap length (sym m.1.0) ∙ length_front n text le, tt),
        sym (take-append-drop n text) ∙ (λ i. m.1.0 i ++ m.1.1 i),
      );
  spelled = λ x rest has.
      let front = front_is x rest n has.0 in
      if_true (nat_le n (length (x ++ rest))) (Some (take n (x ++ rest), drop n (x ++ rest))) None (longer x rest n has.0)
      ∙ (λ i. Some (front.0 i, front.1 i));
}

-- four bytes or eight are those of the number that they spell
module _ (n : ℕ) (number : List ℕ → ℕ) (bound : ℕ)
    (back : (v : ℕ) → v < bound → number (bytes_high_first n v) ≡ v)
    (there : (bs : List ℕ) → length bs ≡ n → AreBytes bs → bytes_high_first n (number bs) ≡ bs)
    (small : (bs : List ℕ) → length bs ≡ n → AreBytes bs → number bs < bound)
    (long : (v : ℕ) → length (bytes_high_first n v) ≡ n) where
  pub number_reading : IsReadingOf (λ text. if nat_le n (length text) then Some (number (take n text), drop n text) else None) (bytes_high_first n) (λ v. v < bound)
  number_reading = record {
    reads = λ text x rest all e.
        let m = met (nat_le n (length text)) (number (take n text)) (drop n text) x rest e in
        let le = leb-true n (length text) m.0 in
        let front = front_bytes n text all in (
          subst (λ v. v < bound) m.1.0 (small (take n text) (length_front n text le) front),
          sym (take-append-drop n text) ∙ (λ i. sym (there (take n text) (length_front n text le) front) i ++ m.1.1 i)
              ∙ ap (λ v. bytes_high_first n v ++ rest) m.1.0,
        );
    spelled = λ x rest has.
        let front = front_is (bytes_high_first n x) rest n (long x) in
        if_true (nat_le n (length (bytes_high_first n x ++ rest))) (Some (number (take n (bytes_high_first n x ++ rest)), drop n (bytes_high_first n x ++ rest))) None
        (longer (bytes_high_first n x) rest n (long x))
        ∙ (λ i. Some (number (front.0 i), front.1 i))
        ∙ ap (λ v. Some (v, rest)) (back x has);
  }

four_fit : (bs : List ℕ) → length bs ≡ 4 → AreBytes bs → from_be_bytes w32 bs < 2 ^ 32
four_fit (a ∷ b ∷ c ∷ d ∷ []) is all = omega (arith, all.0, all.1.0, all.1.1.0, all.1.1.1.0)
four_fit [] is all = absurd (omega (arith, is))
four_fit (a ∷ []) is all = absurd (omega (arith, is))
four_fit (a ∷ b ∷ []) is all = absurd (omega (arith, is))
four_fit (a ∷ b ∷ c ∷ []) is all = absurd (omega (arith, is))
four_fit (a ∷ b ∷ c ∷ d ∷ e ∷ bs) is all = absurd (omega (arith, is))

eight_fit : (bs : List ℕ) → length bs ≡ 8 → AreBytes bs → from_be_bytes w64 bs < 2 ^ 64
eight_fit (a ∷ b ∷ c ∷ d ∷ e ∷ f ∷ g ∷ h ∷ []) is all =
    omega (arith, all.0, all.1.0, all.1.1.0, all.1.1.1.0, all.1.1.1.1.0, all.1.1.1.1.1.0, all.1.1.1.1.1.1.0, all.1.1.1.1.1.1.1.0)
eight_fit bs is all = absurd (omega (arith, is))

pub u32_reading : IsReadingOf read_u32 (bytes_high_first 4) (λ v. v < 2 ^ 32)
u32_reading =
    number_reading 4 (from_be_bytes w32) (2 ^ 32) from_be_bytes-to_be_bytes_4 (λ bs is all. be_bytes_4 bs (from_be_bytes w32 bs) is (bytes_at bs all) refl)
    four_fit (λ v. refl)

pub u64_reading : IsReadingOf read_u64 (bytes_high_first 8) (λ v. v < 2 ^ 64)
u64_reading =
    number_reading 8 (from_be_bytes w64) (2 ^ 64) from_be_bytes-to_be_bytes_8 (λ bs is all. be_bytes_8 bs (from_be_bytes w64 bs) is (bytes_at bs all) refl)
    eight_fit (λ v. refl)

pub counted_list : IsReadingOf read_counted counted_bytes IsCounted
counted_list =
    with_has read_counted (counted_reading read_u32 read_list length u32_reading list_reading) (λ x has. has.0) (λ x has. (has, tt))

-- values read in another form, which can be turned back
pub mapped_reads : {X Y : Type 0} {Has : X → Type 0} {bytes_of : X → List ℕ} (f : X → Y) (reader : Reader X) (reading : IsReadingOf reader bytes_of Has)
    (bytes_y : Y → List ℕ) (HasY : Y → Type 0) (tag : List ℕ) → ((x : X) → bytes_y (f x) ≡ tag ++ bytes_of x) → ((x : X) → Has x → HasY (f x))
    → (text : List ℕ) (y : Y) (rest : List ℕ) → AreBytes text → mapped f reader text ≡ Some (y, rest) → HasY y × (tag ++ text ≡ bytes_y y ++ rest)
mapped_reads {bytes_of = bytes_of} f reader reading bytes_y HasY tag same_bytes has_there text y rest all e =
    let a = parts reader reading (λ x rest. Some (f x, rest)) text y rest all e in
    let same = same_read (f a.x) y a.mid rest a.next in (
      subst HasY same.0 (has_there a.x a.has),
      ap (λ t. tag ++ t) a.is ∙ sym (append_assoc tag (bytes_of a.x) a.mid) ∙ ap (λ t. t ++ a.mid) (sym (same_bytes a.x))
          ∙ (λ i. bytes_y (same.0 i) ++ same.1 i),
    )

pub version_reading : IsReadingOf read_version version_bytes HasWords
unfolding version_bytes
version_reading =
    let two = both_reading read_u32 read_u64 u32_reading u64_reading in
    record {
      reads = mapped_reads version_from (both read_u32 read_u64) two version_bytes HasWords [] (λ x. refl) (λ x has. has);
      spelled = λ v rest has. on (both read_u32 read_u64) two (λ x rest. Some (version_from x, rest)) (v.epoch, v.seq) rest has;
    }
