-- Files that are written piece after piece.
use Rattle.std.proofs.Common.{◌≡◌, ◌==◌, ◌≤◌, ℕ, List, [], ◌++◌, Bool, true, false, Option, Some, None, Result, Ok, Err, cond, refl, ap, sym, subst, ◌∙◌, arith}
use Rattle.std.proofs.lemmas.Bool.Decides.{nat_tests}
use Rattle.std.specs.Ordering.{nat_cmp, is_eq}
use Rattle.std.specs.Cmp.Lexicographic.{slice_cmp, nat_list_cmp_total}
use Rattle.std.specs.FinMap as map
use Rattle.std.specs.Result.{IsOk, IsErr}
use Rattle.std.specs.declared.cmp.Ordering.{Ordering}
use Rattle.stripe_map.specs.Decoding.{bytes_of}
use Rattle.ec_files.specs.Accesses.{Told, HasFile, Puts}
use Rattle.ec_files.specs.Files.{FileMap, KeepsOthers}
use Rattle.ec_files.proofs.FileLemmas.{written, others_stay}

-- of two writes of a file the later one stands
twice : (old : FileMap) (name first later : List ℕ) → map.insert (map.insert old name first) name later ≡ map.insert old name later
twice old name first later = map.same_map nat_list_cmp_total (map.slice_cmp-IsAntisymmetric map.nat_cmp-IsAntisymmetric) _ _ each where
  pick : (r : Ordering) (x : Option (List ℕ)) → cond (is_eq r) (Some later) (cond (is_eq r) (Some first) x) ≡ cond (is_eq r) (Some later) x
  pick r x = by_test (is_eq r)
    where
      by_test : (b : Bool) → cond b (Some later) (cond b (Some first) x) ≡ cond b (Some later) x
      by_test true = refl
      by_test false = refl

  each : (q : List ℕ) → map.get (map.insert (map.insert old name first) name later) q ≡ map.get (map.insert old name later) q
  each q =
      map.get-insert nat_list_cmp_total (map.insert old name first) name later q
      ∙ ap (cond (is_eq (slice_cmp nat_cmp q name)) (Some later)) (map.get-insert nat_list_cmp_total old name first q)
      ∙ pick (slice_cmp nat_cmp q name) (map.get old q)
      ∙ sym (map.get-insert nat_list_cmp_total old name later q)

grown_file : (old : FileMap) (name part piece : List ℕ)
    → map.insert (map.insert old name part) name (bytes_of (map.get (map.insert old name part) name) ++ piece) ≡ map.insert old name (part ++ piece)
grown_file old name part piece =
    ap (λ (o : Option (List ℕ)). map.insert (map.insert old name part) name (bytes_of o ++ piece)) (written old name part) ∙ twice old name part (part ++ piece)

-- the first piece is the file
pub begun : {T E : Type 0} → (before now : Option FileMap) (name piece : List ℕ) (result : Result T E) → IsOk result → Puts before now name true piece result
    → Told before now (HasFile name piece)
begun {T} {E} before now name piece (Err why) ok is = absurd cc
begun {T} {E} None now name piece (Ok done) ok is = subst (λ (n : Option FileMap). Told None n (HasFile name piece)) (sym is) tt
begun {T} {E} (Some old) None name piece (Ok done) ok is = absurd is
begun {T} {E} (Some old) (Some new) name piece (Ok done) ok is = is

-- a further piece stands behind those before it
pub grown : {T E : Type 0} → (before mid now : Option FileMap) (name part piece : List ℕ) (result : Result T E) → IsOk result → Told before mid (HasFile name part)
    → Puts mid now name false piece result → Told before now (HasFile name (part ++ piece))
grown {T} {E} before mid now name part piece (Err why) ok so_far is = absurd cc
grown {T} {E} None None now name part piece (Ok done) ok so_far is = subst (λ (n : Option FileMap). Told None n (HasFile name (part ++ piece))) (sym is) tt
grown {T} {E} None (Some mid) now name part piece (Ok done) ok so_far is = absurd so_far
grown {T} {E} (Some old) None now name part piece (Ok done) ok so_far is = absurd so_far
grown {T} {E} (Some old) (Some mid) None name part piece (Ok done) ok so_far is = absurd is
grown {T} {E} (Some old) (Some mid) (Some new) name part piece (Ok done) ok so_far is =
    is
    ∙ ap (λ (files : FileMap). map.insert files name (bytes_of (map.get files name) ++ piece)) so_far
    ∙ grown_file old name part piece

pub part_keeps : (before now : Option FileMap) (name part : List ℕ) → Told before now (HasFile name part) → Told before now (λ old new. KeepsOthers old new name)
part_keeps None None name part has = tt
part_keeps None (Some now) name part has = absurd has
part_keeps (Some old) None name part has = absurd has
part_keeps (Some old) (Some new) name part has = λ other ne. ap (λ (files : FileMap). map.get files other) has ∙ others_stay old name part other ne

-- if a piece can't be put, all other files stay
begun_in_part : {T E : Type 0} → (before now : Option FileMap) (name piece : List ℕ) (result : Result T E) → IsErr result → Puts before now name true piece result
    → Told before now (λ old new. KeepsOthers old new name)
begun_in_part {T} {E} before now name piece (Ok done) err is = absurd cc
begun_in_part {T} {E} None now name piece (Err why) err is = subst (λ (n : Option FileMap). Told None n (λ old new. KeepsOthers old new name)) (sym is) tt
begun_in_part {T} {E} (Some old) None name piece (Err why) err is = absurd is
begun_in_part {T} {E} (Some old) (Some new) name piece (Err why) err is = is

grown_in_part : {T E : Type 0} → (before mid now : Option FileMap) (name part piece : List ℕ) (result : Result T E) → IsErr result → Told before mid (HasFile name part)
    → Puts mid now name false piece result → Told before now (λ old new. KeepsOthers old new name)
grown_in_part {T} {E} before mid now name part piece (Ok done) err so_far is = absurd cc
grown_in_part {T} {E} None None now name part piece (Err why) err so_far is = subst (λ (n : Option FileMap). Told None n (λ old new. KeepsOthers old new name)) (sym is) tt
grown_in_part {T} {E} None (Some mid) now name part piece (Err why) err so_far is = absurd so_far
grown_in_part {T} {E} (Some old) None now name part piece (Err why) err so_far is = absurd so_far
grown_in_part {T} {E} (Some old) (Some mid) None name part piece (Err why) err so_far is = absurd is
grown_in_part {T} {E} (Some old) (Some mid) (Some new) name part piece (Err why) err so_far is = λ other ne.
    is other ne ∙ part_keeps (Some old) (Some mid) name part so_far other ne

-- the next piece, whichever it is
pub next_piece : {T E : Type 0} → (before mid now : Option FileMap) (name part piece : List ℕ) (first : Bool) (result : Result T E) → IsOk result
    → (first ≡ true → (mid ≡ before) × (part ≡ [])) → (first ≡ false → Told before mid (HasFile name part))
    → Puts mid now name first piece result → Told before now (HasFile name (part ++ piece))
next_piece {T} {E} before mid now name part piece true result ok none some is =
    subst (λ (b : Option FileMap). Told b now (HasFile name (part ++ piece))) (none refl).0
    (subst (λ (p : List ℕ). Told mid now (HasFile name (p ++ piece))) (sym (none refl).1) (begun mid now name piece result ok is))
next_piece {T} {E} before mid now name part piece false result ok none some is = grown before mid now name part piece result ok (some refl) is

pub stopped_piece : {T E : Type 0} → (before mid now : Option FileMap) (name part piece : List ℕ) (first : Bool) (result : Result T E) → IsErr result
    → (first ≡ true → mid ≡ before) → (first ≡ false → Told before mid (HasFile name part))
    → Puts mid now name first piece result → Told before now (λ old new. KeepsOthers old new name)
stopped_piece {T} {E} before mid now name part piece true result err none some is =
    subst (λ (b : Option FileMap). Told b now (λ old new. KeepsOthers old new name)) (none refl) (begun_in_part mid now name piece result err is)
stopped_piece {T} {E} before mid now name part piece false result err none some is = grown_in_part before mid now name part piece result err (some refl) is

-- ---- which piece

pub is_first : (i : ℕ) → (i == 0) ≡ true → i ≡ 0
is_first i t = grind (arith, nat_tests)

pub is_later : (i : ℕ) → (i == 0) ≡ false → 1 ≤ i
is_later i f = grind (arith, nat_tests)
