-- What the writes that make a journal leave in the area.
use Rattle.std.proofs.Common.{◌≡◌, ◌≢◌, ◌≤◌, ◌+◌, ◌-◌, min, inl, inr, ℕ, suc, List, [], ◌∷◌, ◌++◌, length, get_or, take, drop, refl, sym, ◌∙◌, ap, subst, arith, append_assoc, length-append}
use Rattle.std.proofs.lemmas.List.{take_all, drop_all, append-nil}
use Rattle.std.proofs.lemmas.Bool.{cases_eq}
use Rattle.rig_disk.specs.Disk.{Torn, Cut, written, read_part}
use Rattle.slot_journal.specs.Header.{open_gate}
use Rattle.slot_journal.specs.Text.{max_body, IsHeader, record_bytes, IsText}
use Rattle.slot_journal.specs.Writing.{KeepsFront, behind_gate, next_gate, IsShut, IsVoid, IsUnshut, IsSameOrVoid, IsVoidOrFirst}

-- the first byte that a read gives
pub gate_read : (there old into : List ℕ) (n : ℕ) → length there ≢ 0 → length old ≡ 1 → n ≡ min (length old) (length there - 0) → into ≡ read_part there 0 n old → get_or into 0 0 ≡ get_or there 0 0
gate_read [] old into n some long count is = absurd (some refl)
gate_read (b ∷ there) old into n some long count is =
    let one : n ≡ 1 = omega (arith, count, long) in
    ap (λ (l : List ℕ). get_or l 0 0) (is ∙ ap (λ m. read_part (b ∷ there) 0 m old) one)

pub shut_of : (there : List ℕ) → length there ≢ 0 → get_or there 0 0 ≢ open_gate → IsShut there
shut_of [] some shut = absurd (some refl)
shut_of (b ∷ there) some shut = record { gate = b; rest = there; bytes = refl; closed = shut }

pub shut_some : (there : List ℕ) → IsShut there → 1 ≤ length there
shut_some there shut = omega (arith, ap length shut.bytes)

-- whatever a crash makes of an open gate that is being closed
pub closing : (there now : List ℕ) → IsUnshut there → Torn 0 1 there now → IsSameOrVoid there now
closing there now (inl none) torn = inr (inl (omega (arith, torn.no_longer, ap length none)))
closing [] now (inr opens) torn = inr (inl (omega (arith, torn.no_longer)))
closing (b ∷ there) [] (inr opens) torn = inr (inl (omega arith))
closing (b ∷ there) (c ∷ now) (inr opens) torn = elim (cases_eq c b) [
  | inl same ↦ inl (λ i. same i ∷ torn.after i)
  | inr other ↦ inr (inr (record { gate = c; rest = now; bytes = refl; closed = λ is_open. other (is_open ∙ sym opens) }))
]

pub closed_now : (there : List ℕ) → IsShut (written 0 (0 ∷ []) there)
closed_now there = record { gate = 0; rest = drop 1 there; bytes = refl; closed = λ clash. omega (arith, clash) }

pub same_then : (a b c : List ℕ) → IsSameOrVoid a b → IsSameOrVoid b c → IsSameOrVoid a c
same_then a b c (inl same) (inl again) = inl (again ∙ same)
same_then a b c (inr void) (inl again) = inr (subst IsVoid (sym again) void)
same_then a b c first (inr void) = inr void

pub cut_shut : (there now : List ℕ) → IsShut there → Cut 1 there now → IsShut now
cut_shut there [] shut cut = absurd (omega (arith, cut.no_shorter, ap length shut.bytes))
cut_shut there (c ∷ now) shut cut = record {
  gate = c;
  rest = now;
  bytes = refl;
  closed = λ is_open. shut.closed (ap (λ (l : List ℕ). get_or l 0 0) (ap (λ (l : List ℕ). take (suc (length now)) l) (sym shut.bytes) ∙ cut.front) ∙ is_open);
}

pub keeps_shut : (old new : List ℕ) → IsShut old → KeepsFront 1 old new → IsShut new
keeps_shut old [] shut keeps = absurd (omega (arith, keeps.no_shorter, ap length shut.bytes))
keeps_shut old (c ∷ new) shut keeps = record {
  gate = c;
  rest = new;
  bytes = refl;
  closed = λ is_open. shut.closed (sym (ap (λ (l : List ℕ). get_or l 0 0) (keeps.before ∙ ap (λ (l : List ℕ). take 1 l) shut.bytes)) ∙ is_open);
}

written_behind_all : (at : ℕ) (bytes there : List ℕ) → length there ≡ at → written at bytes there ≡ there ++ bytes
written_behind_all at bytes there size =
    ap (λ (l : List ℕ). l ++ bytes ++ drop (at + length bytes) there) (take_all at there (omega (arith, size)))
    ∙ ap (λ (l : List ℕ). there ++ bytes ++ l) (drop_all (at + length bytes) there (omega (arith, size)))
    ∙ append-nil (there ++ bytes)

module _ (head body : List ℕ) (long : length head ≡ 23) where
  -- what stands behind the first gate
  abbrev pub behind_first : List ℕ
  behind_first = head ++ record_bytes body ++ 0 ∷ []

  pub built : (there : List ℕ) (shut : IsShut there) → written 25 (behind_gate body) (written 1 (head ++ open_gate ∷ []) (take 1 there)) ≡ shut.gate ∷ behind_first
  built there shut =
      let gate = shut.gate in
      let one : take 1 there ≡ gate ∷ [] = ap (λ (l : List ℕ). take 1 l) shut.bytes in
      let first = written_behind_all 1 (head ++ open_gate ∷ []) (gate ∷ []) refl in
      let size : length ((gate ∷ []) ++ (head ++ open_gate ∷ [])) ≡ 25 = omega (arith, length-append head (open_gate ∷ []), long) in
      ap (λ (l : List ℕ). written 25 (behind_gate body) (written 1 (head ++ open_gate ∷ []) l)) one
      ∙ ap (λ (l : List ℕ). written 25 (behind_gate body) l) first
      ∙ written_behind_all 25 (behind_gate body) ((gate ∷ []) ++ (head ++ open_gate ∷ [])) size
      ∙ ap (λ (l : List ℕ). gate ∷ l) (append_assoc head (open_gate ∷ []) (behind_gate body) ∙ sym (append_assoc head (record_bytes body) (0 ∷ [])))

  module _ (some : 1 ≤ length body) (most : length body ≤ max_body) where
    is_header : IsHeader head (open_gate ∷ head)
    is_header = record {
      long = omega (arith, long);
      fits = λ place early. (omega (arith, early, long), inl refl);
    }

    pub first_is_text : IsText head (body ∷ []) (next_gate 24 body) (open_gate ∷ behind_first)
    first_is_text = record {
      header = open_gate ∷ head;
      gate = 0;
      rest = [];
      is_header = is_header;
      sized = (some, most, tt);
      closed = λ clash. omega (arith, clash);
      at = sym (ap length (ap (λ (l : List ℕ). (open_gate ∷ head) ++ l) (append-nil (record_bytes body))) ∙ length-append (open_gate ∷ head) (record_bytes body) ∙ omega (arith, long));
      bytes = ap (λ (l : List ℕ). (open_gate ∷ head) ++ l ++ 0 ∷ []) (sym (append-nil (record_bytes body)));
    }

    -- whatever a crash makes of the first gate
    pub first_torn : (gate : ℕ) (now : List ℕ) → Torn 0 1 (gate ∷ behind_first) now → IsVoidOrFirst head body now
    first_torn gate [] torn = inl (inl (omega arith))
    first_torn gate (c ∷ now) torn = elim (cases_eq c open_gate) [
      | inl is_open ↦ inr (subst (λ (l : List ℕ). IsText head (body ∷ []) (next_gate 24 body) l) (λ i. sym is_open i ∷ sym torn.after i) first_is_text)
      | inr shut ↦ inl (inr (record { gate = c; rest = now; bytes = refl; closed = shut }))
    ]
