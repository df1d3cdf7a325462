-- A text whose closed gate has a record behind it, and what opening the gate makes of it.
use Rattle.std.proofs.Common.{◌≡◌, ◌≤◌, ◌<◌, ◌+◌, inl, inr, ℕ, List, [], ◌∷◌, ◌++◌, length, get_or, take, drop, sym, ◌∙◌, ap, arith, append_assoc, length-append, take-append-drop}
use Rattle.std.proofs.lemmas.List.{take_at, drop_at, drop_more}
use Rattle.std.proofs.lemmas.Bool.{cases_eq}
use Rattle.byteorder.specs.Endian.{big_bytes}
use Rattle.rig_disk.specs.Disk.{Torn, written}
use Rattle.slot_journal.specs.Header.{open_gate}
use Rattle.slot_journal.specs.Text.{max_body, IsHeader, record_bytes, records, AreSized, IsText}
use Rattle.slot_journal.specs.Writing.{KeepsFront, behind_gate, next_gate, IsBeforeOrAfter}
use Rattle.slot_journal.proofs.RecordLemmas.{records-push, AreSized-push}

module _ (head : List ℕ) (bodies : List (List ℕ)) (gate : ℕ) where
  -- the gate and all before it stay
  pub behind : (old new : List ℕ) → IsText head bodies gate old → KeepsFront (gate + 1) old new → IsText head bodies gate new
  behind old new text keeps =
      let F = text.header ++ records bodies in
      let shut = F ++ text.gate ∷ [] in
      let split : old ≡ shut ++ text.rest = text.bytes ∙ sym (append_assoc F (text.gate ∷ []) text.rest) in
      let size : length shut ≡ gate + 1 = length-append F (text.gate ∷ []) ∙ ap (λ n. n + 1) (sym text.at) in
      let first : take (gate + 1) new ≡ shut = keeps.before ∙ ap (λ (l : List ℕ). take (gate + 1) l) split ∙ take_at shut text.rest (gate + 1) size in
      record {
        header = text.header;
        gate = text.gate;
        rest = drop (gate + 1) new;
        is_header = text.is_header;
        sized = text.sized;
        closed = text.closed;
        at = text.at;
        bytes = sym (take-append-drop (gate + 1) new) ∙ ap (λ (l : List ℕ). l ++ drop (gate + 1) new) first ∙ append_assoc F (text.gate ∷ []) (drop (gate + 1) new);
      }

  pub gate_within : (text : List ℕ) → IsText head bodies gate text → gate + 1 ≤ length text
  gate_within text is = omega (arith, ap length is.bytes, length-append (is.header ++ records bodies) (is.gate ∷ is.rest), is.at)

  module _ (body : List ℕ) (some : 1 ≤ length body) (most : length body ≤ max_body) where
    -- the record stands behind the gate, whatever the gate is
    pub record Staged (text : List ℕ) : Type 0 where
      pub header : List ℕ
      pub mark : ℕ
      pub rest : List ℕ
      pub is_header : IsHeader head header
      pub sized : AreSized bodies
      pub at : gate ≡ length (header ++ records bodies)
      pub bytes : text ≡ header ++ records bodies ++ mark ∷ (behind_gate body ++ rest)

    pub staged : (old : List ℕ) → IsText head bodies gate old → Staged (written (gate + 1) (behind_gate body) old)
    staged old text =
        let F = text.header ++ records bodies in
        let shut = F ++ text.gate ∷ [] in
        let after = drop (gate + 1 + length (behind_gate body)) old in
        let split : old ≡ shut ++ text.rest = text.bytes ∙ sym (append_assoc F (text.gate ∷ []) text.rest) in
        let size : length shut ≡ gate + 1 = length-append F (text.gate ∷ []) ∙ ap (λ n. n + 1) (sym text.at) in
        let first : take (gate + 1) old ≡ shut = ap (λ (l : List ℕ). take (gate + 1) l) split ∙ take_at shut text.rest (gate + 1) size in
        record {
          header = text.header;
          mark = text.gate;
          rest = after;
          is_header = text.is_header;
          sized = text.sized;
          at = text.at;
          bytes = ap (λ (l : List ℕ). l ++ behind_gate body ++ after) first ∙ append_assoc shut (behind_gate body) after ∙ append_assoc F (text.gate ∷ []) (behind_gate body ++ after);
        }

    module _ (text : List ℕ) (s : Staged text) where
      full : (new : List ℕ) → new ≡ s.header ++ records bodies ++ open_gate ∷ (behind_gate body ++ s.rest) → IsText head (bodies ++ body ∷ []) (next_gate gate body) new
      full new is = record {
        header = s.header;
        gate = 0;
        rest = s.rest;
        is_header = s.is_header;
        sized = AreSized-push bodies body s.sized some most;
        closed = omega arith;
        at = sym (ap length longer ∙ length-append (s.header ++ records bodies) (record_bytes body) ∙ omega (arith, s.at));
        bytes = is ∙ sym joined;
      }
        where
          longer : s.header ++ records (bodies ++ body ∷ []) ≡ s.header ++ records bodies ++ record_bytes body
          longer = ap (λ (l : List ℕ). s.header ++ l) (records-push bodies body) ∙ sym (append_assoc s.header (records bodies) (record_bytes body))

          joined : s.header ++ records (bodies ++ body ∷ []) ++ 0 ∷ s.rest ≡ s.header ++ records bodies ++ open_gate ∷ (behind_gate body ++ s.rest)
          joined = ap (λ (l : List ℕ). l ++ 0 ∷ s.rest) longer ∙ append_assoc (s.header ++ records bodies) (record_bytes body) (0 ∷ s.rest)
              ∙ ap (λ (l : List ℕ). s.header ++ records bodies ++ ((open_gate ∷ big_bytes 4 (length body)) ++ l)) (sym (append_assoc body (0 ∷ []) s.rest))

      either : (mark : ℕ) (new : List ℕ) → new ≡ s.header ++ records bodies ++ mark ∷ (behind_gate body ++ s.rest) → IsBeforeOrAfter head bodies body gate new
      either mark new is = elim (cases_eq mark open_gate) [
        | inl is_open ↦ inr (full new (is ∙ ap (λ m. s.header ++ records bodies ++ m ∷ (behind_gate body ++ s.rest)) is_open))
        | inr shut ↦ inl (record { header = s.header; gate = mark; rest = behind_gate body ++ s.rest; is_header = s.is_header; sized = s.sized; closed = shut; at = s.at; bytes = is })
      ]

      pub staged_within : gate + 1 ≤ length text
      staged_within = omega (arith, s.at, ap length s.bytes, length-append (s.header ++ records bodies) (s.mark ∷ (behind_gate body ++ s.rest)))

      first_part : take gate text ≡ s.header ++ records bodies
      first_part = ap (λ (l : List ℕ). take gate l) s.bytes ∙ take_at (s.header ++ records bodies) (s.mark ∷ (behind_gate body ++ s.rest)) gate (sym s.at)

      last_part : drop (gate + 1) text ≡ behind_gate body ++ s.rest
      last_part =
          ap (λ (l : List ℕ). drop (gate + 1) l) (s.bytes ∙ sym (append_assoc (s.header ++ records bodies) (s.mark ∷ []) (behind_gate body ++ s.rest)))
          ∙ drop_at (s.header ++ records bodies ++ s.mark ∷ []) (behind_gate body ++ s.rest) (gate + 1) (length-append (s.header ++ records bodies) (s.mark ∷ []) ∙ ap (λ n. n + 1) (sym s.at))

      -- whatever a crash makes of the gate
      pub torn_gate : (new : List ℕ) → Torn gate 1 text new → IsBeforeOrAfter head bodies body gate new
      torn_gate new torn =
          let mark = get_or new gate 0 in
          let long : gate < length new = omega (arith, torn.no_shorter, staged_within) in
          let last : drop gate new ≡ mark ∷ (behind_gate body ++ s.rest) = drop_more new gate 0 long ∙ ap (λ (l : List ℕ). mark ∷ l) (torn.after ∙ last_part) in
          let first : take gate new ≡ s.header ++ records bodies = torn.before ∙ first_part in
          either mark new (sym (take-append-drop gate new) ∙ ap (λ (l : List ℕ). l ++ drop gate new) first ∙ ap (λ (l : List ℕ). s.header ++ records bodies ++ l) last)

      pub opened : IsText head (bodies ++ body ∷ []) (next_gate gate body) (written gate (open_gate ∷ []) text)
      opened = full (written gate (open_gate ∷ []) text) (ap (λ (l : List ℕ). l ++ (open_gate ∷ []) ++ drop (gate + 1) text) first_part
          ∙ ap (λ (l : List ℕ). s.header ++ records bodies ++ (open_gate ∷ []) ++ l) last_part
          ∙ append_assoc (s.header ++ records bodies) (open_gate ∷ []) (behind_gate body ++ s.rest))
