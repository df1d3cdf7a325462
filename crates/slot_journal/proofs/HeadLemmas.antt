-- A head is the bytes of what is read from it.
use Rattle.std.proofs.Common.{◌≡◌, ◌<◌, ◌+◌, ℕ, List, [], ◌∷◌, ◌++◌, length, get_or, take, drop, sym, ◌∙◌, ap, subst, arith, length-drop, take-append-drop, append_assoc}
use Rattle.std.proofs.lemmas.List.{drop_more, drop-drop, get_or-drop, take_all}
use Rattle.byteorder.specs.Endian.{big_bytes, big_number}
use Rattle.slot_journal.specs.Header.{magic_of, head_of}
use Rattle.slot_journal.specs.declared.header.Header.{Header}
use Rattle.slot_journal.proofs.SpellingLemmas.{spelled, spelled8}

pub head_is_read : (header : Header) (head : List ℕ) → length head ≡ 23 → ((i : ℕ) → get_or head i 0 < 256) → take 7 head ≡ magic_of header.owner
    → header.format ≡ get_or head 7 0 → header.slot ≡ get_or head 8 0 → header.k ≡ get_or head 9 0 → header.n ≡ get_or head 10 0
    → header.unit ≡ big_number 4 (drop 11 head) → header.serial ≡ big_number 8 (drop 15 head) → head_of header ≡ head
head_is_read header head long fits letters format slot k n unit serial =
    let four : drop 7 head ≡ header.format ∷ header.slot ∷ header.k ∷ header.n ∷ drop 11 head =
    drop_more head 7 0 (omega (arith, long)) ∙ ap (λ (l : List ℕ). get_or head 7 0 ∷ l) (drop_more head 8 0 (omega (arith, long))
    ∙ ap (λ (l : List ℕ). get_or head 8 0 ∷ l) (drop_more head 9 0 (omega (arith, long)) ∙ ap (λ (l : List ℕ). get_or head 9 0 ∷ l) (drop_more head 10 0 (omega (arith, long)))))
    ∙ (λ i. sym format i ∷ sym slot i ∷ sym k i ∷ sym n i ∷ drop 11 head) in
    let fits_from = λ (at : ℕ) (i : ℕ). subst (λ b. b < 256) (sym (get_or-drop at head i 0)) (fits (at + i)) in
    let unit_is = ap (λ u. big_bytes 4 u) unit ∙ spelled (drop 11 head) (omega (arith, long, length-drop 11 head)) (fits_from 11) in
    let serial_is = ap (λ u. big_bytes 8 u) serial ∙ spelled8 (drop 15 head) (omega (arith, long, length-drop 15 head)) (fits_from 15)
    ∙ take_all 8 (drop 15 head) (omega (arith, long, length-drop 15 head)) in
    let unit_split : take 4 (drop 11 head) ++ drop 15 head ≡ drop 11 head = ap (λ (l : List ℕ). take 4 (drop 11 head) ++ l) (sym (drop-drop 4 11 head)) ∙ take-append-drop 4 (drop 11 head) in
    let four_bytes = header.format ∷ header.slot ∷ header.k ∷ header.n ∷ [] in
    ap (λ (l : List ℕ). magic_of header.owner ++ four_bytes ++ l ++ big_bytes 8 header.serial) unit_is
    ∙ ap (λ (l : List ℕ). magic_of header.owner ++ four_bytes ++ take 4 (drop 11 head) ++ l) serial_is
    ∙ append_assoc (magic_of header.owner ++ four_bytes) (take 4 (drop 11 head)) (drop 15 head)
    ∙ ap (λ (l : List ℕ). magic_of header.owner ++ four_bytes ++ l) unit_split
    ∙ append_assoc (magic_of header.owner) four_bytes (drop 11 head)
    ∙ ap (λ (l : List ℕ). magic_of header.owner ++ l) (sym four)
    ∙ ap (λ (l : List ℕ). l ++ drop 7 head) (sym letters)
    ∙ take-append-drop 7 head
