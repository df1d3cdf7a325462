-- The records of a text that is read.
use Rattle.std.proofs.Common.{◌≡◌, ◌≤◌, ◌<◌, ◌+◌, ◌-◌, ℕ, suc, List, [], ◌∷◌, ◌++◌, length, get_or, take, drop, sym, ◌∙◌, ap, arith, append_assoc, length-drop}
use Rattle.std.proofs.lemmas.List.{drop_more, drop-drop, drop-take, take-take, get_or-take, get_or-drop, append-nil}
use Rattle.byteorder.specs.Endian.{big_bytes}
use Rattle.slot_journal.specs.Header.{open_gate}
use Rattle.slot_journal.specs.Text.{max_body, record_bytes, records, AreSized, IsBodyLength}
use Rattle.slot_journal.specs.Reading.{ShowsPrefix, IsRecordAt, IsReadUpTo}
use Rattle.slot_journal.proofs.PieceLemmas.{take_add}

-- a record that is read stands in the text
pub record_at : (text : List ℕ) (at len body_len : ℕ) (ahead rest body : List ℕ) → len ≡ length text → at < len → ShowsPrefix text at ahead → get_or ahead 0 0 ≡ open_gate → rest ≡ drop 1 ahead
    → IsBodyLength rest (len - at - 1) body_len → length body ≡ body_len → body ≡ take body_len (drop (at + 5) text) → IsRecordAt text at body
record_at text at len body_len ahead rest body is_len inside shows is_open behind is size body_is =
    let m : ℕ = length ahead in
    let none : at + 0 ≡ at = omega arith in
    let long : 5 ≤ m = omega (arith, is.whole, ap length behind, length-drop 1 ahead) in
    let at_gate : get_or text at 0 ≡ open_gate =
    ap (λ n. get_or text n 0) (sym none) ∙ sym (get_or-drop at text 0 0) ∙ sym (get_or-take m (drop at text) 0 0 (omega (arith, long))) ∙ ap (λ (l : List ℕ). get_or l 0 0) (sym shows.is_piece) ∙ is_open in
    let here : drop at text ≡ open_gate ∷ drop (at + 1) text = drop_more text at 0 (omega (arith, inside, is_len)) ∙ ap (λ b. b ∷ drop (at + 1) text) at_gate in
    let whole : m ≡ 1 + (m - 1) = omega (arith, long) in
    let rest_is : rest ≡ take (m - 1) (drop (at + 1) text) = behind ∙ ap (λ (l : List ℕ). drop 1 l) (shows.is_piece ∙ ap (λ n. take n (drop at text)) whole) ∙ drop-take 1 (m - 1) (drop at text)
    ∙ ap (λ (l : List ℕ). take (m - 1) l) (drop-drop 1 at text) in
    let four : take 4 (drop (at + 1) text) ≡ big_bytes 4 (length body) =
    sym (take-take 4 (m - 1) (drop (at + 1) text) (omega (arith, long))) ∙ ap (λ (l : List ℕ). take 4 l) (sym rest_is) ∙ is.is ∙ ap (λ n. big_bytes 4 n) (sym size) in
    let five : 5 + body_len ≡ suc (4 + body_len) = omega arith in
    let further : at + 1 + 4 ≡ at + 5 = omega arith in
    record {
      within = omega (arith, is.within, size, is_len, inside);
      some = omega (arith, is.some, size);
      most = omega (arith, is.most, size);
      is = ap (λ n. take (5 + n) (drop at text)) size ∙ ap (λ n. take n (drop at text)) five ∙ ap (λ (l : List ℕ). take (suc (4 + body_len)) l) here
          ∙ ap (λ (l : List ℕ). open_gate ∷ l) (take_add 4 body_len (drop (at + 1) text) ∙ ap (λ (l : List ℕ). take 4 (drop (at + 1) text) ++ take body_len l) (drop-drop 4 (at + 1) text ∙ ap (λ n. drop n text) further)
          ∙ ap (λ (l : List ℕ). l ++ take body_len (drop (at + 5) text)) four ∙ ap (λ (l : List ℕ). big_bytes 4 (length body) ++ l) (sym body_is));
    }

pub records-push : (bodies : List (List ℕ)) (body : List ℕ) → records (bodies ++ body ∷ []) ≡ records bodies ++ record_bytes body
records-push [] body = append-nil (record_bytes body)
records-push (b ∷ bodies) body = ap (λ (l : List ℕ). record_bytes b ++ l) (records-push bodies body) ∙ sym (append_assoc (record_bytes b) (records bodies) (record_bytes body))

pub AreSized-push : (bodies : List (List ℕ)) (body : List ℕ) → AreSized bodies → 1 ≤ length body → length body ≤ max_body → AreSized (bodies ++ body ∷ [])
AreSized-push [] body sized some most = (some, most, tt)
AreSized-push (b ∷ bodies) body sized some most = (sized.0, sized.1, AreSized-push bodies body sized.2 some most)

-- one record more is read
pub read_more : (text : List ℕ) (bodies : List (List ℕ)) (at : ℕ) (body : List ℕ) → IsReadUpTo text bodies at → IsRecordAt text at body → IsReadUpTo text (bodies ++ body ∷ []) (at + (5 + length body))
read_more text bodies at body read is = record {
  within = is.within;
  split = take_add at (5 + length body) text ∙ ap (λ (l : List ℕ). l ++ take (5 + length body) (drop at text)) read.split ∙ ap (λ (l : List ℕ). take 24 text ++ records bodies ++ l) is.is
      ∙ append_assoc (take 24 text) (records bodies) (record_bytes body) ∙ ap (λ (l : List ℕ). take 24 text ++ l) (sym (records-push bodies body));
  sized = AreSized-push bodies body read.sized is.some is.most;
}

-- behind the header nothing is read yet
pub read_none : (text : List ℕ) → 24 ≤ length text → IsReadUpTo text [] 24
read_none text long = record { within = long; split = sym (append-nil (take 24 text)); sized = tt }
