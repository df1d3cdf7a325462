-- The header of a map's text, as it is read.
use Rattle.std.proofs.Common.{◌≡◌, ⊎_elim, ◌≤◌, ◌<◌, ◌++◌, ℕ, zero, suc, List, [], ◌∷◌, length, take, get_or, slice_index_or, Option, Some, refl, sym, ap, subst, ◌∙◌, arith, Result, Err, IsErrOf}
use Rattle.std.specs.List.{Contains}
use Rattle.std.specs.Result.{IsErrAnd}
use Rattle.std.proofs.lemmas.Grind.{same_number_lists}
use Rattle.std.proofs.lemmas.List.{take_at, append_assoc}
use Rattle.std.proofs.lemmas.Bool.Decides.{nat_tests}
use Rattle.rig_disk.specs.Disk.{on_told}
use Rattle.rig_disk.proofs.Areas.{was_told}
use Rattle.slot_journal.specs.Header.{open_gate, known_formats}
use Rattle.slot_journal.specs.InUse.{open_text}
use Rattle.slot_journal.specs.Laws.{BadTextsHaveOnePlace}
use Rattle.slot_journal.specs.Text.{Serves, IsHeader, records, IsText, IsBadText}
use Rattle.slot_journal.specs.declared.fault.JournalFault.{JournalFault}
use Rattle.slot_journal.specs.declared.fault.JournalFault.TheVariants as journal
use Rattle.pool_map.specs.Faults.{of_journal}
use Rattle.pool_map.specs.Maps.{PoolImage, map_head, map_format, format_in, IsMapOf}
use Rattle.pool_map.specs.declared.fault.MapFault.{MapFault}
use Rattle.pool_map.specs.declared.fault.MapFault.TheVariants as map
use Rattle.pool_map.proofs.FaultLemmas.{err_by}

open_is_text : (there : List ℕ) → get_or there 0 0 ≡ open_gate → open_text there ≡ there
open_is_text there is_open = grind (arith, nat_tests)

pub open_told : (told : Option (List ℕ)) (text front : List ℕ) → on_told open_text told ≡ Some text
    → ((there : List ℕ) → told ≡ Some there → (24 ≤ length there) × ((get_or there 0 0 ≡ open_gate) × (front ≡ take 24 there)))
    → (24 ≤ length text) × (front ≡ take 24 text)
open_told told text front is seen =
    let was = was_told told open_text text is in
    let saw = seen was.there was.told in
    let same : text ≡ was.there = was.changed ∙ open_is_text was.there saw.1.0 in
    (subst (λ (t : List ℕ). 24 ≤ length t) (sym same) saw.0, saw.1.1 ∙ ap (λ (t : List ℕ). take 24 t) (sym same))

first_format : (k x : ℕ) → k < 1 → slice_index_or (1 ∷ []) k x ≡ x → x ≡ 1
first_format zero x less is = sym is
first_format (suc k) x less is = absurd (omega (arith, less))

one_format : (x : ℕ) → Contains known_formats x → x ≡ 1
one_format x has = first_format has.0 x has.1 has.2

served : (place wanted byte : ℕ) → Serves place wanted byte → byte ≡ wanted
served place wanted byte serves = ⊎_elim (λ same. same) (λ formats. one_format byte formats.2 ∙ sym (one_format wanted formats.1)) serves

header_is : (k n unit : ℕ) (header : List ℕ) → IsHeader (map_head k n unit) header → header ≡ open_gate ∷ map_head k n unit
header_is k n unit header is =
    same_number_lists header (open_gate ∷ map_head k n unit) is.long
    (λ place early. served place (get_or (open_gate ∷ map_head k n unit) place 0) (get_or header place 0) (is.fits place (omega (arith, early, is.long))).1)

pub text_front : (k n unit : ℕ) (bodies : List (List ℕ)) (place : ℕ) (text : List ℕ) → IsText (map_head k n unit) bodies place text
    → take 24 text ≡ open_gate ∷ map_head k n unit
text_front k n unit bodies place text is =
    ap (λ (t : List ℕ). take 24 t) (is.bytes ∙ append_assoc is.header (records bodies) (is.gate ∷ is.rest)) ∙ take_at is.header (records bodies ++ is.gate ∷ is.rest) 24 is.is_header.long ∙ header_is k n unit is.header is.is_header

-- the fault of a journal whose map is bad
bad_slot : (j : JournalFault) → of_journal j ≡ map.BadMap → (at : ℕ) × (j ≡ journal.BadSlot at)
bad_slot (journal.BadSlot at) is = (at, refl)
bad_slot journal.Failed is = absurd cc
bad_slot journal.Spent is = absurd cc
bad_slot journal.NoMemory is = absurd cc

pub bad_slot_of : {T U : Type 0} (load : Result T JournalFault) (answer : Result U MapFault) (j : JournalFault) → load ≡ Err j
    → IsErrAnd answer (λ s. s ≡ of_journal j) → answer ≡ Err map.BadMap → (at : ℕ) × IsErrOf load (journal.BadSlot at)
bad_slot_of {T} {U} load answer j is gives bad =
    let at = bad_slot j (err_by answer (of_journal j) map.BadMap gives bad) in
    (at.0, subst (λ (l : Result T JournalFault). IsErrOf l (journal.BadSlot at.0)) (sym (is ∙ ap (λ (x : JournalFault). Err x) at.1)) refl)

-- a text that is bad for the head that it has is no map's
pub no_text : (head text : List ℕ) (k n unit own_k own_n own_unit at : ℕ) (bodies : List (List ℕ)) (place : ℕ) → BadTextsHaveOnePlace
    → IsBadText head text at → head ≡ map_head own_k own_n own_unit → (k ≡ own_k) × ((n ≡ own_n) × (unit ≡ own_unit))
    → IsText (map_head k n unit) bodies place text → ⊥
no_text head text k n unit own_k own_n own_unit at bodies place law bad is same is_text =
    (law text head at bad).0 bodies place
    (subst (λ (h : List ℕ). IsText h bodies place text) (sym is)
    (subst (λ (x : ℕ). IsText (map_head x own_n own_unit) bodies place text) same.0
    (subst (λ (x : ℕ). IsText (map_head k x own_unit) bodies place text) same.1.0
    (subst (λ (x : ℕ). IsText (map_head k n x) bodies place text) same.1.1 is_text))))

-- so the format that it says is the one that is written
front_format : (t : List ℕ) → get_or (take 24 t) 8 0 ≡ get_or t 8 0
front_format [] = refl
front_format (a ∷ []) = refl
front_format (a ∷ (b ∷ [])) = refl
front_format (a ∷ (b ∷ (c ∷ []))) = refl
front_format (a ∷ (b ∷ (c ∷ (d ∷ [])))) = refl
front_format (a ∷ (b ∷ (c ∷ (d ∷ (e ∷ []))))) = refl
front_format (a ∷ (b ∷ (c ∷ (d ∷ (e ∷ (f ∷ [])))))) = refl
front_format (a ∷ (b ∷ (c ∷ (d ∷ (e ∷ (f ∷ (g ∷ []))))))) = refl
front_format (a ∷ (b ∷ (c ∷ (d ∷ (e ∷ (f ∷ (g ∷ (h ∷ [])))))))) = refl
front_format (a ∷ (b ∷ (c ∷ (d ∷ (e ∷ (f ∷ (g ∷ (h ∷ (i ∷ t))))))))) = refl

module _ (k n unit : ℕ) (bodies : List (List ℕ)) (place : ℕ) (text : List ℕ) (is : IsText (map_head k n unit) bodies place text) where
  text_format : format_in text ≡ map_format
  text_format = sym (front_format text) ∙ ap (λ (t : List ℕ). get_or t 8 0) (text_front k n unit bodies place text is)

  pub text_gives : (m : PoolImage) → IsMapOf k unit map_format bodies m → IsMapOf k unit (format_in text) bodies m
  text_gives m gives = subst (λ (f : ℕ). IsMapOf k unit f bodies m) (sym text_format) gives

  pub gives_own : (m : PoolImage) → IsMapOf k unit (format_in text) bodies m → IsMapOf k unit map_format bodies m
  gives_own m gives = subst (λ (f : ℕ). IsMapOf k unit f bodies m) text_format gives
