-- The text in use of a slot, and the area that it stands in.
use Rattle.std.proofs.Common.{◌≡◌, ◌≢◌, ◌⊎◌, ◌<◌, inl, inr, ⊎_elim, ℕ, List, [], ◌∷◌, ◌++◌, Option, Some, length, get_or, refl, sym, ◌∙◌, ap, subst, arith, append_assoc}
use Rattle.std.proofs.lemmas.List.{get_or_append_left}
use Rattle.std.proofs.lemmas.Bool.{cases_eq}
use Rattle.rig_disk.specs.Disk.{Image, From, on_told}
use Rattle.rig_disk.proofs.Areas.{was_told}
use Rattle.slot_journal.specs.Header.{open_gate}
use Rattle.slot_journal.specs.InUse.{open_text, text_in_use, first_told, told_text}
use Rattle.slot_journal.specs.Text.{records, IsText}
use Rattle.slot_journal.specs.Writing.{IsAtRest, ReadsAsText, IsBeforeOrAfter, next_gate, IsShut, IsVoid, IsSameOrVoid, IsVoidOrFirst, ReadsBytes}
use Rattle.slot_journal.specs.Journal.{slot_of, area_of, gate_of, Holds, IsSettled, InSlot, Commits, Makes}
use Rattle.slot_journal.specs.declared.journal.Journal.{Journal}
use Rattle.slot_journal.proofs.HeaderLemmas.{open_is_text, shut_is_none, gate_is_open}

pub text_opens : (head : List ℕ) (bodies : List (List ℕ)) (place : ℕ) (text : List ℕ) → IsText head bodies place text → get_or text 0 0 ≡ open_gate
text_opens head bodies place text is =
    let long = is.is_header.long in
    let tail : List ℕ = records bodies ++ is.gate ∷ is.rest in
    ap (λ (l : List ℕ). get_or l 0 0) (is.bytes ∙ append_assoc is.header (records bodies) (is.gate ∷ is.rest))
    ∙ get_or_append_left is.header tail 0 0 (omega (arith, long)) ∙ gate_is_open head is.header (is.is_header.fits 0 (omega arith))

-- an area whose text is in the grammar is that text
pub area_is : (head : List ℕ) (bodies : List (List ℕ)) (place : ℕ) (there text : List ℕ) → open_text there ≡ text → IsText head bodies place text → there ≡ text
area_is head bodies place there text same is = ⊎_elim
    (λ (opens : get_or there 0 0 ≡ open_gate). sym (open_is_text there opens) ∙ same)
    (λ (shut : get_or there 0 0 ≢ open_gate). absurd (none (sym (text_opens head bodies place text is) ∙ ap (λ (l : List ℕ). get_or l 0 0) (sym same ∙ shut_is_none there shut))))
    (cases_eq (get_or there 0 0) open_gate)
  where
    none : open_gate ≡ 0 → ⊥
    none clash = omega (arith, clash)

pub text_is_own : (head : List ℕ) (bodies : List (List ℕ)) (place : ℕ) (text : List ℕ) → IsText head bodies place text → open_text text ≡ text
text_is_own head bodies place text is = open_is_text text (text_opens head bodies place text is)

module _ (reads : ℕ → ℕ → Option (List ℕ)) (images : Image → List ℕ → Type 0) (journal : Journal) where
  -- what a journal holds, in its area
  pub record InArea (text : List ℕ) : Type 0 where
    pub told : reads (slot_of journal) (area_of journal) ≡ Some text
    pub durable : (image : Image) (said : List ℕ) → images image said → image (slot_of journal) (area_of journal) ≡ text

  pub holds_area : (head : List ℕ) (bodies : List (List ℕ)) (text : List ℕ) → Holds reads images journal head bodies text → InArea text
  holds_area head bodies text holds =
      let was = was_told (reads (slot_of journal) 0) open_text text holds.told in
      let there = area_is head bodies (gate_of journal) was.there text (sym was.changed) holds.is_text in
      record {
        told = ap (λ a. reads (slot_of journal) a) journal.first_area ∙ was.told ∙ ap (λ (l : List ℕ). Some l) there;
        durable = λ image said now. ap (λ a. image (slot_of journal) a) journal.first_area ∙ area_is head bodies (gate_of journal) (image (slot_of journal) 0) text (holds.durable image said now) holds.is_text;
      }

  in_first : (text : List ℕ) → InArea text → reads (slot_of journal) 0 ≡ Some text
  in_first text inside = ap (λ a. reads (slot_of journal) a) (sym journal.first_area) ∙ inside.told

  pub area_holds : (head : List ℕ) (bodies : List (List ℕ)) (text : List ℕ) → InArea text → IsText head bodies (gate_of journal) text → Holds reads images journal head bodies text
  area_holds head bodies text inside is = record {
    told = ap (on_told open_text) (in_first text inside) ∙ ap (λ (l : List ℕ). Some l) (text_is_own head bodies (gate_of journal) text is);
    told_in = ap first_told (in_first text inside) ∙ ap (λ (a : ℕ). Some a) (sym journal.first_area);
    is_text = is;
    durable_in = λ image said now. sym journal.first_area;
    durable = λ image said now. ap open_text (ap (λ a. image (slot_of journal) a) (sym journal.first_area) ∙ inside.durable image said now) ∙ text_is_own head bodies (gate_of journal) text is;
  }

  pub settled_area : ((text : List ℕ) → told_text (slot_of journal) (reads (slot_of journal)) ≡ Some text → IsSettled reads images journal text) → (there : List ℕ) → reads (slot_of journal) (area_of journal) ≡ Some there
      → ((image : Image) (said : List ℕ) → images image said → image (slot_of journal) (area_of journal) ≡ there) × IsAtRest there (gate_of journal)
  settled_area settled there told =
      let first = ap (λ a. reads (slot_of journal) a) (sym journal.first_area) ∙ told in
      let s = settled (open_text there) (ap (on_told open_text) first) in
      let same = area_is s.head s.bodies (gate_of journal) there (open_text there) refl s.holds.is_text in
      let inside = holds_area s.head s.bodies (open_text there) s.holds in (
        (λ image said now. inside.durable image said now ∙ sym same),
        record {
          head = s.head;
          bodies = s.bodies;
          is_text = subst (λ (l : List ℕ). IsText s.head s.bodies (gate_of journal) l) (sym same) s.holds.is_text;
        },
      )

  pub commits : (body : List ℕ) (image : Image) (said : List ℕ)
      → From images (slot_of journal) (area_of journal) (λ _ c. (was : ReadsAsText (reads (slot_of journal) (area_of journal)) (gate_of journal)) → IsBeforeOrAfter was.head was.bodies body (gate_of journal) c) image said
      → InSlot images (slot_of journal) (Commits reads images journal body) image said
  commits body image said from = record {
    source = from.source;
    was = from.was;
    others = λ s other a. from.others s a (inl other);
    stepped = record {
      others = λ a other. from.others (slot_of journal) a (inr other);
      records = λ head bodies text holds.
          let inside = holds_area head bodies text holds in
          either head bodies (from.stepped (record { head = head; bodies = bodies; there = text; told_there = inside.told; is_text = holds.is_text }));
    };
  }
    where
      now : image (slot_of journal) (area_of journal) ≡ image (slot_of journal) 0
      now = ap (λ a. image (slot_of journal) a) journal.first_area

      in_use : (head : List ℕ) (bodies : List (List ℕ)) (place : ℕ) → IsText head bodies place (image (slot_of journal) (area_of journal)) → IsText head bodies place (text_in_use (slot_of journal) (image (slot_of journal)))
      in_use head bodies place is = subst (λ (l : List ℕ). IsText head bodies place l) (sym (text_is_own head bodies place (image (slot_of journal) (area_of journal)) is) ∙ ap open_text now) is

      either : (head : List ℕ) (bodies : List (List ℕ)) → IsBeforeOrAfter head bodies body (gate_of journal) (image (slot_of journal) (area_of journal))
          → IsBeforeOrAfter head bodies body (gate_of journal) (text_in_use (slot_of journal) (image (slot_of journal)))
      either head bodies (inl before) = inl (in_use head bodies (gate_of journal) before)
      either head bodies (inr after) = inr (in_use head (bodies ++ body ∷ []) _ after)

-- an area without a text has in use what is shorter than a header
pub void_is_short : (area : List ℕ) → IsVoid area → length (open_text area) < 24
void_is_short area void = ⊎_elim
    (λ (short : length area < 24). ⊎_elim
    (λ (opens : get_or area 0 0 ≡ open_gate). omega (arith, short, ap length (open_is_text area opens)))
    (λ (shut : get_or area 0 0 ≢ open_gate). omega (arith, ap length (shut_is_none area shut)))
    (cases_eq (get_or area 0 0) open_gate))
    (λ (shut : IsShut area). omega (arith, ap length (shut_is_none area (λ opens. shut.closed (sym (ap (λ (l : List ℕ). get_or l 0 0) shut.bytes) ∙ opens)))))
    void

-- what the writes of a new journal leave in the slot
pub makes : (images : Image → List ℕ → Type 0) (slot : ℕ) (reads : ℕ → Option (List ℕ)) (head body : List ℕ) (image : Image) (said : List ℕ)
    → From images slot 0 (λ b c. ReadsBytes (reads 0) → IsSameOrVoid b c ⊎ IsVoidOrFirst head body c) image said → InSlot images slot (Makes slot reads head body) image said
makes images slot reads head body image said from = record {
  source = from.source;
  was = from.was;
  others = λ s other a. from.others s a (inl other);
  stepped = record {
    texts = λ text told. let was = was_told (reads 0) open_text text told in either (from.stepped (record { there = was.there; told_there = was.told }));
  };
}
  where
    either : IsSameOrVoid (from.source slot 0) (image slot 0) ⊎ IsVoidOrFirst head body (image slot 0)
        → (text_in_use slot (image slot) ≡ text_in_use slot (from.source slot)) ⊎ ((length (text_in_use slot (image slot)) < 24) ⊎ IsText head (body ∷ []) (next_gate 24 body) (text_in_use slot (image slot)))
    either (inl (inl same)) = inl (ap open_text same)
    either (inl (inr void)) = inr (inl (void_is_short (image slot 0) void))
    either (inr (inl void)) = inr (inl (void_is_short (image slot 0) void))
    either (inr (inr is)) = inr (inr (subst (λ (l : List ℕ). IsText head (body ∷ []) (next_gate 24 body) l) (sym (text_is_own head (body ∷ []) (next_gate 24 body) (image slot 0) is)) is))

-- what a slot tells is one text
pub one_told : (told : Option (List ℕ)) (a b : List ℕ) → told ≡ Some a → told ≡ Some b → a ≡ b
one_told told a b first second = cc

pub settled_as : (reads : ℕ → ℕ → Option (List ℕ)) (images : Image → List ℕ → Type 0) (journal : Journal) (head : List ℕ) (bodies : List (List ℕ)) (after text : List ℕ)
    → told_text (slot_of journal) (reads (slot_of journal)) ≡ Some text → Holds reads images journal head bodies after → IsSettled reads images journal text
settled_as reads images journal head bodies after text told holds = record {
  head = head;
  bodies = bodies;
  holds = subst (λ (l : List ℕ). Holds reads images journal head bodies l) (one_told (told_text (slot_of journal) (reads (slot_of journal))) after text holds.told told) holds;
}
