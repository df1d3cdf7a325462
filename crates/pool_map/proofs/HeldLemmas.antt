-- A map that was held stays so while other slots are worked on.
use Rattle.std.proofs.Common.{◌≡◌, ℕ, List, Option, refl, sym, ap, subst, ◌∙◌}
use Rattle.rig_disk.specs.Disk.{Image, on_told}
use Rattle.rig_disk.proofs.Moments.{at_end}
use Rattle.slot_journal.specs.InUse.{open_text, first_told}
use Rattle.slot_journal.specs.Journal.{slot_of, Holds, InSlot, IsSettledWhereTold}
use Rattle.slot_journal.specs.declared.journal.Journal.{Journal}
use Rattle.pool_map.specs.Laws.{HasSlotOf, AnyStep, MapsStayHeld, MapsStayElsewhere, MapsStayOver}
use Rattle.pool_map.specs.Maps.{map_head}
use Rattle.pool_map.specs.Pool.{journal_of, map_of}

-- what a journal over a slot holds stays so if the slot does
module _ (reads later_reads : ℕ → ℕ → Option (List ℕ)) (images later : Image → List ℕ → Type 0) (journal : Journal)
    (same : (a : ℕ) → later_reads (slot_of journal) a ≡ reads (slot_of journal) a)
    (from : (image : Image) (said : List ℕ) → later image said → HasSlotOf images (slot_of journal) image) where
  pub still_holds : (head : List ℕ) (bodies : List (List ℕ)) (text : List ℕ) → Holds reads images journal head bodies text → Holds later_reads later journal head bodies text
  still_holds head bodies text holds = record {
    told = ap (on_told open_text) (same 0) ∙ holds.told;
    told_in = ap first_told (same 0) ∙ holds.told_in;
    is_text = holds.is_text;
    durable_in = λ image said now.
        let f = from image said now in
        holds.durable_in f.source f.said f.was;
    durable = λ image said now.
        let f = from image said now in
        ap open_text (f.same 0) ∙ holds.durable f.source f.said f.was;
  }

  pub still_settled : IsSettledWhereTold reads images journal → IsSettledWhereTold later_reads later journal
  still_settled settled text told =
      let s = settled text (ap (on_told open_text) (sym (same 0)) ∙ told) in
      record { head = s.head; bodies = s.bodies; holds = still_holds s.head s.bodies text s.holds }

module _ {R : Type 0} (reads_of : R → ℕ → ℕ → Option (List ℕ)) (clock_of : R → ℕ) (images_of : R → ℕ → Image → List ℕ → Type 0) where
  pub stay_held : MapsStayHeld reads_of clock_of images_of
  stay_held old new same from map =
      let journal = journal_of map in
      let there : (a : ℕ) → reads_of new (slot_of journal) a ≡ reads_of old (slot_of journal) a = λ a. subst (λ (s : ℕ). reads_of new s a ≡ reads_of old s a) (sym map.own_slot) (same a) in
      let images : (image : Image) (said : List ℕ) → images_of new (clock_of new) image said → HasSlotOf (images_of old (clock_of old)) (slot_of journal) image =
      λ image said now. subst (λ (s : ℕ). HasSlotOf (images_of old (clock_of old)) s image) (sym map.own_slot) (from image said now) in (
        λ text held. record {
          k = held.k;
          unit = held.unit;
          word = held.word;
          bodies = held.bodies;
          holds = still_holds (reads_of old) (reads_of new) (images_of old (clock_of old)) (images_of new (clock_of new)) journal there images (map_head held.k (map_of map).n held.unit) held.bodies text held.holds;
          gives = held.gives;
        },
        λ settled. still_settled (reads_of old) (reads_of new) (images_of old (clock_of old)) (images_of new (clock_of new)) journal there images settled,
      )

  pub stay_elsewhere : MapsStayElsewhere reads_of clock_of images_of
  stay_elsewhere old new slot other same run =
      stay_held old new same (λ image said now.
      let from = at_end clock_of images_of old new (InSlot (images_of old (clock_of old)) slot AnyStep) run image said now in
      record { source = from.source; said = said; was = from.was; same = λ a. from.others 16 other a })

  pub stay_over : MapsStayOver reads_of clock_of images_of
  stay_over old new same run =
      stay_held old new same (λ image said now.
      record { source = image; said = said; was = at_end clock_of images_of old new (λ i x. images_of old (clock_of old) i x) run image said now; same = λ a. refl })
