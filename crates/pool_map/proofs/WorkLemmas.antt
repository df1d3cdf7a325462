-- One step more on a map: its text and its moments.
use Rattle.std.proofs.Common.{◌+◌, ◌<◌, ◌^◌, Bool, false, if◌then◌else◌, ◌≡◌, inl, inr, ⊎_elim, ◌++◌, ◌∷◌, [], ℕ, List, Option, Ok, true, length, arith, refl, sym, ap, subst, ◌∙◌}
use Rattle.std.proofs.lemmas.Bool.Decides.{nat_tests}
use Rattle.std.proofs.lemmas.List.{append-nil, length-append}
use Rattle.ec_code.specs.declared.profile.Profile.{Profile as Plain}
use Rattle.ec_code.specs.JsonProfiles.{profile_of_bytes}
use Rattle.plugin_reg.specs.Canonical.{canonical_lines}
use Rattle.ec_words.specs.Readers.{IsWord}
use Rattle.rig_disk.specs.Disk.{Image}
use Rattle.rig_disk.specs.During.{During}
use Rattle.rig_disk.proofs.Moments.{started, weaker}
use Rattle.slot_journal.specs.InUse.{Areas, text_in_use}
use Rattle.slot_journal.specs.Journal.{Holds, InSlot, Commits, Makes, gate_of, slot_of}
use Rattle.slot_journal.specs.Text.{IsText}
use Rattle.slot_journal.specs.Writing.{next_gate}
use Rattle.slot_journal.specs.declared.journal.Journal.{Journal}
use Rattle.map_model.specs.States.{MapState, last_epoch, epoch_limit, fits, state_after}
use Rattle.pool_map.specs.Maps.{PoolImage, Leads, LeadAll, map_slot, map_format, format_in, map_head, IsMapOf}
use Rattle.map_model.proofs.ReplayLemmas.{one_step}
use Rattle.pool_map.proofs.TextLemmas.{text_gives, gives_own}
use Rattle.pool_map.specs.Pool.{HoldsMap, map_after, new_map, MakesMap, Steps}
use Rattle.map_model.specs.Steps.{MapStep, Begin, Mark}
use Rattle.pool_map.specs.Steps.{step_bytes, IsWritable}

pub leads_one : (n : ℕ) (state : MapState) (s : MapStep) (body : List ℕ) → body ≡ step_bytes s → IsWritable s → fits n state s ≡ true → Leads n state body (state_after state s)
leads_one n state s body is writable fit = record {
  steps = s ∷ [];
  writable = (writable, tt);
  bytes = is ∙ sym (append-nil (step_bytes s));
  done = one_step n state s fit;
}

pub lead_more : (n : ℕ) (a b c : MapState) (bodies : List (List ℕ)) (body : List ℕ) → LeadAll n a bodies b → Leads n b body c → LeadAll n a (bodies ++ body ∷ []) c
lead_more n a b c [] body lead leads = (c, (subst (λ (x : MapState). Leads n x body c) (sym lead) leads, refl))
lead_more n a b c (first ∷ bodies) body lead leads = (lead.0, (lead.1.0, lead_more n lead.0 b c bodies body lead.1.1 leads))

module _ (m : PoolImage) (s : MapStep) (body : List ℕ) (is : body ≡ step_bytes s) (writable : IsWritable s) (fit : fits m.n m.state s ≡ true) where
  pub gives_more : (k unit format : ℕ) (bodies : List (List ℕ)) → IsMapOf k unit format bodies m → IsMapOf k unit format (bodies ++ body ∷ []) (map_after m s)
  gives_more k unit format bodies gives = record {
    lines = gives.lines;
    rest = gives.rest;
    more = gives.more ++ body ∷ [];
    counted = gives.counted;
    bytes = ap (λ (bs : List (List ℕ)). bs ++ body ∷ []) gives.bytes;
    canonical = gives.canonical;
    lead = lead_more m.n _ m.state (state_after m.state s) (gives.rest ∷ gives.more) body gives.lead (leads_one m.n m.state s body is writable fit);
  }

  module _ (reads : ℕ → ℕ → Option (List ℕ)) (images : Image → List ℕ → Type 0) (journal : Journal) where
    pub steps_of : (before after : Areas) → Commits reads images journal body before after → Steps reads images journal m s before after
    steps_of before after commits = record {
      others = commits.others;
      maps = λ text held.
          let own = gives_own held.k m.n held.unit held.bodies (gate_of journal) text held.holds.is_text m held.gives in
          ⊎_elim
          (λ was. inl (record {
            k = held.k;
            unit = held.unit;
            word = held.word;
            bodies = held.bodies;
            place = gate_of journal;
            is_text = was;
            gives = text_gives held.k m.n held.unit held.bodies (gate_of journal) (text_in_use map_slot after) was m own;
          }))
          (λ now. inr (record {
            k = held.k;
            unit = held.unit;
            word = held.word;
            bodies = held.bodies ++ body ∷ [];
            place = next_gate (gate_of journal) body;
            is_text = now;
            gives = text_gives held.k m.n held.unit (held.bodies ++ body ∷ []) (next_gate (gate_of journal) body) (text_in_use map_slot after) now (map_after m s)
                (gives_more held.k held.unit map_format held.bodies own);
          }))
          (commits.records (map_head held.k m.n held.unit) held.bodies text held.holds);
    }

    pub held_on : (reads_then : ℕ → ℕ → Option (List ℕ)) (images_then : Image → List ℕ → Type 0) (later : Journal)
        → ((head : List ℕ) (bodies : List (List ℕ)) (text : List ℕ) → Holds reads images journal head bodies text
        → (after : List ℕ) × Holds reads_then images_then later head (bodies ++ body ∷ []) after)
        → (text : List ℕ) → HoldsMap reads images journal m text → (after : List ℕ) × HoldsMap reads_then images_then later (map_after m s) after
    held_on reads_then images_then later done text held =
        let more = done (map_head held.k m.n held.unit) held.bodies text held.holds in (
          more.0,
          record {
            k = held.k;
            unit = held.unit;
            word = held.word;
            bodies = held.bodies ++ body ∷ [];
            holds = more.1;
            gives = text_gives held.k m.n held.unit (held.bodies ++ body ∷ []) (gate_of later) more.0 more.1.is_text (map_after m s)
                (gives_more held.k held.unit map_format held.bodies (gives_own held.k m.n held.unit held.bodies (gate_of journal) text held.holds.is_text m held.gives));
          },
        )

  pub step_moments : {R : Type 0} (clock_of : R → ℕ) (images_of : R → ℕ → Image → List ℕ → Type 0) (reads : ℕ → ℕ → Option (List ℕ)) (journal : Journal) (slot : ℕ) (old new : R)
      → During clock_of images_of old new (InSlot (images_of old (clock_of old)) slot (Commits reads (images_of old (clock_of old)) journal body))
      → During clock_of images_of old new (InSlot (images_of old (clock_of old)) slot (Steps reads (images_of old (clock_of old)) journal m s))
  step_moments {R} clock_of images_of reads journal slot old new run =
      weaker clock_of images_of old new (InSlot (images_of old (clock_of old)) slot (Commits reads (images_of old (clock_of old)) journal body))
      (InSlot (images_of old (clock_of old)) slot (Steps reads (images_of old (clock_of old)) journal m s)) run
      (λ image said from. record {
        source = from.source;
        was = from.was;
        others = from.others;
        stepped = steps_of reads (images_of old (clock_of old)) journal (from.source slot) (image slot) from.stepped;
      })

-- the last of a list tells it apart
pub same_front : {A : Type 0} (xs ys : List A) (x y : A) → xs ++ x ∷ [] ≡ ys ++ y ∷ [] → xs ≡ ys
same_front {A} [] [] x y e = refl
same_front {A} [] (b ∷ ys) x y e = absurd (omega (arith, ap length e, length-append ys (y ∷ [])))
same_front {A} (a ∷ xs) [] x y e = absurd (omega (arith, ap length e, length-append xs (x ∷ [])))
same_front {A} (a ∷ xs) (b ∷ ys) x y e =
    let heads : a ≡ b = cc in
    let tails : xs ++ x ∷ [] ≡ ys ++ y ∷ [] = cc in
    (λ i. heads i ∷ same_front xs ys x y tails i)

pub begin_fits : (n : ℕ) (state : MapState) (up : ℕ) → last_epoch state.intervals + 1 < epoch_limit → up < 2 ^ n
    → fits n state (Begin (last_epoch state.intervals + 1) up) ≡ true
begin_fits n state up below inside = grind (arith, nat_tests)

pub mark_fits : (n : ℕ) (state : MapState) (slot : ℕ) (down : Bool) → slot < n → fits n state (Mark slot (if down then 1 else 0)) ≡ true
mark_fits n state slot true below = grind (arith, nat_tests)
mark_fits n state slot false below = grind (arith, nat_tests)

-- a map that was not touched is the map of before
module _ {R : Type 0} (clock_of : R → ℕ) (images_of : R → ℕ → Image → List ℕ → Type 0) (reads : ℕ → ℕ → Option (List ℕ)) (journal : Journal) (own : slot_of journal ≡ 16)
    (m : PoolImage) (s : MapStep) (rig : R) where
  pub unmoved : During clock_of images_of rig rig (InSlot (images_of rig (clock_of rig)) 16 (Steps reads (images_of rig (clock_of rig)) journal m s))
  unmoved = started clock_of images_of rig (InSlot (images_of rig (clock_of rig)) 16 (Steps reads (images_of rig (clock_of rig)) journal m s))
      (λ image said now. record {
        source = image;
        was = now;
        others = λ t other a. refl;
        stepped = record {
          others = λ a other. refl;
          maps = λ text held. inl (record {
            k = held.k;
            unit = held.unit;
            word = held.word;
            bodies = held.bodies;
            place = gate_of journal;
            is_text = subst (λ (t : List ℕ). IsText (map_head held.k m.n held.unit) held.bodies (gate_of journal) t)
                (sym (subst (λ (t : ℕ). text_in_use t (image t) ≡ text) own (held.holds.durable image said now))) held.holds.is_text;
            gives = subst (λ (t : List ℕ). IsMapOf held.k held.unit (format_in t) held.bodies m)
                (sym (subst (λ (t : ℕ). text_in_use t (image t) ≡ text) own (held.holds.durable image said now))) held.gives;
          });
        };
      })

-- the making of a text with a map's first record is the making of the map
pub make_moments : {R : Type 0} (clock_of : R → ℕ) (images_of : R → ℕ → Image → List ℕ → Type 0) (reads : ℕ → Option (List ℕ)) (old new : R) (p own : Plain) (k n unit : ℕ) (head body : List ℕ)
    → IsWord unit → head ≡ map_head k n unit → profile_of_bytes (canonical_lines p k n) ≡ Ok own → IsMapOf k unit map_format (body ∷ []) (new_map own n)
    → During clock_of images_of old new (InSlot (images_of old (clock_of old)) 16 (Makes 16 reads head body))
    → During clock_of images_of old new (InSlot (images_of old (clock_of old)) 16 (MakesMap reads p k n))
make_moments {R} clock_of images_of reads old new p own k n unit head body word is read gives run =
    weaker clock_of images_of old new (InSlot (images_of old (clock_of old)) 16 (Makes 16 reads head body)) (InSlot (images_of old (clock_of old)) 16 (MakesMap reads p k n)) run
    (λ image said from. record {
      source = from.source;
      was = from.was;
      others = from.others;
      stepped = record {
        texts = λ text told.
            ⊎_elim (λ same. inl same) (λ more. inr (⊎_elim (λ none. inl none) (λ text_is. inr (
              new_map own n,
              (
                record { own = own; read = read; is = refl },
                record {
                  k = k;
                  unit = unit;
                  word = word;
                  bodies = body ∷ [];
                  place = next_gate 24 body;
                  is_text = subst (λ (h : List ℕ). IsText h (body ∷ []) (next_gate 24 body) (text_in_use 16 (image 16))) is text_is;
                  gives = text_gives k n unit (body ∷ []) (next_gate 24 body) (text_in_use 16 (image 16))
                      (subst (λ (h : List ℕ). IsText h (body ∷ []) (next_gate 24 body) (text_in_use 16 (image 16))) is text_is) (new_map own n) gives;
                },
              ),
            )) more)) (from.stepped.texts text told);
      };
    })
