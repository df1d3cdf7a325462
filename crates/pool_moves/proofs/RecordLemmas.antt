-- One record more on one slot is one move, or none.
use Rattle.std.proofs.Common.{◌≡◌, ◌≢◌, ◌<◌, ◌*◌, ◌⊎◌, ⊎_elim, ◌++◌, [], ℕ, List, Option, Some, None, refl, sym, ap, subst, ◌∙◌}
use Rattle.std.proofs.lemmas.List.{append-nil}
use Rattle.ec_model.specs.Codes.{HasPosition}
use Rattle.ec_model.specs.Versions.{Version}
use Rattle.rig_disk.specs.Disk.{Image}
use Rattle.shard_model.specs.Objects.{Geometry}
use Rattle.shard_model.specs.Replays.{Replay, replay_of, replay_from, fresh_replay, state_of, head}
use Rattle.shard_model.specs.Shards.{Shard}
use Rattle.shard_model.specs.Steps.{Step}
use Rattle.shard_model.proofs.PastLemmas.{goes_on}
use Rattle.slot_journal.specs.InUse.{text_in_use}
use Rattle.slot_journal.specs.Journal.{gate_of}
use Rattle.shard_store.specs.Laws.{TextsHaveOneStory}
use Rattle.slot_journal.specs.Text.{IsText}
use Rattle.shard_store.specs.Stories.{HasShard, fresh_shard, shard_after, shard_head, AreFitting}
use Rattle.shard_store.specs.Stored.{IsStored, told_in, head_in, slot_in}
use Rattle.shard_store.specs.declared.store.Store.{Store}
use Rattle.shard_store.proofs.StoryLemmas.{fitting_front}
use Rattle.shard_store.proofs.LawLemmas.{shard_is_replay}
use Rattle.pool_moves.specs.Contents.{Layout, Contents, HasReplay, SlotHasShard, HasContents, with_shard}
use Rattle.pool_moves.specs.Moves.{Stays, Starts}
use Rattle.pool_moves.specs.Instants.{Moved}
use Rattle.pool_history.specs.Images.{IsLastAlive}
use Rattle.pool_slots.specs.Slots.{AddsRecord, start_steps}
use Rattle.pool_moves.specs.Ready.{IsOwn}
use Rattle.pool_moves.proofs.ContentLemmas.{below_16, same_shard, one_slot, same_slot}
use Rattle.pool_moves.proofs.InstantLemmas.{one_link}

some_same : {X : Type 0} (a b : X) → ◌≡◌ {A = Option X} (Some a) (Some b) → a ≡ b
some_same a b e = cc

-- each image of now has the flushed steps of a store
pub has_flushed : (reads : ℕ → ℕ → Option (List ℕ)) (images : Image → List ℕ → Type 0) (store : Store) (text : List ℕ) (flushed : List Step) (image : Image) (said : List ℕ)
    → IsStored reads images store text flushed [] → images image said → HasShard (told_in store).geometry (head_in store) (text_in_use (slot_in store) (image (slot_in store))) flushed
has_flushed reads images store text flushed image said stored now = record {
  bodies = stored.bodies;
  place = gate_of store.journal;
  is_text = subst (λ t. IsText (head_in store) stored.bodies (gate_of store.journal) t) (sym (stored.holds.durable image said now)) stored.holds.is_text;
  spelled = stored.spelled;
  fitting = fitting_front (fresh_shard (told_in store).geometry) flushed [] stored.told.fitting;
}

-- what the steps of a text come to
pub has_replay : (g : Geometry) (head text : List ℕ) (steps : List Step) → 0 < g.k * g.unit → HasShard g head text steps
    → (r : Replay) × HasReplay g head text r × (replay_of g steps ≡ Some r) × (shard_after (fresh_shard g) steps ≡ record { geometry = g; state = state_of g r })
has_replay g head text steps positive has =
    let one = shard_is_replay g positive steps has.fitting in
    (one.0, record { steps = steps; has = has; led = one.1 }, one.1, one.2)

-- a slot's store, of which an image has the steps or also those by which it starts the newest epoch
module _ (l : Layout) (positive : 0 < l.geometry.k * l.geometry.unit) (few : l.n < 17) (law : TextsHaveOneStory)
    (reads : ℕ → ℕ → Option (List ℕ)) (images : Image → List ℕ → Type 0) (p : ℕ) (store : Store) (own : IsOwn l p store) (text : List ℕ) (flushed : List Step)
    (stored : IsStored reads images store text flushed []) where
  abbrev Here : List ℕ → List Step → Type 0
  Here later steps = HasShard l.geometry (shard_head p l.geometry l.n) later steps

  -- its head is that of the pool's slot
  own_head : head_in store ≡ shard_head p l.geometry l.n
  own_head = ap (λ s. shard_head s (told_in store).geometry store.n) own.slot_is ∙ ap (λ g. shard_head p g store.n) own.geometry_is ∙ ap (λ n. shard_head p l.geometry n) own.n_is

  to_own : (later : List ℕ) (steps : List Step) → HasShard (told_in store).geometry (head_in store) later steps → Here later steps
  to_own later steps has = subst (λ h. HasShard l.geometry h later steps) own_head (subst (λ g. HasShard g (head_in store) later steps) own.geometry_is has)

  not_map : p ≢ 16
  not_map is = below_16 p l.n is own.below few

  pub had : (source : Image) (said : List ℕ) → images source said → Here (text_in_use p (source p)) flushed
  had source said was = subst (λ s. Here (text_in_use s (source s)) flushed) own.slot_is
      (to_own (text_in_use (slot_in store) (source (slot_in store))) flushed (has_flushed reads images store text flushed source said stored was))

  -- the shard that the flushed steps come to has the head, the epoch and the mark of the store's state
  pub told_replay : (r : Replay) → replay_of l.geometry flushed ≡ Some r → (told_in store).shard ≡ record { geometry = l.geometry; state = state_of l.geometry r }
  told_replay r led =
      let fitting : AreFitting (fresh_shard l.geometry) flushed = subst (λ g. AreFitting (fresh_shard g) flushed) own.geometry_is (fitting_front (fresh_shard (told_in store).geometry) flushed [] stored.told.fitting) in
      let one = shard_is_replay l.geometry positive flushed fitting in
      let same : one.0 ≡ r = some_same one.0 r (sym one.1 ∙ led) in
      stored.told.shard ∙ ap (λ (s : List Step). shard_after (fresh_shard (told_in store).geometry) s) (append-nil flushed)
      ∙ ap (λ g. shard_after (fresh_shard g) flushed) own.geometry_is ∙ one.2 ∙ ap (λ (x : Replay). record { geometry = l.geometry; state = state_of l.geometry x }) same

  -- the slot's shard in an image is what the flushed steps come to
  shard_at : (c : Contents) (source : Image) → Here (text_in_use p (source p)) flushed → (shard : Option Replay) → c.shards p ≡ shard
      → SlotHasShard l source p (c.shards p) → (r : Replay) × (c.shards p ≡ Some r) × (replay_of l.geometry flushed ≡ Some r)
  shard_at c source before None none is = absurd ((subst (λ (x : Option Replay). SlotHasShard l source p x) none is) flushed before)
  shard_at c source before (Some r) there is =
      let has_r : HasReplay l.geometry (shard_head p l.geometry l.n) (text_in_use p (source p)) r = subst (λ (x : Option Replay). SlotHasShard l source p x) there is in
      (r, there, ap (replay_of l.geometry) (law l.geometry l.geometry (text_in_use p (source p)) (shard_head p l.geometry l.n) (shard_head p l.geometry l.n) flushed has_r.steps before has_r.has) ∙ has_r.led)

  -- so it says of itself what the store's state says
  pub contents_at : (source : Image) (said : List ℕ) (c : Contents) → images source said → HasContents l source c
      → (r : Replay) × (c.shards p ≡ Some r) × ((told_in store).shard ≡ record { geometry = l.geometry; state = state_of l.geometry r })
  contents_at source said c was has =
      let r = shard_at c source (had source said was) (c.shards p) refl (has.shards p own.below) in
      (r.0, r.1, told_replay r.0 r.2)

  module _ (epoch joined : ℕ) (base : Version) (older : (told_in store).shard.state.les < epoch) (member : HasPosition joined p) where
    abbrev more : List Step
    more = start_steps epoch base (told_in store).shard.state.head

    -- if an image has these steps too, the slot has made a move
    started : (source image : Image) (c : Contents) → HasContents l source c → IsLastAlive c.map.state.intervals epoch joined base → ((s : ℕ) → s ≢ p → (a : ℕ) → image s a ≡ source s a)
        → Here (text_in_use p (source p)) flushed → Here (text_in_use p (image p)) (flushed ++ more) → Moved (Starts l epoch joined base) l c image
    started source image c has newest same before after =
        let was = shard_at c source before (c.shards p) refl (has.shards p own.below) in
        let told = told_replay was.0 was.2 in
        let then = has_replay l.geometry (shard_head p l.geometry l.n) (text_in_use p (image p)) (flushed ++ more) positive after in
        let heads : (told_in store).shard.state.head ≡ head was.0 = ap (λ (s : Shard). s.state.head) told in
        let les : (told_in store).shard.state.les ≡ was.0.les = ap (λ (s : Shard). s.state.les) told in
        let led : replay_from l.geometry was.0 (start_steps epoch base (head was.0)) ≡ Some then.0 =
        ap (λ h. replay_from l.geometry was.0 (start_steps epoch base h)) (sym heads) ∙ sym (goes_on l.geometry flushed more fresh_replay was.0 was.2) ∙ then.2 in
        record {
          after = with_shard c p (Some then.0);
          has = one_slot l source image c has p (Some then.0) not_map same then.1;
          chain = one_link (Starts l epoch joined base) c (with_shard c p (Some then.0)) (record {
            p = p;
            newest = newest;
            member = member;
            was = was.0;
            there = was.1;
            older = subst (λ x. x < epoch) les older;
            now = then.0;
            led = led;
            is = refl;
          });
        }

    -- a record more on the slot is a move or none
    pub record_moves : (source image : Image) (said : List ℕ) (c : Contents) → images source said → HasContents l source c → IsLastAlive c.map.state.intervals epoch joined base
        → ((s : ℕ) → s ≢ p → (a : ℕ) → image s a ≡ source s a) → AddsRecord reads images store more (source p) (image p) → Moved (Starts l epoch joined base) l c image
    record_moves source image said c was has newest same adds =
        let before = had source said was in
        ⊎_elim
        (λ (stays : HasShard (told_in store).geometry (head_in store) (text_in_use p (image p)) flushed). record {
          after = c;
          has = same_slot l source image c has p not_map same
              (same_shard law l.geometry (shard_head p l.geometry l.n) (text_in_use p (source p)) (text_in_use p (image p)) flushed (c.shards p) before (to_own (text_in_use p (image p)) flushed stays) (has.shards p own.below));
          chain = Stays;
        })
        (λ (goes : HasShard (told_in store).geometry (head_in store) (text_in_use p (image p)) (flushed ++ more)). started source image c has newest same before (to_own (text_in_use p (image p)) (flushed ++ more) goes))
        (subst (λ s. HasShard (told_in store).geometry (head_in store) (text_in_use s (image p)) flushed ⊎ HasShard (told_in store).geometry (head_in store) (text_in_use s (image p)) (flushed ++ more)) own.slot_is
        (adds.shards text flushed stored))
