-- Answers of a preparation.
use Rattle.std.proofs.Common.{◌≡◌, ℕ, ◌↔◌, ◌⊎◌, inl, inr, Bool, true, false, sym, ap, ◌∙◌, Option, Some, None, Result, Ok, Err}
use Rattle.std.proofs.lemmas.Bool.{false≢true}
use Rattle.shard_store.specs.Stored.{told_in}
use Rattle.shard_store.specs.declared.store.Store.{Store}
use Rattle.ec_pipeline.specs.Preparing.{IsReady}
use Rattle.ec_pipeline.specs.Refusals.{refusal_in, refusal_if}
use Rattle.std.specs.Prelude.{IsSomeAnd}
use Rattle.ec_pipeline.specs.declared.fault.PrepareFault.TheVariants.{Worn, Slot, NoMemory}
use Rattle.ec_pipeline.specs.declared.fault.PrepareFault.{PrepareFault}

abbrev says_worn : PrepareFault → Bool
says_worn Worn = true
says_worn other = false

abbrev fault_or : {T : Type 0} → PrepareFault → Result T PrepareFault → PrepareFault
fault_or why (Ok done) = why
fault_or why (Err other) = other

abbrev fails : {T : Type 0} → Result T PrepareFault → Bool
fails (Ok done) = false
fails (Err other) = true

abbrev pub failed : (T : Type 0) → PrepareFault → Result T PrepareFault
failed T why = Err why

abbrev pub went_well : (T : Type 0) → T → Result T PrepareFault
went_well T done = Ok done

abbrev pub IsPlain : PrepareFault → Type 0
IsPlain fault = (fault ≡ NoMemory) ⊎ ((s : ℕ) × (fault ≡ Slot s))

-- neither is a refusal, nor worn
pub plain_refuses_none : (why : PrepareFault) → IsPlain why → refusal_if (refusal_in why) ≡ None
plain_refuses_none why (inl is) = ap (λ w. refusal_if (refusal_in w)) is
plain_refuses_none why (inr (s, is)) = ap (λ w. refusal_if (refusal_in w)) is

plain_not_worn : (why : PrepareFault) → IsPlain why → says_worn why ≡ false
plain_not_worn why (inl is) = ap says_worn is
plain_not_worn why (inr (s, is)) = ap says_worn is

pub worn_over : (T U : Type 0) (why : PrepareFault) (W : Type 0) → ((failed T why ≡ failed T Worn) ↔ W) → ((failed U why ≡ failed U Worn) ↔ W)
worn_over T U why W both = (λ e. both.0 (ap (failed T) (ap (fault_or Worn) e)), λ w. ap (failed U) (ap (fault_or Worn) (both.1 w)))

pub ok_not_worn : (T : Type 0) (done : T) (W : Type 0) → ((went_well T done ≡ failed T Worn) ↔ W) → W → ⊥
ok_not_worn T done W both w = false≢true (ap fails (both.1 w))

pub plain_worn : (T : Type 0) (why : PrepareFault) (W : Type 0) → IsPlain why → (W → ⊥) → ((failed T why ≡ failed T Worn) ↔ W)
plain_worn T why W plain never = (λ e. absurd (false≢true (sym (plain_not_worn why plain) ∙ ap says_worn (ap (fault_or NoMemory) e))), λ w. absurd (never w))

pub ok_worn : (T : Type 0) (done : T) (W : Type 0) → (W → ⊥) → ((went_well T done ≡ failed T Worn) ↔ W)
ok_worn T done W never = (λ e. absurd (false≢true (ap fails e)), λ w. absurd (never w))

pub same_stripes_of : (k queued : ℕ) (o : Option Store) → IsSomeAnd o (IsReady k queued) → IsSomeAnd o (λ store. (told_in store).shard.geometry.k ≡ k)
same_stripes_of k queued None ready = ready
same_stripes_of k queued (Some store) ready = ready.k_is
