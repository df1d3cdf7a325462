-- Steps on an area whose bytes are known under a premise.
use Rattle.std.proofs.Common.{◌≡◌, ℕ, List, subst, refl}
use Rattle.rig_disk.specs.Disk.{Image, From}
use Rattle.rig_disk.specs.During.{During, Only}
use Rattle.rig_disk.proofs.Moments.{weaker, steps_on}

module _ {R X : Type 0} (clock : R → ℕ) (images : R → ℕ → Image → List ℕ → Type 0) (slot area : ℕ) (bytes : X → List ℕ) where
  abbrev Steps : R → R → (List ℕ → List ℕ → Type 0) → Type 0
  Steps old new step = During clock images old new (From (images old (clock old)) slot area step)

  -- a step from what is known
  pub known_step : (old new : R) (T : List ℕ → List ℕ → Type 0) → ((x : X) → Only clock images old slot area (bytes x)) → Steps old new T → Steps old new (λ b c. ((x : X) → b ≡ bytes x) × T b c)
  known_step old new T only run = weaker clock images old new (From (images old (clock old)) slot area T) (From (images old (clock old)) slot area (λ b c. ((x : X) → b ≡ bytes x) × T b c)) run
      (λ image said from. record { source = from.source; was = from.was; others = from.others; stepped = ((λ x. only x from.source said from.was), from.stepped) })

  pub from_known : (old new : R) (T : List ℕ → List ℕ → Type 0) (Q : X → List ℕ → Type 0) → ((x : X) → Only clock images old slot area (bytes x)) → Steps old new T
      → ((x : X) (c : List ℕ) → T (bytes x) c → Q x c) → Steps old new (λ _ c. (x : X) → Q x c)
  from_known old new T Q only run leads = weaker clock images old new (From (images old (clock old)) slot area T) (From (images old (clock old)) slot area (λ _ c. (x : X) → Q x c)) run
      (λ image said from. record { source = from.source; was = from.was; others = from.others; stepped = λ x. leads x _ (subst (λ b. T b (image slot area)) (only x from.source said from.was) from.stepped) })

  pub then_known : (old mid new : R) (T : List ℕ → List ℕ → Type 0) (Q : X → List ℕ → Type 0) → Steps old mid (λ _ c. (x : X) → Q x c) → ((x : X) → Only clock images mid slot area (bytes x)) → Steps mid new T
      → ((x : X) (c : List ℕ) → T (bytes x) c → Q x c) → Steps old new (λ _ c. (x : X) → Q x c)
  then_known old mid new T Q first only second leads = steps_on clock images old mid new slot area (λ _ c. (x : X) → Q x c) (λ _ c. (x : X) → Q x c) (λ _ c. (x : X) → Q x c) first
      (from_known mid new T Q only second leads) (λ a b q. q) (λ a b c p q. q)

module _ {R : Type 0} (clock : R → ℕ) (images : R → ℕ → Image → List ℕ → Type 0) (slot area : ℕ) where
  -- no image is changed
  pub no_step : (old new : R) (S : List ℕ → List ℕ → Type 0) → ((a : List ℕ) → S a a) → During clock images old new (λ image said. images old (clock old) image said)
      → During clock images old new (From (images old (clock old)) slot area S)
  no_step old new S same run = weaker clock images old new (λ image said. images old (clock old) image said) (From (images old (clock old)) slot area S) run
      (λ image said now. record { source = image; was = now; others = λ s a other. refl; stepped = same (image slot area) })

  -- a weaker step
  pub step_weaker : (old new : R) (S T : List ℕ → List ℕ → Type 0) → ((a b : List ℕ) → S a b → T a b) → During clock images old new (From (images old (clock old)) slot area S)
      → During clock images old new (From (images old (clock old)) slot area T)
  step_weaker old new S T leads run = weaker clock images old new (From (images old (clock old)) slot area S) (From (images old (clock old)) slot area T) run
      (λ image said from. record { source = from.source; was = from.was; others = from.others; stepped = leads (from.source slot area) (image slot area) from.stepped })
