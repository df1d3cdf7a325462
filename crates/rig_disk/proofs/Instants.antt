-- How what all images of an instant have together goes on over a run of calls: what layers above cite.
use Rattle.std.proofs.Common.{◌≤◌, ◌⊎◌, inl, inr, ⊎_elim, ◌≡◌, ℕ, List, arith, subst}
use Rattle.std.proofs.lemmas.Bool.{cases_lt}
use Rattle.rig_disk.specs.Disk.{Image}
use Rattle.rig_disk.specs.During.{During}
use Rattle.rig_disk.specs.Throughout.{Throughout, Each, IsOfImages}

module _ {R I : Type 0} (clock : R → ℕ) (images : R → ℕ → I → List ℕ → Type 0) where
  -- before the first call
  pub started : (rig : R) (Q : (I → List ℕ → Type 0) → Type 0) → Q (images rig (clock rig)) → Throughout clock images rig rig Q
  started rig Q here = record {
    later = omega arith;
    kept = λ t image text le now. now;
    stays = λ t image text le now. now;
    together = λ t from to. subst (λ u. Q (images rig u)) (same t from to) here;
  }
    where
      same : (t : ℕ) → clock rig ≤ t → t ≤ clock rig → clock rig ≡ t
      same t from to = omega arith

  -- a weaker promise
  pub weaker : (old new : R) (P Q : (I → List ℕ → Type 0) → Type 0) → Throughout clock images old new P → ((here : I → List ℕ → Type 0) → P here → Q here) → Throughout clock images old new Q
  weaker old new P Q run leads = record {
    later = run.later;
    kept = run.kept;
    stays = run.stays;
    together = λ t from to. leads (images new t) (run.together t from to);
  }

  -- what the images of now have
  pub at_end : (old new : R) (Q : (I → List ℕ → Type 0) → Type 0) → Throughout clock images old new Q → Q (images new (clock new))
  at_end old new Q run = run.together (clock new) run.later (omega arith)

  -- one call more, which has the same promise
  pub goes_on : (old mid new : R) (Q : (I → List ℕ → Type 0) → Type 0) → IsOfImages Q → Throughout clock images old mid Q → Throughout clock images mid new Q → Throughout clock images old new Q
  goes_on old mid new Q of first second = record {
    later = omega (arith, first.later, second.later);
    kept = λ t image text le now. first.kept t image text le (second.kept t image text (omega (arith, le, first.later)) now);
    stays = λ t image text le then. second.stays t image text (omega (arith, le, first.later)) (first.stays t image text le then);
    together = λ t from to. ⊎_elim
        (λ (early : t ≤ clock mid). of (images mid t) (images new t) (λ image text now. second.kept t image text early now) (first.together t from early))
        (λ (late : clock mid ≤ t). second.together t late to)
        (either t);
  }
    where
      either : (t : ℕ) → (t ≤ clock mid) ⊎ (clock mid ≤ t)
      either t = ⊎_elim (λ before. inl (omega (arith, before))) (λ after. inr after) (cases_lt t (clock mid))

-- what each image has by itself depends on which images there are alone
pub each_of_images : {I : Type 0} (P : I → List ℕ → Type 0) → IsOfImages (Each P)
each_of_images P here there fewer has image text is = has image text (fewer image text is)

module _ {R : Type 0} (clock : R → ℕ) (images : R → ℕ → Image → List ℕ → Type 0) (old new : R) (P : Image → List ℕ → Type 0) where
  -- what each image has by itself is a promise of this kind
  pub from_during : During clock images old new P → Throughout clock images old new (Each P)
  from_during run = record {
    later = run.later;
    kept = run.kept;
    stays = run.stays;
    together = λ t from to image text now. run.each t image text from to now;
  }

  -- and the other way
  pub to_during : Throughout clock images old new (Each P) → During clock images old new P
  to_during run = record {
    later = run.later;
    kept = run.kept;
    stays = run.stays;
    each = λ t image text from to now. run.together t from to image text now;
  }
