-- What crates above cite: how a promise about every instant goes on.
use Rattle.std.proofs.Common.{ℕ, ◌≤◌, ◌<◌, inl, inr, List, ◌++◌, ap, ◌∙◌, append_assoc}
use Rattle.std.proofs.Common.{arith}
use Rattle.std.proofs.lemmas.Bool.{cases_lt}
use Rattle.pool_history.specs.Images.{StoredPool}
use Rattle.rig_disk.specs.Disk.{Image}
use Rattle.rig_disk.specs.During.{During}
use Rattle.run_model.specs.Headline.{HasDone}
use Rattle.run_model.specs.Instants.{Throughout, IsOfImages}
use Rattle.run_model.specs.Items.{Item, Run}

-- what holds of some items goes on if more are added
pub more_items : {I : Type 0} (reads : I → StoredPool → Type 0) (run : Run) (items more : List Item) (here : I → List ℕ → Type 0)
    → HasDone reads run items here → HasDone reads run (items ++ more) here
more_items reads run items more here has = record {
  done = has.done;
  rest = has.rest ++ more;
  first = ap (λ xs. xs ++ more) has.first ∙ append_assoc has.done has.rest more;
  each = has.each;
}

-- it depends on the images alone
pub of_images : {I : Type 0} (reads : I → StoredPool → Type 0) (run : Run) (items : List Item) → IsOfImages (HasDone reads run items)
of_images reads run items here there fewer has = record {
  done = has.done;
  rest = has.rest;
  first = has.first;
  each = λ image text is. has.each image text (fewer image text is);
}

-- a promise about every instant may be weakened
pub weaker : {R I : Type 0} (clock : R → ℕ) (images : R → ℕ → I → List ℕ → Type 0) (old new : R) (P Q : (I → List ℕ → Type 0) → Type 0)
    → ((here : I → List ℕ → Type 0) → P here → Q here) → Throughout clock images old new P → Throughout clock images old new Q
weaker clock images old new P Q leads through = record {
  later = through.later;
  kept = through.kept;
  stays = through.stays;
  each = λ t from to. leads (images new t) (through.each t from to);
}

-- what each image has by itself, with one witness for all of them
pub from_during : {R : Type 0} (clock : R → ℕ) (images : R → ℕ → Image → List ℕ → Type 0) (old new : R) (P : Image → List ℕ → Type 0)
    → During clock images old new P
    → Throughout clock images old new (λ here. (image : Image) (text : List ℕ) → here image text → P image text)
from_during clock images old new P during = record {
  later = during.later;
  kept = during.kept;
  stays = during.stays;
  each = λ t from to image text is. during.each t image text from to is;
}

two_steps : (a b c : ℕ) → a ≤ b → b ≤ c → a ≤ c
two_steps a b c one other = omega arith

before : (a b : ℕ) → a < b → a ≤ b
before a b less = omega arith

-- it goes on over the next call
pub goes_on : {R I : Type 0} (clock : R → ℕ) (images : R → ℕ → I → List ℕ → Type 0) (old mid new : R) (Q : (I → List ℕ → Type 0) → Type 0)
    → IsOfImages Q → Throughout clock images old mid Q → Throughout clock images mid new Q → Throughout clock images old new Q
goes_on clock images old mid new Q of one other = record {
  later = two_steps (clock old) (clock mid) (clock new) one.later other.later;
  kept = λ t image text early is. one.kept t image text early (other.kept t image text (two_steps t (clock old) (clock mid) early one.later) is);
  stays = λ t image text early is. other.stays t image text (two_steps t (clock old) (clock mid) early one.later) (one.stays t image text early is);
  each = λ t from to. elim (cases_lt t (clock mid)) [
    | inl early ↦ of (images mid t) (images new t) (λ image text is. other.kept t image text (before t (clock mid) early) is) (one.each t from (before t (clock mid) early))
    | inr late ↦ other.each t late to
  ];
}
