-- What writes behind a place leave of the bytes before it.
use Rattle.std.proofs.Common.{◌≤◌, ℕ, List, take, sym, ◌∙◌, ap, arith}
use Rattle.std.proofs.lemmas.List.{take-take}
use Rattle.rig_disk.specs.Disk.{Image, Torn, From}
use Rattle.rig_disk.specs.During.{During}
use Rattle.rig_disk.proofs.Moments.{weaker, steps_on}
use Rattle.slot_journal.specs.Writing.{KeepsFront}

pub torn_keeps : (at place n : ℕ) (old new : List ℕ) → at ≤ place → Torn place n old new → KeepsFront at old new
torn_keeps at place n old new le torn = record {
  before = sym (take-take at place new le) ∙ ap (λ (l : List ℕ). take at l) torn.before ∙ take-take at place old le;
  no_shorter = torn.no_shorter;
}

pub keeps_torn : (at place n : ℕ) (old mid new : List ℕ) → at ≤ place → KeepsFront at old mid → Torn place n mid new → KeepsFront at old new
keeps_torn at place n old mid new le keeps torn = record {
  before = (torn_keeps at place n mid new le torn).before ∙ keeps.before;
  no_shorter = omega (arith, keeps.no_shorter, torn.no_shorter);
}

-- fewer of the first bytes stay too
pub keeps_less : (at more : ℕ) (old new : List ℕ) → at ≤ more → KeepsFront more old new → KeepsFront at old new
keeps_less at more old new le keeps = record {
  before = sym (take-take at more new le) ∙ ap (λ (l : List ℕ). take at l) keeps.before ∙ take-take at more old le;
  no_shorter = keeps.no_shorter;
}

pub keeps_twice : (at : ℕ) (old mid new : List ℕ) → KeepsFront at old mid → KeepsFront at mid new → KeepsFront at old new
keeps_twice at old mid new keeps again = record {
  before = again.before ∙ keeps.before;
  no_shorter = omega (arith, keeps.no_shorter, again.no_shorter);
}

module _ {R : Type 0} (clock : R → ℕ) (images : R → ℕ → Image → List ℕ → Type 0) (slot area at : ℕ) where
  pub begun : (old new : R) (place n : ℕ) → at ≤ place → During clock images old new (From (images old (clock old)) slot area (Torn place n))
      → During clock images old new (From (images old (clock old)) slot area (KeepsFront at))
  begun old new place n le run = weaker clock images old new (From (images old (clock old)) slot area (Torn place n)) (From (images old (clock old)) slot area (KeepsFront at)) run
      (λ image text from. record { source = from.source; was = from.was; others = from.others; stepped = torn_keeps at place n _ _ le from.stepped })

  pub more : (old mid new : R) (place n : ℕ) → at ≤ place → During clock images old mid (From (images old (clock old)) slot area (KeepsFront at))
      → During clock images mid new (From (images mid (clock mid)) slot area (Torn place n))
      → During clock images old new (From (images old (clock old)) slot area (KeepsFront at))
  more old mid new place n le first second = steps_on clock images old mid new slot area (KeepsFront at) (Torn place n) (KeepsFront at) first second (λ a b keeps. keeps) (λ a b c keeps torn. keeps_torn at place n a b c le keeps torn)
