-- How what holds at every instant of a run of calls goes on: what layers above cite.
use Rattle.std.proofs.Common.{◌≡◌, ◌≤◌, ◌⊎◌, inl, inr, ⊎_elim, ℕ, List, ◌++◌, take, arith, subst, sym, refl, ◌∙◌}
use Rattle.std.proofs.lemmas.Bool.{cases_lt}
use Rattle.rig_disk.specs.Disk.{Image, IsOther, From, Saying, Any}
use Rattle.rig_disk.specs.During.{During, Only}

module _ {R : Type 0} (clock : R → ℕ) (images : R → ℕ → Image → List ℕ → Type 0) where
  -- before the first call
  pub started : (rig : R) (P : Image → List ℕ → Type 0) → ((image : Image) (text : List ℕ) → images rig (clock rig) image text → P image text) → During clock images rig rig P
  started rig P here = record {
    later = omega arith;
    kept = λ t image text le now. now;
    stays = λ t image text le now. now;
    each = λ t image text from to now. here image text (subst (λ u. images rig u image text) (same t from to) now);
  }
    where
      same : (t : ℕ) → clock rig ≤ t → t ≤ clock rig → t ≡ clock rig
      same t from to = omega arith

  -- a weaker promise
  pub weaker : (old new : R) (P Q : Image → List ℕ → Type 0) → During clock images old new P → ((image : Image) (text : List ℕ) → P image text → Q image text) → During clock images old new Q
  weaker old new P Q run more = record {
    later = run.later;
    kept = run.kept;
    stays = run.stays;
    each = λ t image text from to now. more image text (run.each t image text from to now);
  }

  -- what an image of now has
  pub at_end : (old new : R) (P : Image → List ℕ → Type 0) → During clock images old new P → (image : Image) (text : List ℕ) → images new (clock new) image text → P image text
  at_end old new P run image text now = run.each (clock new) image text run.later (omega arith) now

  -- one call more, at whose moments each image has what leads to P
  pub goes_on : (old mid new : R) (P Q : Image → List ℕ → Type 0) → During clock images old mid P → During clock images mid new Q
      → ((image : Image) (text : List ℕ) → Q image text → P image text) → During clock images old new P
  goes_on old mid new P Q first second leads = record {
    later = omega (arith, first.later, second.later);
    kept = λ t image text le now. first.kept t image text le (second.kept t image text (omega (arith, le, first.later)) now);
    stays = λ t image text le then. second.stays t image text (omega (arith, le, first.later)) (first.stays t image text le then);
    each = λ t image text from to now. ⊎_elim
        (λ (early : t ≤ clock mid). first.each t image text from early (second.kept t image text early now))
        (λ (late : clock mid ≤ t). leads image text (second.each t image text late to now))
        (either t);
  }
    where
      either : (t : ℕ) → (t ≤ clock mid) ⊎ (clock mid ≤ t)
      either t = ⊎_elim (λ before. inl (omega (arith, before))) (λ after. inr after) (cases_lt t (clock mid))

  -- a call on an area after calls on it alone
  pub steps_on : (old mid new : R) (slot area : ℕ) (S T U : List ℕ → List ℕ → Type 0)
      → During clock images old mid (From (images old (clock old)) slot area S)
      → During clock images mid new (From (images mid (clock mid)) slot area T)
      → ((a b : List ℕ) → S a b → U a b) → ((a b c : List ℕ) → S a b → T b c → U a c)
      → During clock images old new (From (images old (clock old)) slot area U)
  steps_on old mid new slot area S T U first second alone both = goes_on old mid new (From (images old (clock old)) slot area U) (From (images mid (clock mid)) slot area T)
      (weaker old mid (From (images old (clock old)) slot area S) (From (images old (clock old)) slot area U) first (λ image text from. record { source = from.source; was = from.was; others = from.others; stepped = alone _ _ from.stepped }))
      second
      (λ image text then. let from = at_end old mid (From (images old (clock old)) slot area S) first then.source text then.was in record {
        source = from.source;
        was = from.was;
        others = λ s a other. then.others s a other ∙ from.others s a other;
        stepped = both _ _ _ from.stepped then.stepped;
      })

  -- a call that changes no image after calls on an area alone
  pub stays_on : (old mid new : R) (slot area : ℕ) (S : List ℕ → List ℕ → Type 0)
      → During clock images old mid (From (images old (clock old)) slot area S)
      → During clock images mid new (λ image text. images mid (clock mid) image text)
      → During clock images old new (From (images old (clock old)) slot area S)
  stays_on old mid new slot area S first second = goes_on old mid new (From (images old (clock old)) slot area S) (λ image text. images mid (clock mid) image text) first second
      (λ image text now. at_end old mid (From (images old (clock old)) slot area S) first image text now)

  -- a call on an area whose images are known
  pub from_known : (old new : R) (slot area : ℕ) (bytes : List ℕ) (T : List ℕ → List ℕ → Type 0) (Q : List ℕ → Type 0)
      → Only clock images old slot area bytes → During clock images old new (From (images old (clock old)) slot area T)
      → ((c : List ℕ) → T bytes c → Q c) → During clock images old new (From (images old (clock old)) slot area (λ _ c. Q c))
  from_known old new slot area bytes T Q only run leads = weaker old new (From (images old (clock old)) slot area T) (From (images old (clock old)) slot area (λ _ c. Q c)) run
      (λ image text from. record { source = from.source; was = from.was; others = from.others; stepped = leads _ (subst (λ f. T f (image slot area)) (only from.source text from.was) from.stepped) })

  -- the same after calls on that area alone
  pub then_known : (old mid new : R) (slot area : ℕ) (bytes : List ℕ) (T : List ℕ → List ℕ → Type 0) (Q : List ℕ → Type 0)
      → During clock images old mid (From (images old (clock old)) slot area (λ _ c. Q c))
      → Only clock images mid slot area bytes → During clock images mid new (From (images mid (clock mid)) slot area T)
      → ((c : List ℕ) → T bytes c → Q c) → During clock images old new (From (images old (clock old)) slot area (λ _ c. Q c))
  then_known old mid new slot area bytes T Q first only second leads = steps_on old mid new slot area (λ _ c. Q c) (λ _ c. Q c) (λ _ c. Q c) first
      (from_known mid new slot area bytes T Q only second leads) (λ a b q. q) (λ a b c p q. q)

  -- whatever was done to one area
  pub touched : (old new : R) (slot area : ℕ) (S : List ℕ → List ℕ → Type 0) → During clock images old new (From (images old (clock old)) slot area S) → During clock images old new (From (images old (clock old)) slot area Any)
  touched old new slot area S run = weaker old new (From (images old (clock old)) slot area S) (From (images old (clock old)) slot area Any) run (λ image text from. record { source = from.source; was = from.was; others = from.others; stepped = tt })

  pub touched_then : (old mid new : R) (slot area : ℕ) (S T : List ℕ → List ℕ → Type 0) → During clock images old mid (From (images old (clock old)) slot area S)
      → During clock images mid new (From (images mid (clock mid)) slot area T) → During clock images old new (From (images old (clock old)) slot area Any)
  touched_then old mid new slot area S T first second = steps_on old mid new slot area S T Any first second (λ a b s. tt) (λ a b c s t. tt)

  pub untouched : (rig : R) (slot area : ℕ) → During clock images rig rig (From (images rig (clock rig)) slot area Any)
  untouched rig slot area = started rig (From (images rig (clock rig)) slot area Any) (λ image text now. record { source = image; was = now; others = λ s a other. refl; stepped = tt })

  -- the same, where the bytes are known only under a premise, which stands inside the step: one clause is both the frame and the promise
  pub from_known_if : {X : Type 0} (old new : R) (slot area : ℕ) (H : X → Type 0) (bytes : X → List ℕ) (T : List ℕ → List ℕ → Type 0) (Q : X → List ℕ → Type 0)
      → ((x : X) → H x → Only clock images old slot area (bytes x)) → During clock images old new (From (images old (clock old)) slot area T)
      → ((x : X) → H x → (c : List ℕ) → T (bytes x) c → Q x c) → During clock images old new (From (images old (clock old)) slot area (λ _ c. (x : X) → H x → Q x c))
  from_known_if {X = X} old new slot area H bytes T Q only run leads = weaker old new (From (images old (clock old)) slot area T) (From (images old (clock old)) slot area (λ _ c. (x : X) → H x → Q x c)) run
      (λ image text from. record { source = from.source; was = from.was; others = from.others; stepped = λ x h. leads x h _ (subst (λ f. T f (image slot area)) (only x h from.source text from.was) from.stepped) })

  pub then_known_if : {X : Type 0} (old mid new : R) (slot area : ℕ) (H : X → Type 0) (bytes : X → List ℕ) (T : List ℕ → List ℕ → Type 0) (Q : X → List ℕ → Type 0)
      → During clock images old mid (From (images old (clock old)) slot area (λ _ c. (x : X) → H x → Q x c))
      → ((x : X) → H x → Only clock images mid slot area (bytes x)) → During clock images mid new (From (images mid (clock mid)) slot area T)
      → ((x : X) → H x → (c : List ℕ) → T (bytes x) c → Q x c) → During clock images old new (From (images old (clock old)) slot area (λ _ c. (x : X) → H x → Q x c))
  then_known_if {X = X} old mid new slot area H bytes T Q first only second leads = steps_on old mid new slot area (λ _ c. (x : X) → H x → Q x c) (λ _ c. (x : X) → H x → Q x c) (λ _ c. (x : X) → H x → Q x c) first
      (from_known_if mid new slot area H bytes T Q only second leads) (λ a b q. q) (λ a b c p q. q)

  -- a call that says something
  pub says_on : (old mid new : R) (bytes : List ℕ) (P : Image → List ℕ → Type 0)
      → During clock images old mid P → During clock images mid new (Saying (images mid (clock mid)) bytes)
      → ((image : Image) (text : List ℕ) (n : ℕ) → P image text → P image (text ++ take n bytes)) → During clock images old new P
  says_on old mid new bytes P first second more = goes_on old mid new P (Saying (images mid (clock mid)) bytes) first second
      (λ image text said. subst (λ (t : List ℕ). P image t) (sym said.said) (more image said.before said.count (at_end old mid P first image said.before said.was)))

  -- what holds of an area at every instant goes on over a call on another
  pub elsewhere : (old mid new : R) (slot area s a : ℕ) (T : List ℕ → List ℕ → Type 0) (Q : List ℕ → Type 0) → IsOther slot area s a
      → During clock images old mid (λ image _. Q (image s a)) → During clock images mid new (From (images mid (clock mid)) slot area T)
      → During clock images old new (λ image _. Q (image s a))
  elsewhere old mid new slot area s a T Q other first second = goes_on old mid new (λ image _. Q (image s a)) (From (images mid (clock mid)) slot area T) first second
      (λ image text from. subst Q (sym (from.others s a other)) (at_end old mid (λ image _. Q (image s a)) first from.source text from.was))

  -- bytes that are all that a crash leaves stay so over a call on another area
  pub only_elsewhere : (old new : R) (slot area s a : ℕ) (bytes : List ℕ) (T : List ℕ → List ℕ → Type 0) → IsOther slot area s a
      → Only clock images old s a bytes → During clock images old new (From (images old (clock old)) slot area T) → Only clock images new s a bytes
  only_elsewhere old new slot area s a bytes T other only run image text now =
      let from = at_end old new (From (images old (clock old)) slot area T) run image text now in
      from.others s a other ∙ only from.source text from.was

  -- the same over a call that changes no image
  pub only_stays : (old new : R) (s a : ℕ) (bytes : List ℕ) → Only clock images old s a bytes
      → During clock images old new (λ image text. images old (clock old) image text) → Only clock images new s a bytes
  only_stays old new s a bytes only run image text now = only image text (at_end old new (λ image text. images old (clock old) image text) run image text now)

  -- the same over a call that says something
  pub only_said : (old new : R) (s a : ℕ) (bytes said : List ℕ) → Only clock images old s a bytes
      → During clock images old new (Saying (images old (clock old)) said) → Only clock images new s a bytes
  only_said old new s a bytes said only run image text now =
      let from = at_end old new (Saying (images old (clock old)) said) run image text now in
      only image from.before from.was
