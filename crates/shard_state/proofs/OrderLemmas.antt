-- The log's versions rise up to the head, whatever step is done.
use Rattle.std.proofs.Common.{◌≡◌, ◌+◌, ◌≤◌, Bool, true, false, cond, not, List, [], ◌∷◌, ◌++◌, map, refl, sym, ap, subst, ◌∙◌, arith}
use Rattle.std.specs.List.{AllByRecursion}
use Rattle.std.proofs.lemmas.Grind.{common_steps}
use Rattle.std.proofs.lemmas.Bool.{true≢false, false≢true, and_parts, not-true}
use Rattle.ec_model.specs.Versions.{Version, is_up_to, is_same}
use Rattle.shard_model.specs.Fronts.{up_to, after}
use Rattle.shard_model.specs.Objects.{Geometry}
use Rattle.shard_model.specs.Steps.{Entry, Back, Firm, Trim, Started, Partial, Put, Drop, Clear, Reset, Step, Log, Control, Recover}
use Rattle.shard_model.specs.States.{State, Logged, version_of, logged, settled, follows, fits, state_after}
use Rattle.shard_model.proofs.VersionLemmas.{above-trans, above-weak, up_to-trans, up_to-refl}
use Rattle.shard_model.proofs.StepLemmas.{next_above}
use Rattle.shard_state.specs.Sound.{AreRising, IsOrdered}
use Rattle.shard_state.proofs.StateLemmas.{all_pushed}

abbrev Below : Version → List Logged → Type 0
Below v ns = AllByRecursion (λ n. is_up_to n.version v ≡ true) ns

abbrev Above : Version → List Logged → Type 0
Above v ns = AllByRecursion (λ m. is_up_to m.version v ≡ false) ns

higher : (v w : Version) (ns : List Logged) → is_up_to v w ≡ true → Below v ns → Below w ns
higher v w [] le all = tt
higher v w (n ∷ ns) le all = (up_to-trans n.version v w all.0 le, higher v w ns le all.1)

-- what follows the head is above it
pub above_head : (s : State) (e : Entry) → follows s e ≡ true → is_up_to e.version s.head ≡ false
above_head s e fit =
    let parts = and_parts (is_same e.prior s.head) _ (and_parts (not s.partial) _ fit).1 in
    let next : e.version.seq ≡ e.prior.seq + 1 = grind (arith, common_steps) in
    let later : e.prior.epoch ≤ e.version.epoch = grind (arith, common_steps) in
    next_above s.head e.prior e.version parts.0 next later

rising_pushed : (head : Version) (ns : List Logged) (n : Logged) → Below head ns → AreRising ns → is_up_to n.version head ≡ false → AreRising (ns ++ n ∷ [])
rising_pushed head [] n below rising above = (tt, tt)
rising_pushed head (x ∷ ns) n below rising above =
    (all_pushed (λ m. is_up_to m.version x.version ≡ false) ns n rising.0 (above-trans n.version head x.version above below.0), rising_pushed head ns n below.1 rising.1 above)

front_below : (v : Version) (ns : List Logged) → Below v (up_to version_of v ns)
front_below v [] = tt
front_below v (n ∷ ns) =
    elim (is_up_to n.version v) as (λ b. is_up_to n.version v ≡ b → Below v (cond b (n ∷ up_to version_of v ns) [])) [
      | true ↦ λ e. (e, front_below v ns)
      | false ↦ λ e. tt
    ] refl

front_all : (P : Logged → Type 0) (v : Version) (ns : List Logged) → AllByRecursion P ns → AllByRecursion P (up_to version_of v ns)
front_all P v [] all = tt
front_all P v (n ∷ ns) all =
    elim (is_up_to n.version v) as (λ b. AllByRecursion P (cond b (n ∷ up_to version_of v ns) [])) [
      | true ↦ (all.0, front_all P v ns all.1)
      | false ↦ tt
    ]

front_rising : (v : Version) (ns : List Logged) → AreRising ns → AreRising (up_to version_of v ns)
front_rising v [] rising = tt
front_rising v (n ∷ ns) rising =
    elim (is_up_to n.version v) as (λ b. AreRising (cond b (n ∷ up_to version_of v ns) [])) [
      | true ↦ (front_all (λ m. is_up_to m.version n.version ≡ false) v ns rising.0, front_rising v ns rising.1)
      | false ↦ tt
    ]

rest_all : (P : Logged → Type 0) (v : Version) (ns : List Logged) → AllByRecursion P ns → AllByRecursion P (after version_of v ns)
rest_all P v [] all = tt
rest_all P v (n ∷ ns) all =
    elim (is_up_to n.version v) as (λ b. AllByRecursion P (cond b (after version_of v ns) (n ∷ ns))) [
      | true ↦ rest_all P v ns all.1
      | false ↦ all
    ]

rest_rising : (v : Version) (ns : List Logged) → AreRising ns → AreRising (after version_of v ns)
rest_rising v [] rising = tt
rest_rising v (n ∷ ns) rising =
    elim (is_up_to n.version v) as (λ b. AreRising (cond b (after version_of v ns) (n ∷ ns))) [
      | true ↦ rest_rising v ns rising.1
      | false ↦ rising
    ]

settled_below : (v w : Version) (ns : List Logged) → Below w ns → Below w (map (settled v) ns)
settled_below v w [] all = tt
settled_below v w (n ∷ ns) all = (all.0, settled_below v w ns all.1)

settled_above : (v w : Version) (ns : List Logged) → Above w ns → Above w (map (settled v) ns)
settled_above v w [] all = tt
settled_above v w (n ∷ ns) all = (all.0, settled_above v w ns all.1)

settled_rising : (v : Version) (ns : List Logged) → AreRising ns → AreRising (map (settled v) ns)
settled_rising v [] rising = tt
settled_rising v (n ∷ ns) rising = (settled_above v n.version ns rising.0, settled_rising v ns rising.1)

has_some : List Logged → Bool
has_some [] = false
has_some (n ∷ ns) = true

not_both : (s : State) (A : Type 0) → (not s.partial) ≡ true → s.partial ≡ true → A
not_both s A running partial = absurd (true≢false (sym partial ∙ not-true s.partial running))

pub ordered_after : (g : Geometry) (s : State) (step : Step) → IsOrdered s → fits g s step ≡ true → IsOrdered (state_after g s step)
ordered_after g s (Log e) ordered fit =
    let follow = (and_parts (follows s e) _ fit).0 in
    let above = above_head s e follow in
    record {
      below = all_pushed (λ n. is_up_to n.version e.version ≡ true) s.log (logged s.objects e) (higher s.head e.version s.log (above-weak e.version s.head above) ordered.below) (up_to-refl e.version);
      rising = rising_pushed s.head s.log (logged s.objects e) ordered.below ordered.rising above;
      alone = λ p. not_both s _ (and_parts (not s.partial) _ follow).0 p;
    }
ordered_after g s (Control (Back v)) ordered fit =
    record { below = front_below v s.log; rising = front_rising v s.log ordered.rising; alone = λ p. not_both s _ (and_parts (not s.partial) _ fit).0 p }
ordered_after g s (Control (Firm v)) ordered fit =
    record { below = settled_below v s.head s.log ordered.below; rising = settled_rising v s.log ordered.rising; alone = λ p. not_both s _ (and_parts (not s.partial) _ fit).0 p }
ordered_after g s (Control (Trim v)) ordered fit =
    record { below = rest_all (λ n. is_up_to n.version s.head ≡ true) v s.log ordered.below; rising = rest_rising v s.log ordered.rising; alone = λ p. not_both s _ (and_parts (not s.partial) _ fit).0 p }
ordered_after g s (Control (Started epoch)) ordered fit = record { below = ordered.below; rising = ordered.rising; alone = ordered.alone }
ordered_after g s (Control Partial) ordered fit = record { below = tt; rising = tt; alone = λ p. refl }
ordered_after g s (Recover (Put name size bytes attrs)) ordered fit = record { below = ordered.below; rising = ordered.rising; alone = ordered.alone }
ordered_after g s (Recover (Drop name)) ordered fit = record { below = ordered.below; rising = ordered.rising; alone = ordered.alone }
ordered_after g s (Recover Clear) ordered fit = record { below = ordered.below; rising = ordered.rising; alone = ordered.alone }
ordered_after g s (Recover (Reset v epoch)) ordered fit =
    let none = ordered.alone (and_parts s.partial _ fit).0 in
    record {
      below = subst (Below v) (sym none) tt;
      rising = subst AreRising (sym none) tt;
      alone = λ p. absurd (false≢true p);
    }

fewer_below : (v : Version) (ns : List Logged) (n : Logged) → Below v (ns ++ n ∷ []) → Below v ns
fewer_below v [] n all = tt
fewer_below v (x ∷ ns) n all = (all.0, fewer_below v ns n all.1)

fewer_above : (v : Version) (ns : List Logged) (n : Logged) → Above v (ns ++ n ∷ []) → Above v ns
fewer_above v [] n all = tt
fewer_above v (x ∷ ns) n all = (all.0, fewer_above v ns n all.1)

fewer_rising : (ns : List Logged) (n : Logged) → AreRising (ns ++ n ∷ []) → AreRising ns
fewer_rising [] n rising = tt
fewer_rising (x ∷ ns) n rising = (fewer_above x.version ns n rising.0, fewer_rising ns n rising.1)

none_left : (ns : List Logged) (n : Logged) → ns ++ n ∷ [] ≡ [] → ns ≡ []
unfolding has_some
none_left [] n e = refl
none_left (x ∷ ns) n e = absurd (true≢false (ap has_some e))

-- without the newest entry they rise too
pub ordered_less : (s : State) (ns : List Logged) (n : Logged) (t : State) → s.log ≡ ns ++ n ∷ [] → t.log ≡ ns → t.head ≡ s.head → t.partial ≡ s.partial → IsOrdered s → IsOrdered t
ordered_less s ns n t is log head partial ordered =
    record {
      below = subst (λ xs. Below t.head xs) (sym log) (subst (λ v. Below v ns) (sym head) (fewer_below s.head ns n (subst (Below s.head) is ordered.below)));
      rising = subst AreRising (sym log) (fewer_rising ns n (subst AreRising is ordered.rising));
      alone = λ p. log ∙ none_left ns n (sym is ∙ ordered.alone (sym partial ∙ p));
    }

-- the order is of the log, the head and the mark alone
abbrev pub OrderedWith : State → List Logged → Type 0
OrderedWith s log = IsOrdered (record { phase = s.phase; objects = s.objects; log = log; tail = s.tail; firm = s.firm; head = s.head; les = s.les; partial = s.partial })

pub ordered_with : (s : State) → IsOrdered s → OrderedWith s s.log
ordered_with s ordered = record { below = ordered.below; rising = ordered.rising; alone = ordered.alone }
