-- A step on the state of a replay gives the state of the replay with one step more, and a replay stays whole.
use Rattle.std.proofs.Common.{◌≡◌, ◌⊎◌, inl, inr, ◌+◌, ◌*◌, ◌<◌, ◌≤◌, true, false, cond, not, List, [], ◌∷◌, ◌++◌, map, length, nat_le, ◌==◌, is_some, unwrap_or, refl, sym, ap, subst, ◌∙◌, Option, Some, None, arith}
use Rattle.std.specs.List.{AllByRecursion, list_any, list_all}
use Rattle.std.specs.Ordering.{nat_cmp}
use Rattle.std.specs.Cmp.Lexicographic.{slice_cmp}
use Rattle.std.proofs.lemmas.Grind.{common_steps}
use Rattle.std.proofs.lemmas.Bool.{true≢false, false≢true, cond-true, cond-false, and_parts, or_cases, not-true, eqb-true, leb-true}
use Rattle.std.proofs.lemmas.List.Folds.{list_any-append}
use Rattle.std.proofs.lemmas.List.{map-append, append_assoc}
use Rattle.std.specs.FinMap as fin
use Rattle.ec_model.specs.Versions.{Version, is_up_to, is_same}
use Rattle.shard_model.specs.Fronts.{up_to, after}
use Rattle.shard_model.specs.Objects.{ShardObjects, Geometry, put, IsHeld, MayBeHeld, AreHeld, shard_len}
use Rattle.shard_model.specs.Changes.{fits_change}
use Rattle.shard_model.specs.Steps.{Entry, Back, Firm, Trim, Started, Partial, Put, Drop, Clear, Reset, Step, Log, Control, Recover}
use Rattle.shard_model.specs.States.{Phase, phase_after, version_of, effect, logged, settled, undone, is_known, holds, fits, follows, state_after, are_attrs, brought}
use Rattle.shard_model.specs.Limits.{max_size, max_attrs}
use Rattle.shard_model.proofs.UndoLemmas.{few_pairs}
use Rattle.shard_model.proofs.ShortLemmas.{is_short, pairs_short}
use Rattle.shard_model.specs.Replays.{Replay, entry_version, replayed, last_version, head, logged_all, log, state_of, replay_after, AreRising, AreFitting, IsWhole, fresh_replay, replay_of, replay_from}
use Rattle.shard_model.proofs.VersionLemmas.{up_to-trans, above-trans, above-weak, up_to-refl, same-up_to, same_version, is_same-version}
use Rattle.shard_model.proofs.FrontLemmas.{after-after, up_to-after, after-append, up_to-append, after-map, after-push, any_after}
use Rattle.shard_model.proofs.ReplayLemmas

-- what follows the head is above it
pub next_above : (h p v : Version) → is_same p h ≡ true → v.seq ≡ p.seq + 1 → p.epoch ≤ v.epoch → is_up_to v h ≡ false
next_above h p v same next later = grind (arith, common_steps)

pub some_is : (s t : Replay) → ◌≡◌ {A = Option Replay} (Some s) (Some t) → s ≡ t
some_is s t e = ap (λ o. unwrap_or o s) e

pub none_some : (t : Replay) → ◌≡◌ {A = Option Replay} None (Some t) → ⊥
none_some t e = false≢true (ap is_some e)

pub last_low : (low : Version) (es : List Entry) → AreRising low es → is_up_to low (last_version low es) ≡ true
last_low low [] rising = up_to-refl low
last_low low (e ∷ es) rising = up_to-trans low e.version (last_version e.version es) (above-weak e.version low rising.0) (last_low e.version es rising.1)

module _ (g : Geometry) (positive : 0 < g.k * g.unit) where
  pub above_head : (s : Replay) (e : Entry) → follows (state_of g s) e ≡ true → is_up_to e.version (head s) ≡ false
  above_head s e fit =
      let same : is_same e.prior (head s) ≡ true = (and_parts _ _ (and_parts _ _ fit).1).0 in
      let next : e.version.seq ≡ e.prior.seq + 1 = grind (arith, common_steps) in
      let later : e.prior.epoch ≤ e.version.epoch = grind (arith, common_steps) in
      next_above (head s) e.prior e.version same next later

  pub known_low : (s : Replay) (v : Version) → is_known (state_of g s) v ≡ true → is_up_to s.tail v ≡ true
  known_low s v known =
      elim (or_cases (is_same s.tail v) _ known) [
        | inl same ↦ same-up_to s.tail v same
        | inr more ↦ (and_parts _ _ more).0
      ]

  -- a version that is held is the last one up to it
  pub held_last : (s : Replay) (v : Version) → IsWhole g s → s.partial ≡ false → holds (state_of g s) v ≡ true → last_version s.base_version (up_to entry_version v s.entries) ≡ v
  held_last s v whole running held =
      let known = (and_parts _ _ held).0 in
      let firm : is_up_to s.firm v ≡ true = (and_parts _ _ held).1 in
      let based : is_up_to s.base_version v ≡ true = up_to-trans s.base_version s.firm v (whole.based running) firm in
      let at_base : is_up_to v s.base_version ≡ true → last_version s.base_version (up_to entry_version v s.entries) ≡ v =
      λ low. let same = same_version s.base_version v based low in
      ap (last_version s.base_version) (ReplayLemmas.none_up_to g positive v s.entries (subst (λ w. AreRising w s.entries) same whole.rising)) ∙ same in
      elim (or_cases (is_same s.tail v) _ known) [
        | inl same ↦
            let is = is_same-version s.tail v same in
            elim whole.tail_known [
              | inl low ↦ at_base (subst (λ w. is_up_to w s.base_version ≡ true) is low)
              | inr last ↦ subst (λ w. last_version s.base_version (up_to entry_version w s.entries) ≡ w) is last
            ]
        | inr more ↦
            let all = any_after version_of (λ n. is_same n.version v) s.tail (s.past ++ logged_all g s.firm s.base s.entries) (and_parts _ _ more).1 in
            elim (or_cases (list_any (λ n. is_same n.version v) s.past) (list_any (λ n. is_same n.version v) (logged_all g s.firm s.base s.entries)) (sym (list_any-append (λ n. is_same n.version v) s.past (logged_all g s.firm s.base s.entries)) ∙ all)) [
              | inl past ↦ at_base (ReplayLemmas.past_any g positive v s.base_version s.past whole.old past)
              | inr new ↦ ReplayLemmas.last_at g positive s.firm v s.base_version s.base s.entries whole.rising new
            ]
      ]

  -- no entries and no past while a copy is under way
  abbrev told_so : Replay → Step → Type 0
  told_so s step = state_of g (replay_after g s step) ≡ state_after g (state_of g s) step

  enter_told : (s : Replay) (e : Entry) → IsWhole g s → fits g (state_of g s) (Log e) ≡ true → told_so s (Log e)
  enter_told s e whole fit =
      let parts = and_parts (follows (state_of g s) e) _ fit in
      let above = above_head s e parts.0 in
      let now = replayed g s.base s.entries in
      let old = logged_all g s.firm s.base s.entries in
      let firm_above : is_up_to e.version s.firm ≡ false = above-trans e.version (head s) s.firm above whole.firm_low in
      let tail_above : is_up_to e.version s.tail ≡ false = above-trans e.version (head s) s.tail above whole.tail_low in
      let logs : after version_of s.tail (s.past ++ logged_all g s.firm s.base (s.entries ++ e ∷ [])) ≡ after version_of s.tail (s.past ++ old) ++ logged now e ∷ [] =
      ap (λ ns. after version_of s.tail (s.past ++ ns)) (ReplayLemmas.logged_all-append g positive s.firm s.base s.entries (e ∷ []))
      ∙ ap (λ n. after version_of s.tail (s.past ++ (old ++ n ∷ []))) (ReplayLemmas.settled_above g positive s.firm (logged now e) firm_above)
      ∙ ap (after version_of s.tail) (sym (append_assoc s.past old (logged now e ∷ [])))
      ∙ after-push version_of s.tail (s.past ++ old) (logged now e) tail_above in
      λ i. record { phase = phase_after s.phase (Log e); objects = ReplayLemmas.replayed-append g positive s.base s.entries (e ∷ []) i; log = logs i; tail = s.tail; firm = s.firm; head = ReplayLemmas.last-append g positive s.base_version s.entries e i; les = s.les; partial = s.partial }

  back_told : (s : Replay) (v : Version) → IsWhole g s → fits g (state_of g s) (Control (Back v)) ≡ true → told_so s (Control (Back v))
  back_told s v whole fit =
      let running = not-true s.partial (and_parts (not s.partial) _ fit).0 in
      let held : holds (state_of g s) v ≡ true = (and_parts (not s.partial) _ fit).1 in
      let low = known_low s v (and_parts _ _ held).0 in
      let firm : is_up_to s.firm v ≡ true = (and_parts _ _ held).1 in
      let based : is_up_to s.base_version v ≡ true = up_to-trans s.base_version s.firm v (whole.based running) firm in
      let past = ReplayLemmas.past_low g positive s.base_version v s.past based whole.old in
      let now = replayed g s.base s.entries in
      let old = logged_all g s.firm s.base s.entries in
      let objects : replayed g s.base (up_to entry_version v s.entries) ≡ undone g now (after version_of v (after version_of s.tail (s.past ++ old))) =
      sym (ap (undone g now) (after-after version_of s.tail v (s.past ++ old) low ∙ after-append version_of v s.past old past)
      ∙ ReplayLemmas.back_to g positive s.firm v s.base_version s.base s.entries firm whole.rising whole.held whole.fitting) in
      let logs : after version_of s.tail (s.past ++ logged_all g s.firm s.base (up_to entry_version v s.entries)) ≡ up_to version_of v (after version_of s.tail (s.past ++ old)) =
      sym (up_to-after version_of s.tail v (s.past ++ old) low
      ∙ ap (after version_of s.tail) (up_to-append version_of v s.past old past ∙ ap (λ ns. s.past ++ ns) (ReplayLemmas.up_to-logged g positive s.firm v s.base s.entries))) in
      λ i. record { phase = phase_after s.phase (Control (Back v)); objects = objects i; log = logs i; tail = s.tail; firm = s.firm; head = held_last s v whole running held i; les = s.les; partial = s.partial }

  firm_told : (s : Replay) (v : Version) → IsWhole g s → fits g (state_of g s) (Control (Firm v)) ≡ true → told_so s (Control (Firm v))
  firm_told s v whole fit =
      let held : holds (state_of g s) v ≡ true = (and_parts (not s.partial) _ fit).1 in
      let firm : is_up_to s.firm v ≡ true = (and_parts _ _ held).1 in
      let old = logged_all g s.firm s.base s.entries in
      let logs : after version_of s.tail (s.past ++ logged_all g v s.base s.entries) ≡ map (settled v) (after version_of s.tail (s.past ++ old)) =
      (λ i. after version_of s.tail (ReplayLemmas.past_settled g positive v s.past whole.closed i ++ ReplayLemmas.logged_all-firm g positive s.firm v s.base s.entries firm i))
      ∙ ap (after version_of s.tail) (sym (map-append (settled v) s.past old))
      ∙ after-map version_of (settled v) (λ n. refl) s.tail (s.past ++ old) in
      λ i. record { phase = phase_after s.phase (Control (Firm v)); objects = replayed g s.base s.entries; log = logs i; tail = s.tail; firm = v; head = head s; les = s.les; partial = s.partial }

  trim_told : (s : Replay) (v : Version) → IsWhole g s → fits g (state_of g s) (Control (Trim v)) ≡ true → told_so s (Control (Trim v))
  trim_told s v whole fit =
      let low = known_low s v (and_parts _ _ (and_parts (not s.partial) _ fit).1).0 in
      λ i. record { phase = phase_after s.phase (Control (Trim v)); objects = replayed g s.base s.entries; log = sym (after-after version_of s.tail v (s.past ++ logged_all g s.firm s.base s.entries) low) i; tail = v; firm = s.firm; head = head s; les = s.les; partial = s.partial }

  -- with no entries and no past, a function of them does not look at the base
  based_told : (s : Replay) (m : ShardObjects) → (s.past ≡ []) × (s.entries ≡ []) → (t : Version) (f : Version) → after version_of t (s.past ++ logged_all g f m s.entries) ≡ log g s
  based_told s m none t f =
      (λ i. after version_of t (none.0 i ++ logged_all g f m (none.1 i))) ∙ sym (λ i. after version_of s.tail (none.0 i ++ logged_all g s.firm s.base (none.1 i)))

  pub one_more : (s : Replay) (step : Step) → IsWhole g s → fits g (state_of g s) step ≡ true → state_of g (replay_after g s step) ≡ state_after g (state_of g s) step
  one_more s (Log e) whole fit = enter_told s e whole fit
  one_more s (Control (Back v)) whole fit = back_told s v whole fit
  one_more s (Control (Firm v)) whole fit = firm_told s v whole fit
  one_more s (Control (Trim v)) whole fit = trim_told s v whole fit
  one_more s (Control (Started epoch)) whole fit = refl
  one_more s (Control Partial) whole fit = refl
  one_more s (Recover (Put name size bytes attrs)) whole fit =
      let none = whole.alone (and_parts s.partial _ fit).0 in
      λ i. record { phase = phase_after s.phase (Recover (Put name size bytes attrs)); objects = (ap (replayed g (put s.base name (Some (brought size bytes attrs)))) none.1 ∙ sym (ap (λ es. put (replayed g s.base es) name (Some (brought size bytes attrs))) none.1)) i; log = based_told s (put s.base name (Some (brought size bytes attrs))) none s.tail s.firm i; tail = s.tail; firm = s.firm; head = head s; les = s.les; partial = s.partial }
  one_more s (Recover (Drop name)) whole fit =
      let none = whole.alone fit in
      λ i. record { phase = phase_after s.phase (Recover (Drop name)); objects = (ap (replayed g (put s.base name None)) none.1 ∙ sym (ap (λ es. put (replayed g s.base es) name None) none.1)) i; log = based_told s (put s.base name None) none s.tail s.firm i; tail = s.tail; firm = s.firm; head = head s; les = s.les; partial = s.partial }
  one_more s (Recover Clear) whole fit =
      let none = whole.alone fit in
      λ i. record { phase = phase_after s.phase (Recover Clear); objects = ap (replayed g fin.empty) none.1 i; log = based_told s fin.empty none s.tail s.firm i; tail = s.tail; firm = s.firm; head = head s; les = s.les; partial = s.partial }
  one_more s (Recover (Reset v epoch)) whole fit =
      let none = whole.alone (and_parts s.partial _ fit).0 in
      λ i. record { phase = phase_after s.phase (Recover (Reset v epoch)); objects = replayed g s.base s.entries; log = based_told s s.base none v v i; tail = v; firm = v; head = ap (last_version v) none.1 i; les = epoch; partial = false }

  rising-append : (v : Version) (es : List Entry) (e : Entry) → AreRising v es → is_up_to e.version (last_version v es) ≡ false → AreRising v (es ++ e ∷ [])
  rising-append v [] e rising above = (above, tt)
  rising-append v (d ∷ es) e rising above = (rising.0, rising-append d.version es e rising.1 above)

  fitting-append : (m : ShardObjects) (es : List Entry) (e : Entry) → AreFitting g m es → fits_change g e.change (fin.get (replayed g m es) e.name) ≡ true → AreFitting g m (es ++ e ∷ [])
  fitting-append m [] e fitting fit = (fit, tt)
  fitting-append m (d ∷ es) e fitting fit = (fitting.0, fitting-append (effect g m d) es e fitting.1 fit)

  rising-cut : (v low : Version) (es : List Entry) → AreRising low es → AreRising low (up_to entry_version v es)
  rising-cut v low [] rising = tt
  rising-cut v low (e ∷ es) rising =
      elim (is_up_to e.version v) as (λ b. AreRising low (cond b (e ∷ up_to entry_version v es) [])) [
        | true ↦ (rising.0, rising-cut v e.version es rising.1)
        | false ↦ tt
      ]

  fitting-cut : (v : Version) (m : ShardObjects) (es : List Entry) → AreFitting g m es → AreFitting g m (up_to entry_version v es)
  fitting-cut v m [] fitting = tt
  fitting-cut v m (e ∷ es) fitting =
      elim (is_up_to e.version v) as (λ b. AreFitting g m (cond b (e ∷ up_to entry_version v es) [])) [
        | true ↦ (fitting.0, fitting-cut v (effect g m e) es fitting.1)
        | false ↦ tt
      ]

  -- the tail's part stays if the list is cut behind it, or grows
  pub cut-cut : (t v : Version) (es : List Entry) → is_up_to t v ≡ true → up_to entry_version t (up_to entry_version v es) ≡ up_to entry_version t es
  cut-cut t v [] le = refl
  cut-cut t v (e ∷ es) le =
      elim (is_up_to e.version t) as (λ b. is_up_to e.version t ≡ b → up_to entry_version t (up_to entry_version v (e ∷ es)) ≡ cond b (e ∷ up_to entry_version t es) []) [
        | true ↦ λ p. ap (up_to entry_version t) (cond-true (is_up_to e.version v) (e ∷ up_to entry_version v es) [] (up_to-trans e.version t v p le))
            ∙ cond-true (is_up_to e.version t) (e ∷ up_to entry_version t (up_to entry_version v es)) [] p
            ∙ ap (λ ds. e ∷ ds) (cut-cut t v es le)
        | false ↦ λ p. elim (is_up_to e.version v) as (λ b. up_to entry_version t (cond b (e ∷ up_to entry_version v es) []) ≡ []) [
          | true ↦ cond-false (is_up_to e.version t) (e ∷ up_to entry_version t (up_to entry_version v es)) [] p
          | false ↦ refl
        ]
      ] refl

  pub cut-append : (t : Version) (es : List Entry) (e : Entry) → is_up_to e.version t ≡ false → up_to entry_version t (es ++ e ∷ []) ≡ up_to entry_version t es
  cut-append t [] e above = cond-false (is_up_to e.version t) (e ∷ []) [] above
  cut-append t (d ∷ es) e above = ap (λ ds. cond (is_up_to d.version t) (d ∷ ds) []) (cut-append t es e above)

  -- the last version up to v is not above the last one
  last_cut : (v low : Version) (es : List Entry) → AreRising low es → is_up_to (last_version low (up_to entry_version v es)) (last_version low es) ≡ true
  last_cut v low [] rising = up_to-refl low
  last_cut v low (e ∷ es) rising =
      elim (is_up_to e.version v) as (λ b. is_up_to (last_version low (cond b (e ∷ up_to entry_version v es) [])) (last_version e.version es) ≡ true) [
        | true ↦ last_cut v e.version es rising.1
        | false ↦ up_to-trans low e.version (last_version e.version es) (above-weak e.version low rising.0) (last_low e.version es rising.1)
      ]

  pub held_low : (s : Replay) (v : Version) → last_version s.base_version (up_to entry_version v s.entries) ≡ v → IsWhole g s → is_up_to v (head s) ≡ true
  held_low s v last whole = subst (λ w. is_up_to w (head s) ≡ true) last (last_cut v s.base_version s.entries whole.rising)

  known_kept : (s : Replay) (v : Version) → IsWhole g s → is_known (state_of g s) v ≡ true
      → (is_up_to v s.base_version ≡ true) ⊎ (last_version s.base_version (up_to entry_version v s.entries) ≡ v)
  known_kept s v whole known =
      elim (or_cases (is_same s.tail v) _ known) [
        | inl same ↦ subst (λ w. (is_up_to w s.base_version ≡ true) ⊎ (last_version s.base_version (up_to entry_version w s.entries) ≡ w)) (is_same-version s.tail v same) whole.tail_known
        | inr more ↦
            let all = any_after version_of (λ n. is_same n.version v) s.tail (s.past ++ logged_all g s.firm s.base s.entries) (and_parts _ _ more).1 in
            elim (or_cases (list_any (λ n. is_same n.version v) s.past) (list_any (λ n. is_same n.version v) (logged_all g s.firm s.base s.entries)) (sym (list_any-append (λ n. is_same n.version v) s.past (logged_all g s.firm s.base s.entries)) ∙ all)) [
              | inl past ↦ inl (ReplayLemmas.past_any g positive v s.base_version s.past whole.old past)
              | inr new ↦ inr (ReplayLemmas.last_at g positive s.firm v s.base_version s.base s.entries whole.rising new)
            ]
      ]

  -- a version that is known is not above the head
  pub known_high : (s : Replay) (v : Version) → IsWhole g s → is_known (state_of g s) v ≡ true → is_up_to v (head s) ≡ true
  known_high s v whole known =
      elim (known_kept s v whole known) [
        | inl low ↦ up_to-trans v s.base_version (head s) low (last_low s.base_version s.entries whole.rising)
        | inr last ↦ held_low s v last whole
      ]

  new_base : (s : Replay) (phase : Phase) (m : ShardObjects) → IsWhole g s → s.partial ≡ true → AreHeld g m
      → IsWhole g (record { phase = phase; base = m; base_version = s.base_version; past = s.past; entries = s.entries; tail = s.tail; firm = s.firm; les = s.les; partial = s.partial })
  new_base s phase m whole partial sized =
      let none = whole.alone partial in
      record {
        held = sized;
        rising = whole.rising;
        fitting = subst (AreFitting g m) (sym none.1) tt;
        old = whole.old;
        closed = whole.closed;
        tail_known = whole.tail_known;
        tail_low = whole.tail_low;
        firm_low = whole.firm_low;
        based = whole.based;
        base_known = whole.base_known;
        alone = whole.alone;
      }

  pub whole_after : (s : Replay) (step : Step) → IsWhole g s → fits g (state_of g s) step ≡ true → IsWhole g (replay_after g s step)
  whole_after s (Log e) whole fit =
      let parts = and_parts (follows (state_of g s) e) _ fit in
      let above = above_head s e parts.0 in
      let last = ReplayLemmas.last-append g positive s.base_version s.entries e in
      let over : (v : Version) → is_up_to v (head s) ≡ true → is_up_to v (last_version s.base_version (s.entries ++ e ∷ [])) ≡ true =
      λ v low. subst (λ w. is_up_to v w ≡ true) (sym last) (up_to-trans v (head s) e.version low (above-weak e.version (head s) above)) in
      record {
        held = whole.held;
        rising = rising-append s.base_version s.entries e whole.rising above;
        fitting = fitting-append s.base s.entries e whole.fitting parts.1;
        old = whole.old;
        closed = whole.closed;
        tail_known = subst (λ ds. (is_up_to s.tail s.base_version ≡ true) ⊎ (last_version s.base_version ds ≡ s.tail)) (sym (cut-append s.tail s.entries e (above-trans e.version (head s) s.tail above whole.tail_low))) whole.tail_known;
        tail_low = over s.tail whole.tail_low;
        firm_low = over s.firm whole.firm_low;
        based = whole.based;
        base_known = whole.base_known;
        alone = λ p. absurd (false≢true (sym (not-true s.partial (and_parts (not s.partial) _ parts.0).0) ∙ p));
      }
  whole_after s (Control (Back v)) whole fit =
      let running = not-true s.partial (and_parts (not s.partial) _ fit).0 in
      let held : holds (state_of g s) v ≡ true = (and_parts (not s.partial) _ fit).1 in
      let low = known_low s v (and_parts _ _ held).0 in
      let firm : is_up_to s.firm v ≡ true = (and_parts _ _ held).1 in
      let last = held_last s v whole running held in
      record {
        held = whole.held;
        rising = rising-cut v s.base_version s.entries whole.rising;
        fitting = fitting-cut v s.base s.entries whole.fitting;
        old = whole.old;
        closed = whole.closed;
        tail_known = subst (λ ds. (is_up_to s.tail s.base_version ≡ true) ⊎ (last_version s.base_version ds ≡ s.tail)) (sym (cut-cut s.tail v s.entries low)) whole.tail_known;
        tail_low = subst (λ w. is_up_to s.tail w ≡ true) (sym last) low;
        firm_low = subst (λ w. is_up_to s.firm w ≡ true) (sym last) firm;
        based = whole.based;
        base_known = whole.base_known;
        alone = λ p. absurd (false≢true (sym running ∙ p));
      }
  whole_after s (Control (Firm v)) whole fit =
      let running = not-true s.partial (and_parts (not s.partial) _ fit).0 in
      let held : holds (state_of g s) v ≡ true = (and_parts (not s.partial) _ fit).1 in
      let firm : is_up_to s.firm v ≡ true = (and_parts _ _ held).1 in
      let last = held_last s v whole running held in
      record {
        held = whole.held;
        rising = whole.rising;
        fitting = whole.fitting;
        old = whole.old;
        closed = whole.closed;
        tail_known = whole.tail_known;
        tail_low = whole.tail_low;
        firm_low = held_low s v last whole;
        based = λ p. up_to-trans s.base_version s.firm v (whole.based running) firm;
        base_known = whole.base_known;
        alone = whole.alone;
      }
  whole_after s (Control (Trim v)) whole fit =
      let parts = and_parts (is_known (state_of g s) v) (is_up_to v s.firm) (and_parts (not s.partial) _ fit).1 in
      record {
        held = whole.held;
        rising = whole.rising;
        fitting = whole.fitting;
        old = whole.old;
        closed = whole.closed;
        tail_known = known_kept s v whole parts.0;
        tail_low = up_to-trans v s.firm (head s) parts.1 whole.firm_low;
        firm_low = whole.firm_low;
        based = whole.based;
        base_known = λ p. elim (whole.base_known p) [
          | inl low ↦ inl (up_to-trans s.base_version s.tail v low (known_low s v parts.0))
          | inr past ↦ inr past
        ];
        alone = whole.alone;
      }
  whole_after s (Control (Started epoch)) whole fit =
      record { held = whole.held; rising = whole.rising; fitting = whole.fitting; old = whole.old; closed = whole.closed; tail_known = whole.tail_known; tail_low = whole.tail_low; firm_low = whole.firm_low; based = whole.based; base_known = whole.base_known; alone = whole.alone }
  whole_after s (Control Partial) whole fit =
      record {
        held = ReplayLemmas.replayed_held g positive s.base s.entries whole.held whole.fitting;
        rising = tt;
        fitting = tt;
        old = tt;
        closed = tt;
        tail_known = inl whole.tail_low;
        tail_low = whole.tail_low;
        firm_low = whole.firm_low;
        based = λ p. absurd (true≢false p);
        base_known = λ p. absurd (true≢false p);
        alone = λ p. (refl, refl);
      }
  whole_after s (Recover (Put name size bytes attrs)) whole fit =
      let parts = and_parts s.partial _ fit in
      let rest = and_parts (length bytes == shard_len g size) (are_attrs attrs) (and_parts (nat_le size max_size) _ parts.1).1 in
      let lists = and_parts (nat_le (length attrs) max_attrs) _ rest.1 in
      let few : length attrs ≤ max_attrs = leb-true (length attrs) max_attrs lists.0 in
      let short = pairs_short attrs (and_parts (fin.is_sorted (slice_cmp nat_cmp) attrs) (list_all is_short attrs) lists.1).1 in
      let brings : IsHeld g (brought size bytes attrs) = record { small = leb-true size max_size (and_parts (nat_le size max_size) _ parts.1).0; sized = eqb-true (length bytes) (shard_len g size) rest.0; few = omega (arith, few, few_pairs attrs); short = short } in
      new_base s _ (put s.base name (Some (brought size bytes attrs))) whole parts.0 (ReplayLemmas.put_held g positive s.base name (Some (brought size bytes attrs)) whole.held brings)
  whole_after s (Recover (Drop name)) whole fit = new_base s _ (put s.base name None) whole fit (ReplayLemmas.put_held g positive s.base name None whole.held tt)
  whole_after s (Recover Clear) whole fit = new_base s _ fin.empty whole fit (λ q. subst (MayBeHeld g) (sym (fin.get-empty _ q)) tt)
  whole_after s (Recover (Reset v epoch)) whole fit =
      let none = whole.alone (and_parts s.partial _ fit).0 in
      record {
        held = whole.held;
        rising = subst (AreRising v) (sym none.1) tt;
        fitting = whole.fitting;
        old = subst (AllByRecursion (λ n. is_up_to n.version v ≡ true)) (sym none.0) tt;
        closed = whole.closed;
        tail_known = inl (up_to-refl v);
        tail_low = subst (λ es. is_up_to v (last_version v es) ≡ true) (sym none.1) (up_to-refl v);
        firm_low = subst (λ es. is_up_to v (last_version v es) ≡ true) (sym none.1) (up_to-refl v);
        based = λ p. up_to-refl v;
        base_known = λ p. inl (up_to-refl v);
        alone = λ p. absurd (false≢true p);
      }

  pub whole_fresh : IsWhole g fresh_replay
  whole_fresh = record {
    held = λ q. subst (MayBeHeld g) (sym (fin.get-empty _ q)) tt;
    rising = tt;
    fitting = tt;
    old = tt;
    closed = tt;
    tail_known = inl refl;
    tail_low = refl;
    firm_low = refl;
    based = λ p. refl;
    base_known = λ p. inl refl;
    alone = λ p. (refl, refl);
  }

  -- each replay is whole
  pub whole_from : (s : Replay) (steps : List Step) (t : Replay) → IsWhole g s → replay_from g s steps ≡ Some t → IsWhole g t
  whole_from s [] t whole is = subst (IsWhole g) (some_is s t is) whole
  whole_from s (step ∷ steps) t whole is =
      elim (fits g (state_of g s) step) as (λ b. fits g (state_of g s) step ≡ b → cond b (replay_from g (replay_after g s step) steps) None ≡ Some t → IsWhole g t) [
        | true ↦ λ fit e. whole_from (replay_after g s step) steps t (whole_after s step whole fit) e
        | false ↦ λ fit e. absurd (none_some t e)
      ] refl is

  pub whole_replay : (steps : List Step) (s : Replay) → replay_of g steps ≡ Some s → IsWhole g s
  whole_replay steps s is = whole_from fresh_replay steps s whole_fresh is
