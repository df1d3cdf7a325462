-- Undoing one more entry on the way back.
use Rattle.std.proofs.Common.{◌≡◌, ℕ, ◌<◌, ◌≤◌, List, [], ◌∷◌, ◌++◌, take, drop, length, refl, sym, ap, ◌∙◌, arith}
use Rattle.std.proofs.lemmas.List.{take-append-le, drop-append-le, length_push, take_all, drop_all}
use Rattle.shard_model.specs.States.{Logged, undone_one, undone}
use Rattle.shard_model.specs.Shards.{Shard}
use Rattle.shard_state.specs.Ways.{with_log, UndoesNewest, IsPartWay}
use Rattle.shard_state.proofs.SoundLemmas.{undone-push}

pub record Split (xs : List Logged) : Type 0 where
  pub front : List Logged
  pub last : Logged
  pub is : xs ≡ front ++ last ∷ []

pub split_last : (xs : List Logged) → 0 < length xs → Split xs
split_last [] h = absurd (omega arith)
split_last (x ∷ []) h = record { front = []; last = x; is = refl }
split_last (x ∷ y ∷ xs) h =
    let s = split_last (y ∷ xs) (omega arith) in
    record { front = x ∷ s.front; last = s.last; is = ap (λ zs. x ∷ zs) s.is }

pub one_further : (cut : ℕ) (before mid now : Shard) → IsPartWay cut before mid → cut < length mid.state.log → UndoesNewest mid now → IsPartWay cut before now
one_further cut before mid now way more undoes =
    let s = split_last mid.state.log (omega (arith, more)) in
    let is = undoes s.front s.last s.is in
    let short : cut ≤ length s.front = omega (arith, more, ap length s.is, length_push s.front s.last) in
    let geometry : mid.geometry ≡ before.geometry = ap (λ x. x.geometry) way.same in
    let log : now.state.log ≡ s.front = ap (λ x. x.state.log) is in
    let objects : now.state.objects ≡ undone_one before.geometry mid.state.objects s.last = ap (λ x. x.state.objects) is ∙ ap (λ g. undone_one g mid.state.objects s.last) geometry in
    record {
      same = is ∙ (λ i. with_log (way.same i) (undone_one mid.geometry mid.state.objects s.last) s.front) ∙ (λ i. with_log before (sym (ap (λ x. x.state.objects) is) i) (sym log i));
      front = ap (take cut) log ∙ sym (ap (take cut) s.is ∙ take-append-le cut s.front (s.last ∷ []) short) ∙ way.front;
      objects =
          (λ i. undone before.geometry (objects i) (drop cut (log i)))
          ∙ sym (undone-push before.geometry mid.state.objects (drop cut s.front) s.last)
          ∙ ap (undone before.geometry mid.state.objects) (sym (ap (drop cut) s.is ∙ drop-append-le cut s.front (s.last ∷ []) short))
          ∙ way.objects;
    }

pub at_end : (cut : ℕ) (before now : Shard) → IsPartWay cut before now → length now.state.log ≤ cut
    → now ≡ with_log before (undone before.geometry before.state.objects (drop cut before.state.log)) (take cut before.state.log)
at_end cut before now way short =
    way.same
    ∙ (λ i. with_log before
    ((sym (ap (undone before.geometry now.state.objects) (drop_all cut now.state.log short)) ∙ way.objects) i)
    ((sym (take_all cut now.state.log short) ∙ way.front) i))

pub shorter : (mid now : Shard) → 0 < length mid.state.log → UndoesNewest mid now → length now.state.log < length mid.state.log
shorter mid now some undoes =
    let s = split_last mid.state.log some in
    let is = ap (λ x. length x.state.log) (undoes s.front s.last s.is) in
    omega (arith, is, ap length s.is, length_push s.front s.last)
