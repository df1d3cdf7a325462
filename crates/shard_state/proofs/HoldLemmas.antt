-- Which versions are held, and what going back to one gives.
use Rattle.std.proofs.Common.{◌≡◌, ◌*◌, ◌<◌, Bool, true, false, not, ◌&&◌, ◌||◌, List, [], ◌∷◌, map, refl, sym, ap, subst, ◌∙◌}
use Rattle.std.proofs.lemmas.Bool.{true≢false, false≢true, and_from}
use Rattle.ec_model.specs.Versions.{Version}
use Rattle.shard_model.specs.Steps.{Control, Back}
use Rattle.shard_model.specs.States.{holds, fits, state_after}
use Rattle.shard_model.specs.Replays.{state_of, replay_after}
use Rattle.shard_model.specs.Shards.{Shard, stepped}
use Rattle.shard_model.proofs.StepLemmas.{one_more, whole_replay}
use Rattle.shard_state.specs.Records.{recorded, log_of}
use Rattle.shard_state.specs.Sound.{logged_in}
use Rattle.shard_state.specs.Ways.{GivesThePast}
use Rattle.shard_state.specs.declared.record.Record.{Record}

pub held : (f s t b : Bool) → f ≡ true → s ≡ false → t ≡ true → b ≡ ((s || (t && b)) && f)
held true false true false p q r = refl
held true false true true p q r = refl
held true false false b p q r = absurd (false≢true r)
held true true t b p q r = absurd (true≢false q)
held false s t b p q r = absurd (false≢true p)

pub known : (s t b : Bool) → s ≡ false → t ≡ true → b ≡ (s || (t && b))
known false true b p q = refl
known false false b p q = absurd (false≢true q)
known true t b p q = absurd (true≢false p)

-- the log without its spares, in one step or in two
pub log_is : (records : List Record) → log_of records ≡ map logged_in (map recorded records)
log_is [] = refl
log_is (r ∷ records) = ap (λ ns. logged_in (recorded r) ∷ ns) (log_is records)

pub past_given : (old new : Shard) (v : Version) → 0 < old.geometry.k * old.geometry.unit → new ≡ stepped old (Control (Back v)) → old.state.partial ≡ false → holds old.state v ≡ true
    → GivesThePast old new v
past_given old new v positive is running held steps s tells same =
    let g = old.geometry in
    let fit : fits g old.state (Control (Back v)) ≡ true = and_from (not old.state.partial) (holds old.state v) (ap not running) held in
    let law = one_more g positive s (Control (Back v)) (whole_replay g positive steps s tells) (subst (λ t. fits g t (Control (Back v)) ≡ true) same fit) in
    let state : new.state ≡ state_of g (replay_after g s (Control (Back v))) = ap (λ x. x.state) is ∙ ap (λ t. state_after g t (Control (Back v))) same ∙ sym law in
    (ap (λ t. t.objects) state, (ap (λ x. x.state.head) is, state))
