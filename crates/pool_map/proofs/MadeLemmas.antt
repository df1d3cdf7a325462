-- A map that was made is held.
use Rattle.std.proofs.Common.{◌≡◌, ◌∷◌, [], ℕ, List, Option, sym, subst}
use Rattle.ec_code.specs.declared.profile.Profile.{Profile as Plain}
use Rattle.ec_words.specs.Intervals.{Interval}
use Rattle.ec_words.specs.Readers.{IsWord}
use Rattle.rig_disk.specs.Disk.{Image}
use Rattle.slot_journal.specs.Journal.{Holds, gate_of}
use Rattle.slot_journal.specs.declared.journal.Journal.{Journal}
use Rattle.map_model.specs.States.{new_state, with_intervals}
use Rattle.pool_map.specs.Maps.{PoolImage, map_format, map_head, IsMapOf}
use Rattle.pool_map.specs.Pool.{HoldsMap, new_map, first_interval}
use Rattle.pool_map.proofs.TextLemmas.{text_gives}

-- the map of a new pool with these intervals
abbrev pub map_with : Plain → ℕ → List Interval → PoolImage
map_with p n intervals = record { profile = p; n = n; state = with_intervals (new_state map_format) intervals }

pub made_held : (reads : ℕ → ℕ → Option (List ℕ)) (images : Image → List ℕ → Type 0) (journal : Journal) (own : Plain) (k n unit : ℕ) (head body text : List ℕ)
    (intervals : List Interval) → intervals ≡ first_interval n ∷ [] → IsWord unit → head ≡ map_head k n unit → IsMapOf k unit map_format (body ∷ []) (new_map own n)
    → Holds reads images journal head (body ∷ []) text → HoldsMap reads images journal (map_with own n intervals) text
made_held reads images journal own k n unit head body text intervals first word is gives holds =
    let m = map_with own n intervals in
    let held : Holds reads images journal (map_head k n unit) (body ∷ []) text = subst (λ (h : List ℕ). Holds reads images journal h (body ∷ []) text) is holds in
    let own_gives : IsMapOf k unit map_format (body ∷ []) m =
    subst (λ (ivs : List Interval). IsMapOf k unit map_format (body ∷ []) (map_with own n ivs)) (sym first) gives in
    record { k = k; unit = unit; word = word; bodies = body ∷ []; holds = held; gives = text_gives k n unit (body ∷ []) (gate_of journal) text held.is_text m own_gives }
