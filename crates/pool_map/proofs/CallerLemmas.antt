-- What callers need in order to make a map, and to add steps.
use Rattle.std.proofs.Common.{◌≡◌, ◌<◌, ℕ, true, List, [], ◌∷◌, ◌++◌, Option, Some, sym, subst, arith}
use Rattle.std.proofs.lemmas.Bool.Decides.{nat_tests}
use Rattle.ec_code.specs.declared.profile.Profile.{Profile}
use Rattle.ec_words.specs.Intervals.{Interval}
use Rattle.plugin_reg.specs.Canonical.{IsWritable}
use Rattle.plugin_reg.specs.Laws.{ReadProfilesAreWritable}
use Rattle.plugin_reg.specs.Opening.{GivesProfile}
use Rattle.map_model.proofs.LastLemmas.{last_pushed}
use Rattle.map_model.specs.States.{last_of, epoch_of, last_epoch, begun, is_inside, may_join}

-- a profile that a text gives can be written
pub given_is_writable : (text : List ℕ) (p : Profile) → ReadProfilesAreWritable → GivesProfile text p → IsWritable p
given_is_writable text p law gives = law text p gives.read

begun_joins : (epoch up joined : ℕ) → is_inside joined up ≡ true → 0 < joined → may_join epoch joined (Some (begun epoch up)) ≡ true
begun_joins epoch up joined inside some = grind (arith, nat_tests, inside, some)

-- an interval that was begun may go alive with some of the slots that are up
pub begun_may_join : (intervals : List Interval) (epoch up joined : ℕ) → is_inside joined up ≡ true → 0 < joined
    → may_join (last_epoch (intervals ++ begun epoch up ∷ [])) joined (last_of (intervals ++ begun epoch up ∷ [])) ≡ true
begun_may_join intervals epoch up joined inside some =
    subst (λ (o : Option Interval). may_join (epoch_of o) joined o ≡ true) (sym (last_pushed intervals (begun epoch up))) (begun_joins epoch up joined inside some)
