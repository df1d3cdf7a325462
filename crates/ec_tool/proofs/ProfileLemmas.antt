-- What a command comes to if its profile can't be opened.
use Rattle.std.proofs.Common.{◌≡◌, ℕ, List, Result, Ok, Err, IfErr, refl, sym, subst, inl, inr}
use Rattle.std.specs.Result.{IsErrAnd}
use Rattle.ec_model.specs.Codes.{CodeRows}
use Rattle.ec_code.specs.declared.fault.ProfileFault.{ProfileFault}
use Rattle.plugin_reg.specs.Opening.{IsRefused}
use Rattle.profile_texts.specs.declared.reading.RegFault.{RegFault}
use Rattle.profile_texts.specs.declared.reading.RegFault.TheVariants as reg
use Rattle.ec_tool.specs.Outcomes.{Shows}
use Rattle.ec_files.specs.Stops.{status_of, line_of, status_after, stop_of_registry}
use Rattle.ec_tool.specs.Stops.{shown_after, StopsByJob}
use Rattle.ec_files.specs.Jobs.{Job}
use Rattle.ec_files.specs.declared.stop.Stop.{Stop}

by_registry : (profile : List ℕ) (shown : CodeRows → List ℕ) (why : RegFault) → ((f : ProfileFault) → why ≡ reg.Profile f → IsRefused profile f)
    → Shows profile shown (status_of (stop_of_registry why)) (line_of (stop_of_registry why))
by_registry profile shown (reg.Profile f) refused = inr (inl (f, refused f refl, refl, refl))
by_registry profile shown reg.NoMemory refused = inl (refl, refl)

pub shows_none : (profile : List ℕ) (shown : CodeRows → List ℕ) (why : RegFault) (result : Result (List ℕ) Stop)
    → ((f : ProfileFault) → why ≡ reg.Profile f → IsRefused profile f) → IsErrAnd result (λ s. s ≡ stop_of_registry why)
    → Shows profile shown (status_after result) (shown_after result)
shows_none profile shown why (Ok text) refused e = absurd e
shows_none profile shown why (Err stop) refused e = subst (λ (s : Stop). Shows profile shown (status_of s) (line_of s)) (sym e) (by_registry profile shown why refused)

job_by_registry : (job : Job) (why : RegFault) → ((f : ProfileFault) → why ≡ reg.Profile f → IsRefused job.profile f) → StopsByJob job (stop_of_registry why)
job_by_registry job (reg.Profile f) refused = inl (refused f refl)
job_by_registry job reg.NoMemory refused = tt

pub job_stops : {T : Type 0} → (job : Job) (why : RegFault) (result : Result T Stop) → ((f : ProfileFault) → why ≡ reg.Profile f → IsRefused job.profile f)
    → IsErrAnd result (λ s. s ≡ stop_of_registry why) → IfErr result (StopsByJob job)
job_stops {T} job why (Ok done) refused e = absurd e
job_stops {T} job why (Err stop) refused e = subst (λ (s : Stop). StopsByJob job s) (sym e) (job_by_registry job why refused)
