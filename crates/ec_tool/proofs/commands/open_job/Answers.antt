use Rattle.std.proofs.Common.{List, ℕ, Err, ap, subst}
use Rattle.plugin_reg.specs.Opening.{IsRefused}
use Rattle.ec_files.specs.Jobs.{job_of}
use Rattle.ec_tool.proofs.ProfileLemmas.{job_stops}
use Rattle.ec_tool.proofs.commands.open_job.Goals as goal

pub returns-in_err-opened-clause-stopped : goal.returns-in_err-opened-clause-stopped
returns-in_err-opened-clause-stopped g c =
    job_stops (job_of c.args.job.now) c.in_err-opened.field-0.0 c.from_residual.result
    (λ f e. subst (λ (t : List ℕ). IsRefused t f) c.as_bytes.ensures.value (c.in_err-opened.ensures.refused f (ap Err e))) c.from_residual.ensures.1
