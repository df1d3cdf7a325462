use Rattle.std.proofs.Common.{◌≡◌, ◌⊎◌, List, ℕ, subst}
use Rattle.ec_files.specs.Chunks.{AreBelow}
use Rattle.ec_files.specs.Jobs.{job_of}
use Rattle.ec_files.specs.declared.stop.Stop.TheVariants.{Usage, NoMemory}
use Rattle.ec_files.proofs.DecodeLemmas.{decode_outside, by_reason}
use Rattle.ec_files.proofs.decoding.decode_file.Goals as goal

pub returns-in_err-listed-clause-value : goal.returns-in_err-listed-clause-value
returns-in_err-listed-clause-value g c =
    let code = (goal.Code-dyn g c.args.code.now).meaning c.args.code.now.1 in
    let job = job_of c.args.job.now in
    let before = g.F.Files.files c.args.files.now in
    let was = g.F.Files.faults c.args.files.now in
    let stop = c.in_err-listed.field-0.0 in
    let wanted = subst (λ (w : List ℕ). (stop ≡ NoMemory) ⊎ ((stop ≡ Usage) × (AreBelow c.shape-shape.result.n w → ⊥))) c.deref.ensures.value c.in_err-listed.ensures.outside in
    let outside = subst (λ (n : ℕ). (stop ≡ NoMemory) ⊎ ((stop ≡ Usage) × (AreBelow n job.wanted → ⊥))) c.shape-shape.ensures.0.same_n wanted in
    by_reason code job before before was was c.from_residual.result stop c.from_residual.ensures.1 (decode_outside code job before was stop outside)
