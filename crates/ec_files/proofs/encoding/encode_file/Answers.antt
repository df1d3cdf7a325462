use Rattle.std.proofs.Common.{Option, List, ℕ, Ok, Err, sym, subst, ◌∙◌, arith}
use Rattle.rig_disk.specs.Faults.{Rose}
use Rattle.ec_files.specs.Accesses.{ReadsOrStops}
use Rattle.ec_files.specs.Chunks.{AreBelow}
use Rattle.ec_files.specs.Encoding.{WritesChunks}
use Rattle.ec_files.specs.Files.{FileMap}
use Rattle.ec_files.specs.Outcomes.{EncodeEnds}
use Rattle.ec_files.specs.Jobs.{job_of}
use Rattle.ec_files.specs.Stops.{status_of, line_of}
use Rattle.ec_files.proofs.EncodeLemmas.{encode_by_reason, encode_done, encode_unread}
use Rattle.std.proofs.lemmas.Nat.{mul-le}
use Rattle.ec_files.proofs.PaddedLemmas.{whole_stripes, whole_written}
use Rattle.ec_files.proofs.encoding.encode_file.Goals as goal

pub write_chunks-requires-clause-whole : goal.write_chunks-requires-clause-whole
write_chunks-requires-clause-whole g c = whole_stripes c.geometry-g.result.k c.geometry-g.result.unit c.in_ok-bytes.bytes c.deref-3.result.now
    (mul-le 1 1 c.geometry-g.result.k c.geometry-g.result.unit c.geometry-g.result.some_chunks c.geometry-g.result.some_bytes) (c.deref-3.ensures.value ∙ c.in_ok-whole.ensures)

pub returns-clause-value : goal.returns-clause-value
returns-clause-value g c =
    let code = (goal.Code-dyn g c.args.code.now).meaning c.args.code.now.1 in
    let files = g.F.Files.files in
    let job = job_of c.args.job.now in
    let result = c.write_chunks.result in
    let now = files c.write_chunks.new.files in
    let below0 = subst (λ (w : List ℕ). AreBelow c.shape-shape.result.n w) c.deref.ensures.value c.in_ok-wanted.ensures.below in
    let below = subst (λ (n : ℕ). AreBelow n job.wanted) c.shape-shape.ensures.0.same_n below0 in
    let reads = subst (λ (n : List ℕ). ReadsOrStops (files c.args.files.now) n (Ok c.in_ok-bytes.bytes)) c.in_ok-name.ensures.ok c.in_ok-bytes.ensures.value in
    let stripe = c.geometry-g.result in
    let some = mul-le 1 1 stripe.k stripe.unit stripe.some_chunks stripe.some_bytes in
    let same = c.geometry-g.ensures.k ∙ c.shape-shape.ensures.0.same_k in
    let padded_list = whole_written code stripe.k stripe.unit job.name c.in_ok-bytes.bytes c.deref-3.result.now c.deref-2.result.now (files c.read.new.files) now result same some (c.deref-3.ensures.value ∙ c.in_ok-whole.ensures) c.write_chunks.ensures.value in
    let writes2 = subst (λ (u : ℕ). WritesChunks code u job.name c.in_ok-bytes.bytes c.deref-2.result.now (files c.read.new.files) now result) c.geometry-g.ensures.unit padded_list in
    let writes3 = subst (λ (w : List ℕ). WritesChunks code job.unit job.name c.in_ok-bytes.bytes w (files c.read.new.files) now result) (c.deref-2.ensures.value ∙ c.in_ok-wanted.ensures.same ∙ c.deref.ensures.value) writes2 in
    let writes = subst (λ (b : Option FileMap). WritesChunks code job.unit job.name c.in_ok-bytes.bytes job.wanted b now result) c.in_ok-bytes.ensures.kept writes3 in
    let quiet = c.in_ok-bytes.ensures.quiet (λ e. omega arith) in
    encode_done code job (files c.args.files.now) now _ _ c.in_ok-bytes.bytes result below reads writes
    (λ e. subst (λ (was : ℕ). Rose was (g.F.Files.faults c.write_chunks.new.files)) quiet (c.write_chunks.ensures.failed e)) (λ ne. c.write_chunks.ensures.quiet ne ∙ quiet)

pub returns-in_err-bytes-clause-value : goal.returns-in_err-bytes-clause-value
returns-in_err-bytes-clause-value g c =
    let code = (goal.Code-dyn g c.args.code.now).meaning c.args.code.now.1 in
    let files = g.F.Files.files in
    let job = job_of c.args.job.now in
    let before = files c.args.files.now in
    let was = g.F.Files.faults c.args.files.now in
    let is = g.F.Files.faults c.read.new.files in
    let stop = c.in_err-bytes.field-0.0 in
    let below0 = subst (λ (w : List ℕ). AreBelow c.shape-shape.result.n w) c.deref.ensures.value c.in_ok-wanted.ensures.below in
    let below = subst (λ (n : ℕ). AreBelow n job.wanted) c.shape-shape.ensures.0.same_n below0 in
    let reads = subst (λ (n : List ℕ). ReadsOrStops before n (Err stop)) c.in_ok-name.ensures.ok c.in_err-bytes.ensures.value in
    let ends0 = encode_unread code job before was is stop below reads c.in_err-bytes.ensures.failed c.in_err-bytes.ensures.quiet in
    let ends = subst (λ (n : Option FileMap). EncodeEnds code job (status_of stop) (line_of stop) before n was is) (sym c.in_err-bytes.ensures.kept) ends0 in
    encode_by_reason code job before (files c.read.new.files) was is c.from_residual-in_err-bytes.result stop c.from_residual-in_err-bytes.ensures.1 ends
