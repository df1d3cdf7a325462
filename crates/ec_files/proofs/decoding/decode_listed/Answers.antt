use Rattle.std.proofs.Common.{◌≡◌, ◌<◌, ◌≤◌, ◌*◌, ◌/◌, Option, List, ℕ, Err, Some, length, slice_index, sym, subst, ◌∙◌, arith, refl}
use Rattle.std.specs.Bool.{⊤}
use Rattle.rig_disk.specs.Faults.{Rose}
use Rattle.ec_model.specs.Codes.{HasPosition}
use Rattle.stripe_map.specs.Chunks.{chunk_of_position}
use Rattle.stripe_map.specs.Decoding.{AllHaveLength}
use Rattle.ec_files.specs.Chunks.{AreBelow, DecideTheData, IsReadPlan}
use Rattle.ec_files.specs.Decoding.{IsAmong, HaveChunks, Fetches, StopsReading, AreWhole}
use Rattle.ec_files.specs.Files.{FileMap, max_file}
use Rattle.ec_files.specs.Joining.{ChecksLengths, WritesMadeOrStops}
use Rattle.ec_files.specs.Outcomes.{DecodeEnds}
use Rattle.ec_files.specs.Jobs.{job_of}
use Rattle.ec_files.specs.Stops.{status_of, line_of}
use Rattle.ec_files.proofs.DecodeLemmas.{decode_undecided, decode_unread, decode_unjoined, decode_written, has_first, by_reason}
use Rattle.ec_files.proofs.JoinLemmas.{lengths_give, made_file, units_of}
use Rattle.ec_files.proofs.PlanLemmas.{all_below_16, part_decides, read_needs}
use Rattle.ec_files.proofs.decoding.decode_listed.Goals as goal

pub returns-in_default-clause-value : goal.returns-in_default-clause-value
returns-in_default-clause-value g c =
    let code = (goal.Code-dyn g c.args.code.now).meaning c.args.code.now.1 in
    let job = job_of c.args.job.now in
    let before = g.F.Files.files c.args.files.now in
    let was = g.F.Files.faults c.args.files.now in
    let same = c.requires.same in
    let below = subst (λ (w : List ℕ). AreBelow code.n w) same c.requires.below in
    let never = subst (λ (w : List ℕ). DecideTheData code w → ⊥) same (c.in_default.ensures.none.0 refl) in
    decode_undecided code job before was below never

pub read_chunks-requires : goal.read_chunks-requires
read_chunks-requires g c =
    let code = (goal.Code-dyn g c.args.code.now).meaning c.args.code.now.1 in
    all_below_16 code.n c.args.listed.now c.requires.few c.requires.below

pub returns-in_err-chunks-clause-value : goal.returns-in_err-chunks-clause-value
returns-in_err-chunks-clause-value g c =
    let code = (goal.Code-dyn g c.args.code.now).meaning c.args.code.now.1 in
    let job = job_of c.args.job.now in
    let before = g.F.Files.files c.args.files.now in
    let was = g.F.Files.faults c.args.files.now in
    let same = c.requires.same in
    let below = subst (λ (w : List ℕ). AreBelow code.n w) same c.requires.below in
    let listed = subst (λ (w : List ℕ). (p : ℕ) → HasPosition c.in-Some.plan.0 p → IsAmong w p) same c.in-Some.ensures.listed in
    let decide = part_decides code job.wanted c.in-Some.plan.0 c.in-Some.ensures.decides listed in
    let stop = c.in_err-chunks.field-0.0 in
    let stops = subst (λ (w : List ℕ). StopsReading before job.name w stop) same c.in_err-chunks.ensures.stopped in
    let ends0 = decode_unread code job before was (g.F.Files.faults c.read_chunks.new.files) stop below decide stops c.in_err-chunks.ensures.failed c.in_err-chunks.ensures.quiet in
    let ends = subst (λ (n : Option FileMap). DecodeEnds code job (status_of stop) (line_of stop) before n was (g.F.Files.faults c.read_chunks.new.files)) (sym c.in_err-chunks.ensures.kept) ends0 in
    by_reason code job before (g.F.Files.files c.read_chunks.new.files) was (g.F.Files.faults c.read_chunks.new.files) c.from_residual.result stop c.from_residual.ensures.1 ends

pub returns-in_err-check_lengths-clause-value : goal.returns-in_err-check_lengths-clause-value
returns-in_err-check_lengths-clause-value g c =
    let code = (goal.Code-dyn g c.args.code.now).meaning c.args.code.now.1 in
    let job = job_of c.args.job.now in
    let before = g.F.Files.files c.args.files.now in
    let was = g.F.Files.faults c.args.files.now in
    let same = c.requires.same in
    let below = subst (λ (w : List ℕ). AreBelow code.n w) same c.requires.below in
    let listed = subst (λ (w : List ℕ). (p : ℕ) → HasPosition c.in-Some.plan.0 p → IsAmong w p) same c.in-Some.ensures.listed in
    let decide = part_decides code job.wanted c.in-Some.plan.0 c.in-Some.ensures.decides listed in
    let chunks = c.in_ok-chunks.chunks in
    let long = c.first_length-long.result in
    let fetched = subst (λ (w : List ℕ). Fetches before job.name w chunks) same c.in_ok-chunks.ensures.value in
    let there = subst (λ (w : List ℕ). HaveChunks w chunks) same c.in_ok-chunks.ensures.there in
    let many = subst (λ (w : List ℕ). 1 ≤ length w) same c.requires.some in
    let first = subst (λ (w : List ℕ). (bytes : List ℕ) → 1 ≤ length w → chunk_of_position chunks (slice_index w 0) ≡ Some bytes → long ≡ length bytes) same c.first_length-long.ensures.value in
    let has = has_first before job chunks long fetched there many (λ bytes e. first bytes many e) in
    let quiet = c.in_ok-chunks.ensures.quiet (λ e. omega arith) in
    let stop = c.in_err-check_lengths.field-0.0 in
    let checks1 = subst (λ (k : ℕ). ChecksLengths {T = ⊤} k c.args.g.unit job.name long chunks (Err stop)) c.requires.same_k c.in_err-check_lengths.ensures in
    let checks = subst (λ (u : ℕ). ChecksLengths {T = ⊤} code.k u job.name long chunks (Err stop)) c.requires.unit checks1 in
    let gives = lengths_give ⊤ code job.unit job.name long c.in-Some.plan.0 chunks stop checks in
    let ends0 = decode_unjoined code job before was (g.F.Files.faults c.read_chunks.new.files) chunks long c.in-Some.plan.0 stop (Err stop) below decide has refl gives quiet in
    let ends = subst (λ (n : Option FileMap). DecodeEnds code job (status_of stop) (line_of stop) before n was (g.F.Files.faults c.read_chunks.new.files)) (sym c.in_ok-chunks.ensures.kept) ends0 in
    by_reason code job before (g.F.Files.files c.read_chunks.new.files) was (g.F.Files.faults c.read_chunks.new.files) c.from_residual-in_err-check_lengths.result stop c.from_residual-in_err-check_lengths.ensures.1 ends

pub write_object-requires-clause-lengths : goal.write_object-requires-clause-lengths
write_object-requires-clause-lengths g c =
    subst (λ (l : ℕ). AllHaveLength c.in_ok-chunks.chunks l) (sym (units_of c.args.g.unit c.first_length-long.result c.in_ok-check_lengths.ensures.0.0)) c.in_ok-check_lengths.ensures.0.1

pub returns-clause-value : goal.returns-clause-value
returns-clause-value g c =
    let code = (goal.Code-dyn g c.args.code.now).meaning c.args.code.now.1 in
    let job = job_of c.args.job.now in
    let before = g.F.Files.files c.args.files.now in
    let was = g.F.Files.faults c.args.files.now in
    let same = c.requires.same in
    let below = subst (λ (w : List ℕ). AreBelow code.n w) same c.requires.below in
    let listed = subst (λ (w : List ℕ). (p : ℕ) → HasPosition c.in-Some.plan.0 p → IsAmong w p) same c.in-Some.ensures.listed in
    let decide = part_decides code job.wanted c.in-Some.plan.0 c.in-Some.ensures.decides listed in
    let chunks = c.in_ok-chunks.chunks in
    let long = c.first_length-long.result in
    let fetched = subst (λ (w : List ℕ). Fetches before job.name w chunks) same c.in_ok-chunks.ensures.value in
    let there = subst (λ (w : List ℕ). HaveChunks w chunks) same c.in_ok-chunks.ensures.there in
    let many = subst (λ (w : List ℕ). 1 ≤ length w) same c.requires.some in
    let first = subst (λ (w : List ℕ). (bytes : List ℕ) → 1 ≤ length w → chunk_of_position chunks (slice_index w 0) ≡ Some bytes → long ≡ length bytes) same c.first_length-long.ensures.value in
    let has = has_first before job chunks long fetched there many (λ bytes e. first bytes many e) in
    let quiet = c.in_ok-chunks.ensures.quiet (λ e. omega arith) in
    let set = c.in-Some.plan.0 in
    let rows = c.data_rows-rows.result in
    let now = g.F.Files.files c.write_object.new.files in
    let is = g.F.Files.faults c.write_object.new.files in
    let mid = g.F.Files.files c.read_chunks.new.files in
    let answer = c.write_object.result in
    let is_code = c.in-Some.ensures.is_code in
    let plan = subst (λ (w : List ℕ). IsReadPlan code w set) same c.in-Some.ensures.some in
    let whole = subst (λ (u : ℕ). AreWhole u long chunks) c.requires.unit c.in_ok-check_lengths.ensures.0 in
    let few = subst (λ (k : ℕ). k * long ≤ max_file) c.requires.same_k c.in_ok-check_lengths.ensures.1 in
    let inside : (p : ℕ) → HasPosition set p → p < code.n = λ p has. let at = listed p has in subst (λ (q : ℕ). q < code.n) at.1.1 (below at.0 0 at.1.0) in
    let some_unit = subst (λ (u : ℕ). 1 ≤ u) c.requires.unit c.args.g.some_bytes in
    let writes1 = subst (λ (k : ℕ). WritesMadeOrStops k c.args.g.unit c.shape.result.n rows chunks (long / c.args.g.unit) mid now job.name answer) c.requires.same_k c.write_object.ensures.value in
    let writes2 = subst (λ (u : ℕ). WritesMadeOrStops code.k u c.shape.result.n rows chunks (long / u) mid now job.name answer) c.requires.unit writes1 in
    let writes3 = subst (λ (n : ℕ). WritesMadeOrStops code.k job.unit n rows chunks (long / job.unit) mid now job.name answer) c.shape.ensures.0.same_n writes2 in
    let writes = subst (λ (b : Option FileMap). WritesMadeOrStops code.k job.unit code.n rows chunks (long / job.unit) b now job.name answer) c.in_ok-chunks.ensures.kept writes3 in
    decode_written code job before now was is rows chunks long set code.n (long / job.unit) answer below decide has plan (read_needs code job.wanted set is_code below plan) listed whole few
    (λ found made. made_file code job.unit set long rows chunks job.wanted found is_code some_unit c.data_rows-rows.ensures listed inside there whole made)
    writes (λ e. subst (λ (w : ℕ). Rose w is) quiet (c.write_object.ensures.failed e)) (λ ne. c.write_object.ensures.quiet ne ∙ quiet)
