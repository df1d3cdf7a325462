-- A run is one function of the words and the files.
use Rattle.std.proofs.Common.{◌≡◌, ◌≢◌, ◌≤◌, [], ◌∷◌, ℕ, List, Option, Some, length, refl, ap, sym, subst, ◌∙◌, arith, inl, inr}
use Rattle.std.specs.Io.KnownBytes.{Appends}
use Rattle.ec_model.specs.Codes.{CodeRows, IsCode}
use Rattle.ec_code.specs.Refusals.{IsCodeOf}
use Rattle.ec_code.specs.declared.fault.ProfileFault.{ProfileFault}
use Rattle.ec_code.specs.declared.profile.Profile.{Profile}
use Rattle.lrc_layers.specs.Laws.{AreAlike, LayersHaveOneCode}
use Rattle.plugin_reg.specs.Opening.{fault_line}
use Rattle.read_plan.specs.Laws.{LeastPlanIsOne}
use Rattle.stripe_map.specs.Sizes.{chunk_size_of}
use Rattle.ec_files.specs.Files.{FileMap}
use Rattle.ec_tool.specs.Headline.{Run, Does}
use Rattle.ec_tool.specs.Jobs.{IsRefusedJob, GivesJob}
use Rattle.ec_tool.specs.Laws.{OutcomesAreOne}
use Rattle.ec_tool.specs.Outcomes.{Shows, Codes}
use Rattle.ec_files.specs.Outcomes.{EncodeEnds, DecodeEnds}
use Rattle.ec_files.specs.Jobs.{job_of, Job}
use Rattle.ec_tool.specs.Requests.{Asks}
use Rattle.ec_files.specs.Runs.{Encodes, Decodes}
use Rattle.ec_tool.specs.Parameters.{parameters_text, size_text}
use Rattle.ec_tool.specs.Sameness.{AskTheSame}
use Rattle.ec_files.specs.Laws.{HoldBytes}
use Rattle.ec_tool.specs.Texts.{OneOf, number_line}
use Rattle.ec_tool.specs.Words.{Words, texts_of}
use Rattle.ec_tool.specs.declared.request.Request.{Request}
use Rattle.ec_tool.specs.declared.request.Request.TheVariants.{Wrong, Exists, Validate, Size, Encode, Decode}
use Rattle.ec_files.proofs.DecodeLemmas.{decode_fails_5}
use Rattle.ec_tool.proofs.DoneLemmas.{some_wanted}
use Rattle.ec_files.proofs.EncodeLemmas.{encode_fails_5}
use Rattle.ec_tool.proofs.SameCodeLemmas.{codes_one}
use Rattle.ec_files.proofs.SameDecodeLemmas.{decodes_one}
use Rattle.ec_files.proofs.SameEncodeLemmas.{Same, encodes_one}
use Rattle.ec_tool.proofs.SameProfileLemmas.{refused_once, given_once, not_both_ways}
use Rattle.ec_tool.proofs.SameWordLemmas.{one_thing}

-- ---- profiles

shows_one : LayersHaveOneCode → (profile : List ℕ) (shown : CodeRows → List ℕ) (status : ℕ) (line : List ℕ) (its_status : ℕ) (its_line : List ℕ)
    → ((one other : CodeRows) → AreAlike one other → shown one ≡ shown other) → status ≢ 13 → its_status ≢ 13
    → Shows profile shown status line → Shows profile shown its_status its_line → (status ≡ its_status) × (line ≡ its_line)
shows_one law profile shown status line its_status its_line alike went also (inl out) b = absurd (went out.0)
shows_one law profile shown status line its_status its_line alike went also (inr a) (inl out) = absurd (also out.0)
shows_one law profile shown status line its_status its_line alike went also (inr (inl (f, refused, s, l))) (inr (inl (g, too, t, m))) =
    (s ∙ sym t, l ∙ ap fault_line (refused_once profile f g refused too) ∙ sym m)
shows_one law profile shown status line its_status its_line alike went also (inr (inl (f, refused, s, l))) (inr (inr b)) = absurd (not_both_ways profile f b.0 refused b.2)
shows_one law profile shown status line its_status its_line alike went also (inr (inr a)) (inr (inl (f, refused, t, m))) = absurd (not_both_ways profile f a.0 refused a.2)
shows_one law profile shown status line its_status its_line alike went also (inr (inr (p, code, given, of, s, l))) (inr (inr (q, other, too, its, t, m))) =
    let same = given_once profile q p too given in
    (s ∙ sym t, l ∙ alike code other (codes_one law p code other given.accepted of (subst (λ (r : Profile). IsCodeOf r other) same its)) ∙ sym m)

parameters_alike : (texts : List (List ℕ)) (one other : CodeRows) → AreAlike one other → parameters_text one texts ≡ parameters_text other texts
parameters_alike texts one other alike =
    λ i. parameters_text (record { k = alike.data_chunks i; n = alike.positions i; lead = alike.divisor i; rows = one.rows; places = one.places }) texts

size_alike : (size : ℕ) (one other : CodeRows) → AreAlike one other → size_text one size ≡ size_text other size
size_alike size one other alike = ap (λ (lead : ℕ). number_line (chunk_size_of lead size)) alike.divisor

-- ---- jobs

refused_job_once : (job : Job) (f g : ProfileFault) → IsRefusedJob job f → IsRefusedJob job g → f ≡ g
refused_job_once job f g (inl one) (inl other) = refused_once job.profile f g one other
refused_job_once job f g (inl one) (inr other) = absurd (not_both_ways job.profile f other.0 one other.1)
refused_job_once job f g (inr one) (inl other) = absurd (not_both_ways job.profile g one.0 other one.1)
refused_job_once job f g (inr one) (inr other) = one.3 ∙ sym other.3

pub not_both_jobs : (job : Job) (f : ProfileFault) (p : Profile) → IsRefusedJob job f → GivesJob job p → ⊥
not_both_jobs job f p (inl refused) given = not_both_ways job.profile f p refused given.profile
not_both_jobs job f p (inr refused) given = refused.2 given.unit

-- what a job comes to
abbrev Ending : Type 1
Ending = CodeRows → Job → ℕ → List ℕ → Option FileMap → Option FileMap → ℕ → ℕ → Type 0

-- by codes that are alike a job comes to one thing
abbrev ComesToOne : Ending → Job → Option FileMap → ℕ → ℕ → Type 0
ComesToOne Ends job before status its_status =
    (one other : CodeRows) (line its_line : List ℕ) (now its_now : Option FileMap) (was is its_was its_is : ℕ) → IsCode one → AreAlike one other → 1 ≤ job.unit
    → Ends one job status line before now was is → Ends other job its_status its_line before its_now its_was its_is → Same status line now its_status its_line its_now

jobs_one : LayersHaveOneCode → (Ends : Ending) (job : Job) (before : Option FileMap) (status : ℕ) (line : List ℕ) (now : Option FileMap) (was is its_status : ℕ) (its_line : List ℕ)
    (its_now : Option FileMap) (its_was its_is : ℕ) → ComesToOne Ends job before status its_status → status ≢ 13 → its_status ≢ 13
    → Codes Ends job status line before now was is → Codes Ends job its_status its_line before its_now its_was its_is → Same status line now its_status its_line its_now
jobs_one law Ends job before status line now was is its_status its_line its_now its_was its_is one went also (inl out) b = absurd (went out.0.0)
jobs_one law Ends job before status line now was is its_status its_line its_now its_was its_is one went also (inr a) (inl out) = absurd (also out.0.0)
jobs_one law Ends job before status line now was is its_status its_line its_now its_was its_is one went also (inr (inl (f, refused, s, l, kept, a))) (inr (inl (g, too, t, m, its_kept, b))) =
    (s ∙ sym t, l ∙ ap fault_line (refused_job_once job f g refused too) ∙ sym m, kept ∙ sym its_kept)
jobs_one law Ends job before status line now was is its_status its_line its_now its_was its_is one went also (inr (inl a)) (inr (inr b)) =
    absurd (not_both_jobs job a.0 b.0 a.1 b.2)
jobs_one law Ends job before status line now was is its_status its_line its_now its_was its_is one went also (inr (inr a)) (inr (inl b)) =
    absurd (not_both_jobs job b.0 a.0 b.1 a.2)
jobs_one law Ends job before status line now was is its_status its_line its_now its_was its_is one went also (inr (inr (p, code, given, of, is_code, ends))) (inr (inr (q, other, too, its, its_code, its_ends))) =
    let same = given_once job.profile q p too.profile given.profile in
    let alike = codes_one law p code other given.profile.accepted of (subst (λ (r : Profile). IsCodeOf r other) same its) in
    one code other line its_line now its_now was is its_was its_is is_code alike (omega (arith, given.unit.0)) ends its_ends

encode_ends_one : (job : Job) (files : FileMap) (status its_status : ℕ) → status ≢ 5 → status ≢ 13 → its_status ≢ 5 → its_status ≢ 13
    → ComesToOne EncodeEnds job (Some files) status its_status
encode_ends_one job files status its_status no_fault went its_no_fault also one other line its_line now its_now was is its_was its_is is_code alike unit a b =
    encodes_one one other job files status line now its_status its_line its_now alike unit (ended one status line now was is no_fault went a) (ended other its_status its_line its_now its_was its_is its_no_fault also b)
  where
    ended : (code : CodeRows) (s : ℕ) (l : List ℕ) (n : Option FileMap) (w i : ℕ) → s ≢ 5 → s ≢ 13 → EncodeEnds code job s l (Some files) n w i → Encodes code job (Some files) s l n
    ended code s l n w i not_5 not_13 (inl e) = e.0
    ended code s l n w i not_5 not_13 (inr (inl e)) = absurd (not_5 (encode_fails_5 code job s l (Some files) n w i e.1))
    ended code s l n w i not_5 not_13 (inr (inr e)) = absurd (not_13 e.0.0)

decode_ends_one : LeastPlanIsOne → (job : Job) (files : FileMap) (status its_status : ℕ) → 1 ≤ length job.wanted → HoldBytes files → status ≢ 5 → status ≢ 13 → its_status ≢ 5 → its_status ≢ 13
    → ComesToOne DecodeEnds job (Some files) status its_status
decode_ends_one law job files status its_status some hold no_fault went its_no_fault also one other line its_line now its_now was is its_was its_is is_code alike unit a b =
    decodes_one law one other job files status line now its_status its_line its_now is_code alike some hold (ended one status line now was is no_fault went a)
    (ended other its_status its_line its_now its_was its_is its_no_fault also b)
  where
    ended : (code : CodeRows) (s : ℕ) (l : List ℕ) (n : Option FileMap) (w i : ℕ) → s ≢ 5 → s ≢ 13 → DecodeEnds code job s l (Some files) n w i → Decodes code job (Some files) s l n
    ended code s l n w i not_5 not_13 (inl e) = e.0
    ended code s l n w i not_5 not_13 (inr (inl e)) = absurd (not_5 (decode_fails_5 code job s l (Some files) n w i e.2))
    ended code s l n w i not_5 not_13 (inr (inr e)) = absurd (not_13 e.0.0)

-- ---- runs

-- what two runs did, with the files and their faults before and after
pub record AreRuns (files : FileMap) (status its_status : ℕ) (one other : Run) : Type 0 where
  pub told : one.before ≡ Some files
  pub its_told : other.before ≡ Some files
  pub not_5 : status ≢ 5
  pub not_13 : status ≢ 13
  pub its_not_5 : its_status ≢ 5
  pub its_not_13 : its_status ≢ 13

kept_both : (files : FileMap) (one other : Run) → one.before ≡ Some files → other.before ≡ Some files → one.now ≡ one.before → other.now ≡ other.before → one.now ≡ other.now
kept_both files one other told its_told kept its_kept = kept ∙ told ∙ sym its_told ∙ sym its_kept

does_one : LayersHaveOneCode → LeastPlanIsOne → (named : List ℕ → Type 0) (files : FileMap) (words : Words) (request again : Request) (status : ℕ) (line : List ℕ) (one : Run)
    (its_status : ℕ) (its_line : List ℕ) (other : Run) → HoldBytes files → Asks words request → AskTheSame request again → AreRuns files status its_status one other
    → Does named request status line one → Does named again its_status its_line other → Same status line one.now its_status its_line other.now
does_one law least named files words Wrong Wrong status line one its_status its_line other hold asks same runs a b =
    (a.0 ∙ sym b.0, a.1 ∙ sym b.1, kept_both files one other runs.told runs.its_told a.2.0 b.2.0)
does_one law least named files words (Exists p) (Exists q) status line one its_status its_line other hold asks same runs (inl a, kept) (inl b, its_kept) =
    (a.1 ∙ sym b.1, a.2 ∙ sym b.2, kept_both files one other runs.told runs.its_told kept.0 its_kept.0)
does_one law least named files words (Exists p) (Exists q) status line one its_status its_line other hold asks same runs (inl a, kept) (inr b, its_kept) = absurd (b.0 (subst named same a.0))
does_one law least named files words (Exists p) (Exists q) status line one its_status its_line other hold asks same runs (inr a, kept) (inl b, its_kept) = absurd (a.0 (subst named (sym same) b.0))
does_one law least named files words (Exists p) (Exists q) status line one its_status its_line other hold asks same runs (inr a, kept) (inr b, its_kept) =
    (a.1 ∙ sym b.1, a.2 ∙ sym b.2, kept_both files one other runs.told runs.its_told kept.0 its_kept.0)
does_one law least named files words (Validate p xs) (Validate q ys) status line one its_status its_line other hold asks same runs a b =
    let shown = λ (texts : List (List ℕ)) (code : CodeRows). parameters_text code texts in
    let b1 = subst (λ (t : List ℕ). Shows t (shown (texts_of ys.now)) its_status its_line) (sym same.0) b.0 in
    let b2 = subst (λ (texts : List (List ℕ)). Shows p.now (shown texts) its_status its_line) (sym same.1) b1 in
    let ends = shows_one law p.now (shown (texts_of xs.now)) status line its_status its_line (parameters_alike (texts_of xs.now)) runs.not_13 runs.its_not_13 a.0 b2 in
    (ends.0, ends.1, kept_both files one other runs.told runs.its_told a.1.0 b.1.0)
does_one law least named files words (Size p s) (Size q t) status line one its_status its_line other hold asks same runs a b =
    let shown = λ (size : ℕ) (code : CodeRows). size_text code size in
    let b1 = subst (λ (x : List ℕ). Shows x (shown t) its_status its_line) (sym same.0) b.0 in
    let b2 = subst (λ (size : ℕ). Shows p.now (shown size) its_status its_line) (sym same.1) b1 in
    let ends = shows_one law p.now (shown s) status line its_status its_line (size_alike s) runs.not_13 runs.its_not_13 a.0 b2 in
    (ends.0, ends.1, kept_both files one other runs.told runs.its_told a.1.0 b.1.0)
does_one law least named files words (Encode c) (Encode d) status line one its_status its_line other hold asks same runs a b =
    let a1 = subst (λ (x : Option FileMap). Codes EncodeEnds (job_of c) status line x one.now one.was one.is) runs.told a in
    let b1 = subst (λ (x : Option FileMap). Codes EncodeEnds (job_of d) its_status its_line x other.now other.was other.is) runs.its_told b in
    let b2 = subst (λ (j : Job). Codes EncodeEnds j its_status its_line (Some files) other.now other.was other.is) (sym same) b1 in
    jobs_one law EncodeEnds (job_of c) (Some files) status line one.now one.was one.is its_status its_line other.now other.was other.is
    (encode_ends_one (job_of c) files status its_status runs.not_5 runs.not_13 runs.its_not_5 runs.its_not_13) runs.not_13 runs.its_not_13 a1 b2
does_one law least named files words (Decode c) (Decode d) status line one its_status its_line other hold asks same runs a b =
    let a1 = subst (λ (x : Option FileMap). Codes DecodeEnds (job_of c) status line x one.now one.was one.is) runs.told a in
    let b1 = subst (λ (x : Option FileMap). Codes DecodeEnds (job_of d) its_status its_line x other.now other.was other.is) runs.its_told b in
    let b2 = subst (λ (j : Job). Codes DecodeEnds j its_status its_line (Some files) other.now other.was other.is) (sym same) b1 in
    jobs_one law DecodeEnds (job_of c) (Some files) status line one.now one.was one.is its_status its_line other.now other.was other.is
    (decode_ends_one least (job_of c) files status its_status (some_wanted words (Decode c) c refl asks) hold runs.not_5 runs.not_13 runs.its_not_5 runs.its_not_13) runs.not_13 runs.its_not_13 a1 b2
does_one law least named files words Wrong (Exists b) status line one its_status its_line other hold asks same runs x y = absurd same
does_one law least named files words Wrong (Validate b xsb) status line one its_status its_line other hold asks same runs x y = absurd same
does_one law least named files words Wrong (Size b sb) status line one its_status its_line other hold asks same runs x y = absurd same
does_one law least named files words Wrong (Encode b) status line one its_status its_line other hold asks same runs x y = absurd same
does_one law least named files words Wrong (Decode b) status line one its_status its_line other hold asks same runs x y = absurd same
does_one law least named files words (Exists a) Wrong status line one its_status its_line other hold asks same runs x y = absurd same
does_one law least named files words (Exists a) (Validate b xsb) status line one its_status its_line other hold asks same runs x y = absurd same
does_one law least named files words (Exists a) (Size b sb) status line one its_status its_line other hold asks same runs x y = absurd same
does_one law least named files words (Exists a) (Encode b) status line one its_status its_line other hold asks same runs x y = absurd same
does_one law least named files words (Exists a) (Decode b) status line one its_status its_line other hold asks same runs x y = absurd same
does_one law least named files words (Validate a xsa) Wrong status line one its_status its_line other hold asks same runs x y = absurd same
does_one law least named files words (Validate a xsa) (Exists b) status line one its_status its_line other hold asks same runs x y = absurd same
does_one law least named files words (Validate a xsa) (Size b sb) status line one its_status its_line other hold asks same runs x y = absurd same
does_one law least named files words (Validate a xsa) (Encode b) status line one its_status its_line other hold asks same runs x y = absurd same
does_one law least named files words (Validate a xsa) (Decode b) status line one its_status its_line other hold asks same runs x y = absurd same
does_one law least named files words (Size a sa) Wrong status line one its_status its_line other hold asks same runs x y = absurd same
does_one law least named files words (Size a sa) (Exists b) status line one its_status its_line other hold asks same runs x y = absurd same
does_one law least named files words (Size a sa) (Validate b xsb) status line one its_status its_line other hold asks same runs x y = absurd same
does_one law least named files words (Size a sa) (Encode b) status line one its_status its_line other hold asks same runs x y = absurd same
does_one law least named files words (Size a sa) (Decode b) status line one its_status its_line other hold asks same runs x y = absurd same
does_one law least named files words (Encode a) Wrong status line one its_status its_line other hold asks same runs x y = absurd same
does_one law least named files words (Encode a) (Exists b) status line one its_status its_line other hold asks same runs x y = absurd same
does_one law least named files words (Encode a) (Validate b xsb) status line one its_status its_line other hold asks same runs x y = absurd same
does_one law least named files words (Encode a) (Size b sb) status line one its_status its_line other hold asks same runs x y = absurd same
does_one law least named files words (Encode a) (Decode b) status line one its_status its_line other hold asks same runs x y = absurd same
does_one law least named files words (Decode a) Wrong status line one its_status its_line other hold asks same runs x y = absurd same
does_one law least named files words (Decode a) (Exists b) status line one its_status its_line other hold asks same runs x y = absurd same
does_one law least named files words (Decode a) (Validate b xsb) status line one its_status its_line other hold asks same runs x y = absurd same
does_one law least named files words (Decode a) (Size b sb) status line one its_status its_line other hold asks same runs x y = absurd same
does_one law least named files words (Decode a) (Encode b) status line one its_status its_line other hold asks same runs x y = absurd same

pub ended_as : (status ended : ℕ) → OneOf ended (status ∷ 9 ∷ 13 ∷ []) → ended ≢ 9 → ended ≢ 13 → ended ≡ status
ended_as status ended (inl e) not_9 not_13 = e
ended_as status ended (inr (inl e)) not_9 not_13 = absurd (not_9 e)
ended_as status ended (inr (inr (inl e))) not_9 not_13 = absurd (not_13 e)
ended_as status ended (inr (inr (inr e))) not_9 not_13 = absurd e

pub outcomes_one : LayersHaveOneCode → LeastPlanIsOne → (named : List ℕ → Type 0) → OutcomesAreOne named
outcomes_one law least named words request again one other files asks asks_too a b told its_told hold went also =
    let x = ended_as a.status one.status a.ends.statuses went.output went.memory in
    let y = ended_as b.status other.status b.ends.statuses also.output also.memory in
    let same = does_one law least named files words request again a.status a.line one b.status b.line other hold asks (one_thing words request again asks asks_too)
    (record {
      told = told;
      its_told = its_told;
      not_5 = λ e. went.files (x ∙ e);
      not_13 = λ e. went.memory (x ∙ e);
      its_not_5 = λ e. also.files (y ∙ e);
      its_not_13 = λ e. also.memory (y ∙ e);
    }) a.does b.does in
    record {
      status = x ∙ same.0 ∙ sym y;
      line = a.line;
      said = a.ends.whole x;
      said_too = subst (λ (l : List ℕ). Appends other.said_before other.said_now l) (sym same.1) (b.ends.whole y);
      files = same.2;
    }
