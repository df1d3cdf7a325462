-- A run of `decode` gives back what a run of `encode` wrote.
use Rattle.std.proofs.Common.{◌≡◌, ◌≢◌, ◌<◌, ◌≤◌, ◌^◌, [], ◌∷◌, ℕ, List, Option, Some, length, refl, sym, subst, ◌∙◌, arith, inl, inr}
use Rattle.std.specs.FinMap as map
use Rattle.std.specs.List.{All}
use Rattle.std.proofs.lemmas.Bool.{cases_lt}
use Rattle.std.proofs.lemmas.List.Elements.{All-from_get_or, All-head, All-tail}
use Rattle.ec_model.specs.Codes.{CodeRows, IsCode}
use Rattle.ec_model.specs.Stripes.{padded}
use Rattle.ec_code.specs.Refusals.{IsCodeOf}
use Rattle.ec_code.specs.declared.profile.Profile.{Profile}
use Rattle.lrc_layers.specs.Laws.{AreAlike, LayersHaveOneCode}
use Rattle.plugin_reg.specs.Opening.{GivesProfile}
use Rattle.ec_files.specs.Chunks.{AreBelow, Written, after, AreChunkFiles}
use Rattle.ec_files.specs.Files.{FileMap, max_file}
use Rattle.ec_tool.specs.Headline.{Run}
use Rattle.ec_tool.specs.Jobs.{GivesJob}
use Rattle.ec_tool.specs.Laws.{Follows, EncodedRunsComeBack}
use Rattle.ec_files.specs.Laws.{ComesBack}
use Rattle.ec_tool.specs.Outcomes.{Codes}
use Rattle.ec_files.specs.Outcomes.{EncodeEnds, DecodeEnds}
use Rattle.ec_files.specs.Jobs.{job_of, Job}
use Rattle.ec_files.specs.Runs.{Encodes, Decodes}
use Rattle.ec_tool.specs.declared.request.Request.TheVariants.{Decode}
use Rattle.ec_files.proofs.BackLemmas.{come_back}
use Rattle.ec_files.proofs.DecodeLemmas.{decode_fails_5}
use Rattle.ec_tool.proofs.DoneLemmas.{some_wanted}
use Rattle.ec_files.proofs.EncodeLemmas.{encode_fails_5}
use Rattle.ec_tool.proofs.SameCodeLemmas.{codes_one}
use Rattle.ec_files.proofs.SameDecodeLemmas.{decided_or_not}
use Rattle.ec_files.proofs.SameEncodeLemmas.{list_as, below_or_not}
use Rattle.ec_tool.proofs.SameProfileLemmas.{given_once}
use Rattle.ec_tool.proofs.SameRunLemmas.{ended_as, not_both_jobs}

-- what a run of `encode` with status 0 wrote, by the code of its profile
pub record Wrote (job : Job) (bytes : List ℕ) (files : FileMap) (now : Option FileMap) : Type 0 where
  pub p : Profile
  pub code : CodeRows
  pub given : GivesJob job p
  pub of : IsCodeOf p code
  pub below : AreBelow code.n job.wanted
  pub written : List Written
  pub are : AreChunkFiles code job.unit job.name bytes job.wanted written
  pub left : now ≡ Some (after files written)

by_code : (p : Profile) (code : CodeRows) (job : Job) (bytes : List ℕ) (files : FileMap) (status : ℕ) (line : List ℕ) (now : Option FileMap) → GivesJob job p → IsCodeOf p code
    → map.get files job.name ≡ Some bytes → status ≡ 0 → Encodes code job (Some files) status line now → Wrote job bytes files now
by_code p code job bytes files status line now given of there well is = elim (below_or_not code.n job.wanted) [
  | inr never ↦ absurd (omega (arith, well, (is.outside never).0))
  | inl below ↦ elim (cases_lt max_file (length bytes)) [
    | inl long ↦ absurd (omega (arith, well, ((is.files below).too_long bytes there long).0))
    | inr few ↦
        let done = (is.files below).done bytes there few in
        record { p = p; code = code; given = given; of = of; below = below; written = done.2.0; are = done.2.1; left = done.2.2 }
  ]
]

wrote : (job : Job) (bytes : List ℕ) (files : FileMap) (status : ℕ) (line : List ℕ) (now : Option FileMap) (was is : ℕ) → map.get files job.name ≡ Some bytes → status ≡ 0
    → Codes EncodeEnds job status line (Some files) now was is → Wrote job bytes files now
wrote job bytes files status line now was is there well (inl out) = absurd (omega (arith, well, out.0.0))
wrote job bytes files status line now was is there well (inr (inl refused)) = absurd (omega (arith, well, refused.2))
wrote job bytes files status line now was is there well (inr (inr (p, code, given, of, is_code, inl ends))) = by_code p code job bytes files status line now given of there well ends.0
wrote job bytes files status line now was is there well (inr (inr (p, code, given, of, is_code, inr (inl (below, fails))))) =
    absurd (omega (arith, well, encode_fails_5 code job status line (Some files) now was is fails))
wrote job bytes files status line now was is there well (inr (inr (p, code, given, of, is_code, inr (inr out)))) = absurd (omega (arith, well, out.0.0))

-- by codes that are alike the same files of chunks are written
files_as : (one other : CodeRows) (unit : ℕ) (name bytes wanted : List ℕ) (written : List Written) → AreAlike one other → AreBelow one.n wanted
    → AreChunkFiles one unit name bytes wanted written → AreChunkFiles other unit name bytes wanted written
files_as one other unit name bytes [] [] alike below are = tt
files_as one other unit name bytes [] (x ∷ xs) alike below are = absurd are
files_as one other unit name bytes (p ∷ wanted) [] alike below are = absurd are
files_as one other unit name bytes (p ∷ wanted) (x ∷ xs) alike below are = (
  are.0,
  list_as one other unit bytes p x.1 alike (All-head (λ q. q < one.n) p wanted below) are.1,
  files_as one other unit name bytes wanted xs alike (All-tail (λ q. q < one.n) p wanted below) are.2,
)

-- a job that follows is refused or accepted as the one before
job_as : (encoded listed : Job) (p : Profile) → Follows encoded listed → GivesJob encoded p → GivesJob listed p
job_as encoded listed p follows given = record {
  profile = subst (λ (t : List ℕ). GivesProfile t p) (sym follows.profile) given.profile;
  unit = rw follows.unit given.unit;
}

-- the code, the files and the end of a run that gives the file back
pub record IsBack (listed : Job) (bytes : List ℕ) (run : Run) (status : ℕ) (line : List ℕ) : Type 0 where
  pub p : Profile
  pub code : CodeRows
  pub files : FileMap
  pub given : GivesJob listed p
  pub of : IsCodeOf p code
  pub there : run.before ≡ Some files
  pub back : ComesBack listed files (padded code.k listed.unit bytes) status line run.now

back_by : LayersHaveOneCode → (encoded listed : Job) (bytes : List ℕ) (files : FileMap) (now : Option FileMap) (run : Run) (status : ℕ) (line : List ℕ) → (w : Wrote encoded bytes files now)
    → Follows encoded listed → All (λ b. b < 2 ^ 8) bytes → 1 ≤ length listed.wanted → run.before ≡ Some (after files w.written) → status ≢ 6
    → (q : Profile) (other : CodeRows) → GivesJob listed q → IsCodeOf q other → IsCode other → Decodes other listed run.before status line run.now
    → IsBack listed bytes run status line
back_by law encoded listed bytes files now run status line w follows all some there decided q other given of is_code ends = record {
  p = q;
  code = other;
  files = after files w.written;
  given = given;
  of = of;
  there = there;
  back = come_back other bytes encoded.wanted files w.written listed status line run.now is_code (record {
    some_unit = omega (arith, given.unit.0);
    all_bytes = all;
    encoded_below = below;
    are = subst (λ (u : ℕ). AreChunkFiles other u listed.name bytes encoded.wanted w.written) (sym follows.unit)
        (subst (λ (n : List ℕ). AreChunkFiles other encoded.unit n bytes encoded.wanted w.written) (sym follows.name)
        (files_as w.code other encoded.unit encoded.name bytes encoded.wanted w.written alike w.below w.are));
    some_listed = some;
    listed_below = listed_below;
    among = follows.among;
    decide = decided_or_not other listed.wanted (λ never. decided (ends.not_decided listed_below never).0);
  }) (subst (λ (b : Option FileMap). Decodes other listed b status line run.now) there ends);
} where
  same : w.p ≡ q
  same = given_once listed.profile w.p q (job_as encoded listed w.p follows w.given).profile given.profile

  alike : AreAlike w.code other
  alike = codes_one law w.p w.code other w.given.profile.accepted w.of (subst (λ (r : Profile). IsCodeOf r other) (sym same) of)

  below : AreBelow other.n encoded.wanted
  below = subst (λ (n : ℕ). AreBelow n encoded.wanted) alike.positions w.below

  listed_below : AreBelow other.n listed.wanted
  listed_below = All-from_get_or (λ p. p < other.n) listed.wanted 0 (λ i lt.
      let at = follows.among i lt in subst (λ (p : ℕ). p < other.n) at.1.1 (below at.0 0 at.1.0))

back_of : LayersHaveOneCode → (encoded listed : Job) (bytes : List ℕ) (files : FileMap) (now : Option FileMap) (run : Run) (status : ℕ) (line : List ℕ) → (w : Wrote encoded bytes files now)
    → Follows encoded listed → All (λ b. b < 2 ^ 8) bytes → 1 ≤ length listed.wanted → run.before ≡ Some (after files w.written) → status ≢ 5 → status ≢ 6 → status ≢ 13
    → Codes DecodeEnds listed status line run.before run.now run.was run.is → IsBack listed bytes run status line
back_of law encoded listed bytes files now run status line w follows all some there no_fault decided went (inl out) = absurd (went out.0.0)
back_of law encoded listed bytes files now run status line w follows all some there no_fault decided went (inr (inl refused)) =
    absurd (not_both_jobs listed refused.0 w.p refused.1 (job_as encoded listed w.p follows w.given))
back_of law encoded listed bytes files now run status line w follows all some there no_fault decided went (inr (inr (q, other, given, of, is_code, inl ends))) =
    back_by law encoded listed bytes files now run status line w follows all some there decided q other given of is_code ends.0
back_of law encoded listed bytes files now run status line w follows all some there no_fault decided went (inr (inr (q, other, given, of, is_code, inr (inl fails)))) =
    absurd (no_fault (decode_fails_5 other listed status line run.before run.now run.was run.is fails.2))
back_of law encoded listed bytes files now run status line w follows all some there no_fault decided went (inr (inr (q, other, given, of, is_code, inr (inr out)))) = absurd (went out.0.0)

pub runs_come_back : LayersHaveOneCode → (named : List ℕ → Type 0) → EncodedRunsComeBack named
runs_come_back law named words later encoded listed one other files bytes asks asks_later a b follows told there all well left went decided =
    let x = ended_as a.status one.status a.ends.statuses (λ e. omega (arith, e, well)) (λ e. omega (arith, e, well)) in
    let y = ended_as b.status other.status b.ends.statuses went.output went.memory in
    let w = wrote (job_of encoded) bytes files a.status a.line one.now one.was one.is there (sym x ∙ well)
    (subst (λ (f : Option FileMap). Codes EncodeEnds (job_of encoded) a.status a.line f one.now one.was one.is) told a.does) in
    let is = back_of law (job_of encoded) (job_of listed) bytes files one.now other b.status b.line w follows all (some_wanted later (Decode listed) listed refl asks_later)
    (left ∙ w.left) (λ e. went.files (y ∙ e)) (λ e. decided (y ∙ e)) (λ e. went.memory (y ∙ e)) b.does in
    record {
      p = is.p;
      code = is.code;
      files = is.files;
      line = b.line;
      given = is.given.profile;
      of = is.of;
      there = is.there;
      said = b.ends.whole y;
      back = subst (λ (s : ℕ). ComesBack (job_of listed) is.files (padded is.code.k (job_of listed).unit bytes) s b.line other.now) (sym y) is.back;
    }
