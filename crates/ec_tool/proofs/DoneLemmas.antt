-- What was asked for is done.
use Rattle.std.proofs.Common.{◌≡◌, ◌≤◌, ◌==◌, ◌∷◌, [], ℕ, List, length, ap, sym, subst, ◌∙◌, arith, inl, inr}
use Rattle.std.proofs.lemmas.List.{length-map}
use Rattle.std.proofs.lemmas.List.Splits.{length-slice_split}
use Rattle.std.specs.Fmt.{decimal}
use Rattle.ec_tool.specs.Headline.{Run, Does, IsDone}
use Rattle.ec_tool.specs.Outcomes.{Codes}
use Rattle.ec_files.specs.Outcomes.{EncodeEnds, DecodeEnds}
use Rattle.ec_files.specs.Jobs.{job_of}
use Rattle.ec_tool.specs.Requests.{Asks}
use Rattle.ec_tool.specs.Texts.{EndsWith, OneOf}
use Rattle.ec_tool.specs.Words.{Words, AskDecode}
use Rattle.ec_files.specs.declared.job.Coding.{Coding}
use Rattle.ec_tool.specs.declared.request.Request.{Request}
use Rattle.ec_tool.specs.declared.request.Request.TheVariants.{Wrong, Exists, Validate, Size, Encode, Decode}

pub encode_is_done : (named : List ℕ → Type 0) (request : Request) (coding : Coding) (run : Run) (status : ℕ) (line : List ℕ) → request ≡ Encode coding
    → Codes EncodeEnds (job_of coding) status line run.before run.now run.was run.is → EndsWith status line run.said_before run.said_now run.status
    → IsDone named request run
encode_is_done named request coding run status line is codes ends = record {
  status = status;
  line = line;
  does = subst (λ (r : Request). Does named r status line run) (sym is) codes;
  ends = ends;
}

pub decode_is_done : (named : List ℕ → Type 0) (request : Request) (coding : Coding) (run : Run) (status : ℕ) (line : List ℕ) → request ≡ Decode coding
    → Codes DecodeEnds (job_of coding) status line run.before run.now run.was run.is → EndsWith status line run.said_before run.said_now run.status
    → IsDone named request run
decode_is_done named request coding run status line is codes ends = record {
  status = status;
  line = line;
  does = subst (λ (r : Request). Does named r status line run) (sym is) codes;
  ends = ends;
}

-- a list of positions is not empty
pub some_wanted : (words : Words) (request : Request) (coding : Coding) → request ≡ Decode coding → Asks words request → 1 ≤ length coding.wanted.items
some_wanted words request coding is asks = some (subst (λ (r : Request). Asks words r) is asks) where
  some : AskDecode words (job_of coding) → 1 ≤ length coding.wanted.items
  some ask = omega (arith, ap length ask.wanted.spelled, length-slice_split (λ b. b == 44) ask.want_text, length-map coding.wanted.items decimal)

pub ends_with_5 : (status ended : ℕ) → OneOf ended (status ∷ 9 ∷ 13 ∷ []) → ended ≡ 5 → status ≡ 5
ends_with_5 status ended (inl e) five = sym e ∙ five
ends_with_5 status ended (inr (inl e)) five = omega arith
ends_with_5 status ended (inr (inr (inl e))) five = omega arith
ends_with_5 status ended (inr (inr (inr e))) five = absurd e

does_as : (one other : List ℕ → Type 0) (request : Request) (status : ℕ) (line : List ℕ) (run : Run) → ((name : List ℕ) → one name → other name)
    → ((name : List ℕ) → other name → one name) → Does one request status line run → Does other request status line run
does_as one other Wrong status line run to from does = does
does_as one other (Exists plugin) status line run to from (inl (is, so, shown), leaves) = (inl (to plugin.now is, so, shown), leaves)
does_as one other (Exists plugin) status line run to from (inr (never, so, shown), leaves) = (inr (λ is. never (from plugin.now is), so, shown), leaves)
does_as one other (Validate profile parameters) status line run to from does = does
does_as one other (Size profile size) status line run to from does = does
does_as one other (Encode coding) status line run to from does = does
does_as one other (Decode coding) status line run to from does = does

-- boxes that go by the same names do the same
pub done_as : (one other : List ℕ → Type 0) (request : Request) (run : Run) → ((name : List ℕ) → one name → other name) → ((name : List ℕ) → other name → one name)
    → IsDone one request run → IsDone other request run
done_as one other request run to from done = record {
  status = done.status;
  line = done.line;
  does = does_as one other request done.status done.line run to from done.does;
  ends = done.ends;
}
