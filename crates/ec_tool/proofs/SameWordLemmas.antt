-- The same words ask for one thing.
use Rattle.std.proofs.Common.{◌≡◌, ◌∷◌, [], ℕ, List, length, get_or, ap, sym, subst, ◌∙◌, arith}
use Rattle.std.specs.Prelude.{codes}
use Rattle.std.proofs.lemmas.Fmt.{decimal_injective}
use Rattle.ec_words.specs.Numbers.{IsNumberText}
use Rattle.ec_tool.specs.Laws.{WordsAskForOneThing}
use Rattle.ec_files.specs.Jobs.{job_of, Job}
use Rattle.ec_tool.specs.Words.{Words, AskExists, AskValidate, AskSize, AskCoding, IsList, texts_of}
use Rattle.ec_tool.specs.declared.request.Request.TheVariants.{Wrong, Exists, Validate, Size, Encode, Decode}
use Rattle.ec_tool.proofs.WantedLemmas.{same_numbers}
use Rattle.ec_tool.proofs.WordLemmas.{first_word}

-- equal lists that have a first element each
same_head : (x y : List ℕ) (xs ys : List (List ℕ)) → x ∷ xs ≡ y ∷ ys → x ≡ y
same_head x y xs ys e = cc

same_tail : (x y : List ℕ) (xs ys : List (List ℕ)) → x ∷ xs ≡ y ∷ ys → xs ≡ ys
same_tail x y xs ys e = cc

same_number : (text other : List ℕ) (n m : ℕ) → text ≡ other → IsNumberText text n → IsNumberText other m → n ≡ m
same_number text other n m same is also = decimal_injective n m is.0 also.0 (sym is.1 ∙ same ∙ also.1)

same_list : (text other : List ℕ) (xs ys : List ℕ) → text ≡ other → IsList text xs → IsList other ys → xs ≡ ys
same_list text other xs ys same is also = listed (subst (λ (t : List ℕ). IsList t xs) same is) where
  listed : IsList other xs → xs ≡ ys
  listed here = same_numbers xs ys here.small also.small (sym here.spelled ∙ also.spelled)

same_exists : (words : Words) (plugin other : List ℕ) → AskExists words plugin → AskExists words other → plugin ≡ other
same_exists words plugin other one two = same_head plugin other [] [] (same_tail (codes "test-plugin-exists") (codes "test-plugin-exists") _ _ (sym one ∙ two))

same_validate : (words : Words) (profile other : List ℕ) (parameters others : List (List ℕ)) → AskValidate words profile parameters → AskValidate words other others
    → (profile ≡ other) × (parameters ≡ others)
same_validate words profile other parameters others one two =
    let rest = same_tail (codes "validate-profile") (codes "validate-profile") (profile ∷ parameters) (other ∷ others) (sym one.are ∙ two.are) in
    (same_head profile other parameters others rest, same_tail profile other parameters others rest)

same_size : (words : Words) (profile other : List ℕ) (size its_size : ℕ) → AskSize words profile size → AskSize words other its_size → (profile ≡ other) × (size ≡ its_size)
same_size words profile other size its_size one two =
    let rest = same_tail (codes "calc-chunk-size") (codes "calc-chunk-size") (profile ∷ one.text ∷ []) (other ∷ two.text ∷ []) (sym one.are ∙ two.are) in
    let last = same_tail profile other (one.text ∷ []) (two.text ∷ []) rest in
    (same_head profile other (one.text ∷ []) (two.text ∷ []) rest, same_number one.text two.text size its_size (same_head one.text two.text [] [] last) one.spelled two.spelled)

four_same : (command a b c d a' b' c' d' : List ℕ) → command ∷ a ∷ b ∷ c ∷ d ∷ [] ≡ command ∷ a' ∷ b' ∷ c' ∷ d' ∷ [] → (a ≡ a') × (b ≡ b') × (c ≡ c') × (d ≡ d')
four_same command a b c d a' b' c' d' e = (same_head a a' _ _ one, same_head b b' _ _ two, same_head c c' _ _ three, same_head d d' _ _ four) where
  one : a ∷ b ∷ c ∷ d ∷ [] ≡ a' ∷ b' ∷ c' ∷ d' ∷ []
  one = same_tail command command _ _ e

  two : b ∷ c ∷ d ∷ [] ≡ b' ∷ c' ∷ d' ∷ []
  two = same_tail a a' _ _ one

  three : c ∷ d ∷ [] ≡ c' ∷ d' ∷ []
  three = same_tail b b' _ _ two

  four : d ∷ [] ≡ d' ∷ []
  four = same_tail c c' _ _ three

same_job : (command : List ℕ) (words : Words) (job other : Job) → AskCoding command words job → AskCoding command words other → job ≡ other
same_job command words job other one two =
    let texts = four_same command job.profile one.unit_text one.want_text job.name other.profile two.unit_text two.want_text other.name (sym one.are ∙ two.are) in
    let unit = same_number one.unit_text two.unit_text job.unit other.unit texts.1 one.unit two.unit in
    let wanted = same_list one.want_text two.want_text job.wanted other.wanted texts.2 one.wanted two.wanted in
    λ i. record { profile = texts.0 i; unit = unit i; wanted = wanted i; name = texts.3 i }

pub one_thing : WordsAskForOneThing
one_thing words Wrong Wrong one other = tt
one_thing words Wrong (Exists b) one other = absurd (one.exists b.now other)
one_thing words Wrong (Validate b xsb) one other = absurd (one.validate b.now (texts_of xsb.now) other)
one_thing words Wrong (Size b sb) one other = absurd (one.size b.now sb other)
one_thing words Wrong (Encode b) one other = absurd (one.encode (job_of b) other)
one_thing words Wrong (Decode b) one other = absurd (one.decode (job_of b) other)
one_thing words (Exists a) Wrong one other = absurd (other.exists a.now one)
one_thing words (Exists a) (Exists b) one other = same_exists words a.now b.now one other
one_thing words (Exists a) (Validate b xsb) one other = let e = ap length (first_word words _ _ _ _ one other.are) in absurd (omega (arith, e))
one_thing words (Exists a) (Size b sb) one other = let e = ap length (first_word words _ _ _ _ one other.are) in absurd (omega (arith, e))
one_thing words (Exists a) (Encode b) one other = let e = ap length (first_word words _ _ _ _ one other.are) in absurd (omega (arith, e))
one_thing words (Exists a) (Decode b) one other = let e = ap length (first_word words _ _ _ _ one other.are) in absurd (omega (arith, e))
one_thing words (Validate a xsa) Wrong one other = absurd (other.validate a.now (texts_of xsa.now) one)
one_thing words (Validate a xsa) (Exists b) one other = let e = ap length (first_word words _ _ _ _ one.are other) in absurd (omega (arith, e))
one_thing words (Validate a xsa) (Validate b xsb) one other = same_validate words a.now b.now (texts_of xsa.now) (texts_of xsb.now) one other
one_thing words (Validate a xsa) (Size b sb) one other = let e = ap length (first_word words _ _ _ _ one.are other.are) in absurd (omega (arith, e))
one_thing words (Validate a xsa) (Encode b) one other = let e = ap length (first_word words _ _ _ _ one.are other.are) in absurd (omega (arith, e))
one_thing words (Validate a xsa) (Decode b) one other = let e = ap length (first_word words _ _ _ _ one.are other.are) in absurd (omega (arith, e))
one_thing words (Size a sa) Wrong one other = absurd (other.size a.now sa one)
one_thing words (Size a sa) (Exists b) one other = let e = ap length (first_word words _ _ _ _ one.are other) in absurd (omega (arith, e))
one_thing words (Size a sa) (Validate b xsb) one other = let e = ap length (first_word words _ _ _ _ one.are other.are) in absurd (omega (arith, e))
one_thing words (Size a sa) (Size b sb) one other = same_size words a.now b.now sa sb one other
one_thing words (Size a sa) (Encode b) one other = let e = ap length (first_word words _ _ _ _ one.are other.are) in absurd (omega (arith, e))
one_thing words (Size a sa) (Decode b) one other = let e = ap length (first_word words _ _ _ _ one.are other.are) in absurd (omega (arith, e))
one_thing words (Encode a) Wrong one other = absurd (other.encode (job_of a) one)
one_thing words (Encode a) (Exists b) one other = let e = ap length (first_word words _ _ _ _ one.are other) in absurd (omega (arith, e))
one_thing words (Encode a) (Validate b xsb) one other = let e = ap length (first_word words _ _ _ _ one.are other.are) in absurd (omega (arith, e))
one_thing words (Encode a) (Size b sb) one other = let e = ap length (first_word words _ _ _ _ one.are other.are) in absurd (omega (arith, e))
one_thing words (Encode a) (Encode b) one other = same_job (codes "encode") words (job_of a) (job_of b) one other
one_thing words (Encode a) (Decode b) one other = let e = ap (λ text. get_or text 0 0) (first_word words _ _ _ _ one.are other.are) in absurd (omega (arith, e))
one_thing words (Decode a) Wrong one other = absurd (other.decode (job_of a) one)
one_thing words (Decode a) (Exists b) one other = let e = ap length (first_word words _ _ _ _ one.are other) in absurd (omega (arith, e))
one_thing words (Decode a) (Validate b xsb) one other = let e = ap length (first_word words _ _ _ _ one.are other.are) in absurd (omega (arith, e))
one_thing words (Decode a) (Size b sb) one other = let e = ap length (first_word words _ _ _ _ one.are other.are) in absurd (omega (arith, e))
one_thing words (Decode a) (Encode b) one other = let e = ap (λ text. get_or text 0 0) (first_word words _ _ _ _ one.are other.are) in absurd (omega (arith, e))
one_thing words (Decode a) (Decode b) one other = same_job (codes "decode") words (job_of a) (job_of b) one other
