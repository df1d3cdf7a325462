-- The words of a command line.
use Rattle.std.proofs.Common.{◌≡◌, ℕ, ◌<◌, Bool, true, false, true≢false, Option, None, IfNone, List, [], ◌∷◌, length, get_or, refl, sym, subst, ap, ◌∙◌, arith}
use Rattle.std.specs.Prelude.{◌↔◌, IsTrue, String, codes, string_bytes}
use Rattle.std.specs.Bool.{MatchBool}
use Rattle.std.specs.List.{All, AllWithin, HoldsAt}
use Rattle.std.specs.declared.alloc.Global.{Global}
use Rattle.std.proofs.lemmas.Iterator.Search.{true_from_All}
use Rattle.std.proofs.lemmas.List.{get_or-map, length-map}
use Rattle.std.proofs.lemmas.List.Elements.{All-map, All-from_all_within}
use Rattle.ec_tool.specs.Words.{AreWrong, AskCoding, IsParameter, Words, texts_of}
use Rattle.ec_files.specs.Jobs.{Job}

-- a word is a parameter
abbrev pub Is : String Global → Type 0
Is word = IsParameter (string_bytes word)

abbrev pub IsNot : String Global → Type 0
IsNot word = IsParameter (string_bytes word) → ⊥

pub parameters_are_told : (r : Bool) (words : Words) → MatchBool r (AllWithin Is words 0 (length words)) ((k : ℕ) × (k < length words) × HoldsAt IsNot words k)
    → IsTrue r ↔ All IsParameter (texts_of words)
parameters_are_told true words told = (λ yes. All-map IsParameter string_bytes words (All-from_all_within Is words told), λ all. refl)
parameters_are_told false words told = (
  λ yes. absurd (true≢false (sym yes)),
  λ all. true_from_All Is IsNot false words (λ word is is_not. is_not is) told
      (λ k d within. subst IsParameter (get_or-map string_bytes words k d [] within) (all k [] (omega (arith, length-map words string_bytes)))),
)

-- command lines that are alike begin alike
pub first_word : (words : Words) (x y : List ℕ) (more others : List (List ℕ)) → texts_of words ≡ x ∷ more → texts_of words ≡ y ∷ others → x ≡ y
first_word words x y more others one other = let e : x ∷ more ≡ y ∷ others = sym one ∙ other in cc

-- of the words after `encode` only those after it need be looked at
pub wrong_encode : (words : Words) (more : List (List ℕ)) → texts_of words ≡ codes "encode" ∷ more → ((job : Job) → AskCoding (codes "encode") words job → ⊥) → AreWrong words
wrong_encode words more are none = record {
  exists = λ plugin ask. let e = ap length (first_word words _ _ _ _ are ask) in omega (arith, e);
  validate = λ profile parameters ask. let e = ap length (first_word words _ _ _ _ are ask.are) in omega (arith, e);
  size = λ profile size ask. let e = ap length (first_word words _ _ _ _ are ask.are) in omega (arith, e);
  encode = none;
  decode = λ job ask. let e = ap (λ text. get_or text 0 0) (first_word words _ _ _ _ are ask.are) in omega (arith, e);
}

pub wrong_decode : (words : Words) (more : List (List ℕ)) → texts_of words ≡ codes "decode" ∷ more → ((job : Job) → AskCoding (codes "decode") words job → ⊥) → AreWrong words
wrong_decode words more are none = record {
  exists = λ plugin ask. let e = ap length (first_word words _ _ _ _ are ask) in omega (arith, e);
  validate = λ profile parameters ask. let e = ap length (first_word words _ _ _ _ are ask.are) in omega (arith, e);
  size = λ profile size ask. let e = ap length (first_word words _ _ _ _ are ask.are) in omega (arith, e);
  encode = λ job ask. let e = ap (λ text. get_or text 0 0) (first_word words _ _ _ _ are ask.are) in omega (arith, e);
  decode = none;
}

pub from_none : {A P : Type 0} (o : Option A) → IfNone o P → o ≡ None → P
from_none {P = P} o told is = subst (λ x. IfNone x P) is told
