-- What the words ask for, if they are known.
use Rattle.std.proofs.Common.{◌≡◌, ℕ, List, [], ◌∷◌, ◌≤◌, length, Option, Some, inl, inr, ap, sym, ◌∙◌, arith}
use Rattle.std.specs.Prelude.{codes}
use Rattle.pool_run.specs.Profiles.{AsksToCreate, AsksToShow, AsksFor, HasFault, NeedsNoInput}
use Rattle.pool_run.specs.Texts.{max_input}
use Rattle.pool_run.specs.Words.{Words, AskTry, AskProfile, AskCreate, AreWrong, whole_input}

-- two command lines of two words are alike in their words
same_words : (ts : List (List ℕ)) (x y a b : List ℕ) → ts ≡ x ∷ a ∷ [] → ts ≡ y ∷ b ∷ [] → (x ≡ y) × (a ≡ b)
same_words ts x y a b one other = let e : x ∷ a ∷ [] ≡ y ∷ b ∷ [] = sym one ∙ other in (cc, cc)

pub same_try : (words : Words) (a b : List ℕ) → AskTry words a → AskTry words b → a ≡ b
same_try words a b one other = (same_words _ _ _ a b one other).1

pub same_profile : (words : Words) (a b : List ℕ) → AskProfile words a → AskProfile words b → a ≡ b
same_profile words a b one other = (same_words _ _ _ a b one other).1

pub not_both : (words : Words) (a b : List ℕ) → AskTry words a → AskProfile words b → ⊥
not_both words a b one other = let e = ap length (same_words _ (codes "try") (codes "profile") a b one other).0 in omega (arith, e)

two_not_three : (ts : List (List ℕ)) (x a c d p : List ℕ) → ts ≡ x ∷ a ∷ [] → ts ≡ c ∷ d ∷ p ∷ [] → ⊥
two_not_three ts x a c d p one other = let e : 2 ≡ 3 = ap (λ (l : List (List ℕ)). length l) (sym one ∙ other) in omega (arith, e)

pub try_not_create : (words : Words) (a b : List ℕ) → AskTry words a → AskCreate words b → ⊥
try_not_create words a b one other = two_not_three _ (codes "try") a (codes "create") other.0 b one other.1

pub profile_not_create : (words : Words) (a b : List ℕ) → AskProfile words a → AskCreate words b → ⊥
profile_not_create words a b one other = two_not_three _ (codes "profile") a (codes "create") other.0 b one other.1

pub same_create : (words : Words) (a b : List ℕ) → AskCreate words a → AskCreate words b → a ≡ b
same_create words a b one other = let e : codes "create" ∷ one.0 ∷ a ∷ [] ≡ codes "create" ∷ other.0 ∷ b ∷ [] = sym one.1 ∙ other.1 in cc

creates : (words : Words) (left : Option (List ℕ)) (a : List ℕ) → AsksToCreate words left a → (b : List ℕ) × AskCreate words b
creates words left a (inl is) = (a, is.0)
creates words left a (inr is) = (whole_input, is.0)

pub shows : (words : Words) (left : Option (List ℕ)) (a : List ℕ) → AsksToShow words left a → (b : List ℕ) × AskProfile words b
shows words left a (inl is) = (a, is.0)
shows words left a (inr is) = (whole_input, is.0)

pub wrong_for : (words : Words) (left : Option (List ℕ)) (a : List ℕ) → AreWrong words → AsksFor words left a → ⊥
wrong_for words left a wrong (inl is) = (wrong a).0 is
wrong_for words left a wrong (inr (inl is)) = let s = shows words left a is in (wrong s.0).1 s.1
wrong_for words left a wrong (inr (inr is)) = let s = creates words left a is in (wrong s.0).2 s.1

-- the words are `try PROFILE`, and ask for this text
pub try_for : (words : Words) (left : Option (List ℕ)) (a b : List ℕ) → AskTry words a → AsksFor words left b → a ≡ b
try_for words left a b ask (inl is) = same_try words a b ask is
try_for words left a b ask (inr (inl is)) = let s = shows words left b is in absurd (not_both words a s.0 ask s.1)
try_for words left a b ask (inr (inr is)) = let s = creates words left b is in absurd (try_not_create words a s.0 ask s.1)

-- the words are `profile PROFILE` with another word than `-`, and ask for this text
pub show_for : (words : Words) (left : Option (List ℕ)) (a b : List ℕ) → AskProfile words a → (a ≡ whole_input → ⊥) → AsksFor words left b → a ≡ b
show_for words left a b ask other (inl is) = absurd (not_both words b a is ask)
show_for words left a b ask other (inr (inl (inl is))) = same_profile words a b ask is.0
show_for words left a b ask other (inr (inl (inr is))) = absurd (other (same_profile words a whole_input ask is.0))
show_for words left a b ask other (inr (inr is)) = let s = creates words left b is in absurd (profile_not_create words a s.0 ask s.1)

-- the words are `profile -`, and ask for this text
pub input_for : (words : Words) (left : Option (List ℕ)) (b : List ℕ) → AskProfile words whole_input → AsksFor words left b → (left ≡ Some b) × (length b ≤ max_input)
input_for words left b ask (inl is) = absurd (not_both words b whole_input is ask)
input_for words left b ask (inr (inl (inl is))) = absurd (is.1 (same_profile words b whole_input is.0 ask))
input_for words left b ask (inr (inl (inr is))) = (is.1, is.2)
input_for words left b ask (inr (inr is)) = let s = creates words left b is in absurd (profile_not_create words whole_input s.0 ask s.1)

-- the words are `create DIR PROFILE` with another word than `-`, and ask for this text
pub create_for : (words : Words) (left : Option (List ℕ)) (a b : List ℕ) → AskCreate words a → (a ≡ whole_input → ⊥) → AsksFor words left b → a ≡ b
create_for words left a b ask other (inl is) = absurd (try_not_create words b a is ask)
create_for words left a b ask other (inr (inl is)) = let s = shows words left b is in absurd (profile_not_create words s.0 a s.1 ask)
create_for words left a b ask other (inr (inr (inl is))) = same_create words a b ask is.0
create_for words left a b ask other (inr (inr (inr is))) = absurd (other (same_create words a whole_input ask is.0))

-- the words are `create DIR -`, and ask for this text
pub create_input_for : (words : Words) (left : Option (List ℕ)) (b : List ℕ) → AskCreate words whole_input → AsksFor words left b → (left ≡ Some b) × (length b ≤ max_input)
create_input_for words left b ask (inl is) = absurd (try_not_create words b whole_input is ask)
create_input_for words left b ask (inr (inl is)) = let s = shows words left b is in absurd (profile_not_create words s.0 whole_input s.1 ask)
create_input_for words left b ask (inr (inr (inl is))) = absurd (is.1 (same_create words b whole_input is.0 ask))
create_input_for words left b ask (inr (inr (inr is))) = (is.1, is.2)

pub create_needs : (words : Words) (a b : List ℕ) → AskCreate words a → NeedsNoInput words b → ⊥
create_needs words a b ask (inl is) = profile_not_create words b a is.0 ask
create_needs words a b ask (inr is) = try_not_create words b a is.0 ask

-- what the words ask for, if their profile needs no input

pub wrong_needs : (words : Words) (a : List ℕ) → AreWrong words → NeedsNoInput words a → ⊥
wrong_needs words a wrong (inl is) = (wrong a).1 is.0
wrong_needs words a wrong (inr is) = (wrong a).0 is.0

pub try_needs : (words : Words) (a b : List ℕ) → AskTry words a → NeedsNoInput words b → (a ≡ b) × HasFault b
try_needs words a b ask (inl is) = absurd (not_both words a b ask is.0)
try_needs words a b ask (inr is) = (same_try words a b ask is.0, is.1)

pub input_needs : (words : Words) (b : List ℕ) → AskProfile words whole_input → NeedsNoInput words b → ⊥
input_needs words b ask (inl is) = is.1 (same_profile words b whole_input is.0 ask)
input_needs words b ask (inr is) = not_both words b whole_input is.0 ask
