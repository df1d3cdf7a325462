-- Two steps on bytes that may be known make one: what layers above cite.
use Rattle.std.proofs.Common.{List, [], ℕ, ◌++◌, Option, Some, None, sym, ap, ◌∙◌, append_assoc, append-nil, refl}
use Rattle.std.specs.Io.KnownBytes.{Appends, Consumes}

pub Consumes-none : (a : Option (List ℕ)) → Consumes a a []
Consumes-none None = tt
Consumes-none (Some xs) = refl

pub Consumes-more : (a b c : Option (List ℕ)) (xs ys : List ℕ) → Consumes a b xs → Consumes b c ys → Consumes a c (xs ++ ys)
Consumes-more None b c xs ys p q = tt
Consumes-more (Some a) None c xs ys p q = absurd p
Consumes-more (Some a) (Some b) None xs ys p q = absurd q
Consumes-more (Some a) (Some b) (Some c) xs ys p q = p ∙ ap (λ s. xs ++ s) q ∙ sym (append_assoc xs ys c)

pub Appends-none : (a : Option (List ℕ)) → Appends a a []
Appends-none None = tt
Appends-none (Some xs) = sym (append-nil xs)

pub Appends-more : (a b c : Option (List ℕ)) (xs ys : List ℕ) → Appends a b xs → Appends b c ys → Appends a c (xs ++ ys)
Appends-more None b c xs ys p q = tt
Appends-more (Some a) None c xs ys p q = absurd p
Appends-more (Some a) (Some b) None xs ys p q = absurd q
Appends-more (Some a) (Some b) (Some c) xs ys p q = q ∙ ap (λ s. s ++ ys) p ∙ append_assoc a xs ys
