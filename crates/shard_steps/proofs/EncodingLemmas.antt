-- Bytes that are put one after another.
use Rattle.std.proofs.Common.{◌≡◌, ℕ, List, ◌++◌, ap, ◌∙◌}
use Rattle.std.proofs.lemmas.List.{append_assoc}

pub four_parts : (out a b c d one two three : List ℕ) → one ≡ out ++ a → two ≡ one ++ b → three ≡ two ++ c → three ++ d ≡ out ++ (a ++ (b ++ (c ++ d)))
four_parts out a b c d one two three first second third =
    ap (λ t. t ++ d) third ∙ append_assoc two c d
    ∙ ap (λ t. t ++ (c ++ d)) second ∙ append_assoc one b (c ++ d)
    ∙ ap (λ t. t ++ (b ++ (c ++ d))) first ∙ append_assoc out a (b ++ (c ++ d))
