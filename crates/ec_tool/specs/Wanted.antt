-- Lists of numbers in texts. Source: this project.
use Rattle.std.specs.Prelude.{◌≡◌, ◌<◌, ◌^◌, ℕ, List, map}
use Rattle.std.specs.List.{All}
use Rattle.std.specs.Fmt.{decimal}

-- these texts are these numbers below 2 ^ 64, each the one at its place
pub record AreNumbers (texts : List (List ℕ)) (numbers : List ℕ) : Type 0 where
  pub spelled : texts ≡ map decimal numbers
  pub small : All (λ n. n < 2 ^ 64) numbers
