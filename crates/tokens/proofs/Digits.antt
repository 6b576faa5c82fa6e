-- The number that digits write, as a fold.
use Rattle.std.proofs.Common.{◌≡◌, ℕ, ◌+◌, ◌-◌, ◌*◌, List, [], ◌∷◌, fold, refl}
use Rattle.tokens.specs.Tokens.{value, value_on}

folded : (ds : List ℕ) (n : ℕ) → value_on n ds ≡ fold (λ n d. 10 * n + (d - 48)) n ds
folded [] n = refl
folded (d ∷ ds) n = folded ds (10 * n + (d - 48))

pub value_fold : (ds : List ℕ) → value ds ≡ fold (λ n d. 10 * n + (d - 48)) 0 ds
value_fold ds = folded ds 0
