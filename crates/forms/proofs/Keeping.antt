-- What the pairs of a cut keep, pair by pair.
use Rattle.std.proofs.Common.{◌≡◌, ℕ, ◌<◌, List, map, length, get_or, drop, replicate, refl, ap}
use Rattle.std.proofs.lemmas.List.{get_or-replicate}
use Rattle.forms.specs.declared.types.Pair.{Pair}
use Rattle.forms.specs.Spoken.{pair_of}
use Rattle.forms.specs.Meanings.{kept_on, kept_of}

-- the bytes after the first i pairs
abbrev pub Kept : List Pair → ℕ → List ℕ → Type 0
Kept ps i bs = (length bs ≡ 129) × ((k : ℕ) → k < 129 → kept_on k (get_or bs k 0) (map pair_of (drop i ps)) ≡ kept_of k (map pair_of ps))

pub kept_first : (ps : List Pair) → Kept ps 0 (replicate 129 0)
kept_first ps = (refl, λ k h. ap (λ b. kept_on k b (map pair_of ps)) (get_or-replicate 129 k 0 0 h))
