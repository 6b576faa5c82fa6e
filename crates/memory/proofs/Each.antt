-- A line function with its own number at each line.
use Rattle.std.proofs.Common.{◌≡◌, ℕ, zero, suc, ◌<◌, List, [], ◌∷◌, map, length, get_or, set, refl, ap, ap₂, arith}
use Rattle.std.specs.List.{AllByRecursion}
use Rattle.memory.specs.Model.{Line, blank_line, settle, each}

pub length_each : (f : ℕ → Line → Line) (ns : List ℕ) (xs : List Line) → length (each f ns xs) ≡ length xs
length_each f ns [] = refl
length_each f [] (x ∷ xs) = ap suc (length_each f [] xs)
length_each f (n ∷ ns) (x ∷ xs) = ap suc (length_each f ns xs)

pub each_at : (f : ℕ → Line → Line) (ns : List ℕ) (xs : List Line) (i : ℕ) → i < length xs → get_or (each f ns xs) i blank_line ≡ f (get_or ns i 0) (get_or xs i blank_line)
each_at f ns [] i h = absurd (omega arith)
each_at f [] (x ∷ xs) zero h = refl
each_at f [] (x ∷ xs) (suc i) h = each_at f [] xs i (omega arith)
each_at f (n ∷ ns) (x ∷ xs) zero h = refl
each_at f (n ∷ ns) (x ∷ xs) (suc i) h = each_at f ns xs i (omega arith)

-- early settling by a rule: only a line that was changed may settle
module _ (c : Line → ℕ) where
  -- under the rule c a line stays as it is
  abbrev pub Stays : Line → Type 0
  Stays x = settle (c x) x ≡ x

  pub all_stay : (xs : List Line) → AllByRecursion Stays xs → each settle (map c xs) xs ≡ xs
  all_stay [] s = refl
  all_stay (x ∷ xs) s = ap₂ (λ (y : Line) (ys : List Line). y ∷ ys) s.0 (all_stay xs s.1)

  pub one_settles : (xs : List Line) (l : ℕ) (y : Line) → AllByRecursion Stays xs → each settle (map c (set xs l y)) (set xs l y) ≡ set xs l (settle (c y) y)
  one_settles [] l y s = refl
  one_settles (x ∷ xs) zero y s = ap (λ (ys : List Line). settle (c y) y ∷ ys) (all_stay xs s.1)
  one_settles (x ∷ xs) (suc l) y s = ap₂ (λ (z : Line) (ys : List Line). z ∷ ys) s.0 (one_settles xs l y s.1)
