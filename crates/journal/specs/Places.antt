-- What a search for a place answers.
use Rattle.std.specs.Prelude.{ℕ, List, [], ◌∷◌, Some, None, Option}

abbrev pub first : List (List ℕ) → Option (List ℕ)
first [] = None
first (l ∷ ls) = Some l

-- the first answer, or the second where there is none
abbrev pub or_else : Option (List ℕ) → Option (List ℕ) → Option (List ℕ)
or_else None o = o
or_else (Some l) o = Some l
