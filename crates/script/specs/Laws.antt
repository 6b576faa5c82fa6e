-- What reading a line promises, in terms of the forms that there are.
use Rattle.std.specs.Prelude.{◌≡◌, ℕ, ◌+◌, ◌≤◌, true, ◌⊎◌, List, [], ◌∷◌, ◌++◌, map, length, Ok, MatchResult}
use Rattle.tokens.specs.Tokens.{Shape, Placed, tokens_of}
use Rattle.forms.specs.Spoken.{Spoken, Proper}
use Rattle.forms.specs.Spelling.{spelled}
use Rattle.script.specs.Grammar.{Slot, Pattern, accepts, with_token, table, read_line}

abbrev pub shapes : List Placed → List Shape
shapes ts = map (λ t. t.shape) ts

-- the numbers among tokens
abbrev pub numbers : List ℕ → List Placed → List ℕ
numbers ns [] = ns
numbers ns (t ∷ ts) = numbers (with_token ns t.shape) ts

-- a form has exactly these tokens
abbrev pub Has : List Slot → List Shape → Type 0
Has [] [] = Unit
Has [] (s ∷ ss) = ⊥
Has (x ∷ xs) [] = ⊥
Has (x ∷ xs) (s ∷ ss) = (accepts x s ≡ true) × Has xs ss

-- a form begins with these tokens
abbrev pub GoesOn : List Slot → List Shape → Type 0
GoesOn xs [] = Unit
GoesOn [] (s ∷ ss) = ⊥
GoesOn (x ∷ xs) (s ∷ ss) = (accepts x s ≡ true) × GoesOn xs ss

-- some pattern of a table is so
abbrev pub Some : (List Slot → (List ℕ → Spoken) → Type 0) → List Pattern → Type 0
Some P [] = ⊥
Some P (p ∷ ps) = P p.slots p.meaning ⊎ Some P ps

abbrev pub SomeGoesOn : List Pattern → List Shape → Type 0
SomeGoesOn ps ss = Some (λ xs f. GoesOn xs ss) ps

abbrev pub SomeHas : List Pattern → List Shape → Type 0
SomeHas ps ss = Some (λ xs f. Has xs ss) ps

-- some form has exactly these tokens, and by these numbers it means m
abbrev pub SomeMeans : List Pattern → List Shape → List ℕ → Spoken → Type 0
SomeMeans ps ss ns m = Some (λ xs f. Has xs ss × (f ns ≡ m)) ps

-- the first token that no form goes on with
pub record Misfit (ps : List Pattern) (ts : List Placed) (column : ℕ) : Type 0 where
  pub before : List Placed
  pub token : Placed
  pub behind : List Placed
  pub split : ts ≡ before ++ (token ∷ behind)
  pub there : column ≡ token.column
  pub fits : SomeGoesOn ps (shapes before)
  pub not_on : SomeGoesOn ps (shapes (before ++ (token ∷ []))) → ⊥

-- all the tokens fit, and no form ends with them
pub record Unfinished (ps : List Pattern) (ts : List Placed) (len column : ℕ) : Type 0 where
  pub end : column ≡ len + 1
  pub fits : SomeGoesOn ps (shapes ts)
  pub not_all : SomeHas ps (shapes ts) → ⊥

-- a line of at most 200 bytes is read as a form that has its tokens, or has a fault where the forms say, so that no form
-- has its tokens
abbrev pub ReadsExactly : Type 0
ReadsExactly = (line : List ℕ) → length line ≤ 200 →
    MatchResult (read_line line) (λ m. SomeMeans table (shapes (tokens_of line)) (numbers [] (tokens_of line)) m)
    (λ f. (f.number ≡ 16) × (Misfit table (tokens_of line) f.column ⊎ Unfinished table (tokens_of line) (length line) f.column) × (SomeHas table (shapes (tokens_of line)) → ⊥))

-- a form in its plain spelling is read as the same form
abbrev pub ReadsBack : Type 0
ReadsBack = (m : Spoken) → Proper m → read_line (spelled m) ≡ Ok m
