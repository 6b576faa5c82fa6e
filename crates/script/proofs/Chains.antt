-- Steps in a row, and one pattern read slot by slot.
use Rattle.std.proofs.Common.{◌≡◌, ℕ, Bool, true, false, cond, List, [], ◌∷◌, ◌++◌, Ok, Err, Option, Some, Result, sym, refl, ◌∙◌}
use Rattle.tokens.specs.declared.types.Fault.{Fault}
use Rattle.tokens.specs.Tokens.{Placed}
use Rattle.forms.specs.Spoken.{Spoken}
use Rattle.script.specs.Grammar.{Slot, opens, closes, says, counts, read_by}
use Rattle.script.specs.Reading.{Step, then, if_named, open_bracket, close_bracket, number_within, alone}
use Rattle.script.proofs.Patterns.{read_opens, read_closes, read_counts, read_end}
use Rattle.script.proofs.Words.{then_same}

-- what follows a step of two parts follows the second
pub seq : {X Y Z : Type 0} (s : Step X) (k : X → List Placed → Step Y) (l : Y → List Placed → Result Z Fault) (m : X → List Placed → Result Z Fault) →
    ((x : X) (ts : List Placed) → then (k x ts) l ≡ m x ts) → then (then s k) l ≡ then s m
seq (Ok p) k l m h = h p.0 p.1
seq (Err f) k l m h = refl

-- what follows a choice follows what is chosen
pub test : {X Z : Type 0} (t : Bool) (x y : Step X) (k : X → List Placed → Result Z Fault) (a b : Result Z Fault) → then x k ≡ a → then y k ≡ b → then (cond t x y) k ≡ cond t a b
test true x y k a b h g = h
test false x y k a b h g = g

-- the same, where a word chooses a kind
pub named : {K Z : Type 0} (t : Bool) (x : K) (y : Option K) (col : ℕ) (ts : List Placed) (k : K → List Placed → Result Z Fault) (a b : Result Z Fault) →
    k x ts ≡ a → then (if_named y col ts) k ≡ b → then (if_named (cond t (Some x) y) col ts) k ≡ cond t a b
named true x y col ts k a b h g = h
named false x y col ts k a b h g = g

-- one pattern, slot by slot; a word is left to its group
abbrev pub expects : List Slot → (List ℕ → Spoken) → List ℕ → ℕ → List Placed → Result Spoken Fault
expects [] f ns len ts = alone (f ns) ts
expects (opens ∷ xs) f ns len ts = then (open_bracket len ts) (λ _ ts. expects xs f ns len ts)
expects (closes ∷ xs) f ns len ts = then (close_bracket len ts) (λ _ ts. expects xs f ns len ts)
expects (says w ∷ xs) f ns len ts = read_by (record { slots = says w ∷ xs; meaning = f } ∷ []) ns len ts
expects (counts low high ∷ xs) f ns len ts = then (number_within low high len ts) (λ n ts. expects xs f (ns ++ n ∷ []) len ts)

pub one_pattern : (xs : List Slot) (f : List ℕ → Spoken) (ns : List ℕ) (len : ℕ) (ts : List Placed) → expects xs f ns len ts ≡ read_by (record { slots = xs; meaning = f } ∷ []) ns len ts
one_pattern [] f ns len ts = sym (read_end f ns len ts)
one_pattern (opens ∷ xs) f ns len ts = then_same (open_bracket len ts) _ _ (λ _ ts. one_pattern xs f ns len ts) ∙ sym (read_opens (record { slots = xs; meaning = f } ∷ []) refl ns len ts)
one_pattern (closes ∷ xs) f ns len ts = then_same (close_bracket len ts) _ _ (λ _ ts. one_pattern xs f ns len ts) ∙ sym (read_closes (record { slots = xs; meaning = f } ∷ []) refl ns len ts)
one_pattern (says w ∷ xs) f ns len ts = refl
one_pattern (counts low high ∷ xs) f ns len ts = then_same (number_within low high len ts) _ _ (λ n ts. one_pattern xs f (ns ++ n ∷ []) len ts) ∙ sym (read_counts (record { slots = xs; meaning = f } ∷ []) refl ns len low high ts)
