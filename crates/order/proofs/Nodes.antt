-- Searches through the nodes of an order.
use Rattle.std.proofs.Common.{◌≡◌, ℕ, ◌+◌, ◌<◌, ◌≤◌, Bool, cond, List, [], ◌∷◌, length, get_or, drop, Some, option_map, inl, inr, sym, refl, ap, ◌∙◌}
use Rattle.std.specs.List.{position, position_from}
use Rattle.std.proofs.lemmas.List.{at_drop_more, at_drop_all}
use Rattle.std.proofs.lemmas.Bool.{cases_Bool}
use Rattle.std.proofs.lemmas.Iterator.Adapters.{position_from-zero}
use Rattle.model.specs.declared.types.Node.{Node}
use Rattle.model.specs.Machine.{no_node, highest_from, has_identity, place_of}

-- a search from the front: what is left gives the answer

pub higher_more : (xs : List Node) (i best : ℕ) → i < length xs → highest_from best (i + 1) (drop i xs) ≡ highest_from (cond (get_or xs i no_node).flagged (i + 1) best) (i + 1 + 1) (drop (i + 1) xs)
higher_more xs i best h = at_drop_more (highest_from best (i + 1)) xs i no_node h

pub higher_all : (xs : List Node) (i best : ℕ) → length xs ≤ i → highest_from best (i + 1) (drop i xs) ≡ best
higher_all xs i best h = at_drop_all (highest_from best (i + 1)) xs i h

module _ {X : Type 0} (t : X → Bool) where
  shifted : (i : ℕ) (xs : List X) → position_from t (i + 1) xs ≡ option_map (λ k. k + 1) (position_from t i xs)
  shifted i [] = refl
  shifted i (x ∷ xs) = elim (cases_Bool (t x)) [
    | inl e ↦ rw e refl
    | inr e ↦ rw e (shifted (i + 1) xs)
  ]

abbrev pub is_of : ℕ → ℕ → ℕ → Node → Bool
is_of run s call n = has_identity n.update run s call

from_place : (xs : List Node) (p run s call : ℕ) → place_of xs p run s call ≡ position_from (is_of run s call) p xs
from_place [] p run s call = refl
from_place (n ∷ ns) p run s call = ap (cond (is_of run s call n) (Some p)) (from_place ns (p + 1) run s call)

-- a place is one more than the index of its node
pub place_found : (xs : List Node) (run s call : ℕ) → place_of xs 1 run s call ≡ option_map (λ k. k + 1) (position (is_of run s call) xs)
place_found xs run s call = from_place xs 1 run s call ∙ shifted (is_of run s call) 0 xs ∙ ap (option_map (λ k. k + 1)) (sym (position_from-zero (is_of run s call) xs))
