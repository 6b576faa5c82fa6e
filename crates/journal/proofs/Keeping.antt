-- The lines that hold a place, in two parts of the journal.
use Rattle.std.proofs.Common.{◌≡◌, ℕ, Bool, ◌&&◌, List, [], ◌∷◌, ◌++◌, sym, refl, ap, ◌∙◌}
use Rattle.std.proofs.Math.Bool.{and_assoc}
use Rattle.model.specs.Journal.{agree, same_update}

pub agree_both : (a : List ℕ) (xs ys : List (List ℕ)) → agree a (xs ++ ys) ≡ (agree a xs && agree a ys)
agree_both a [] ys = refl
agree_both a (x ∷ xs) ys = ap (λ (b : Bool). same_update a x && b) (agree_both a xs ys) ∙ sym (and_assoc (same_update a x) (agree a xs) (agree a ys))
