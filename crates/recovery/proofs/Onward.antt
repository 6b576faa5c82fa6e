-- The questions on places, and the updates found, one place after the other.
use Rattle.std.proofs.Common.{◌≡◌, ℕ, suc, ◌+◌, ◌-◌, ◌<◌, ◌≤◌, List, [], ◌∷◌, ◌++◌, map, length, Some, None, Option, sym, refl, ap, ◌∙◌, arith, length-append}
use Rattle.std.proofs.lemmas.List.{append-nil, append_assoc}
use Rattle.book.specs.Rules.{Rules}
use Rattle.model.specs.declared.types.Node.{Node}
use Rattle.model.specs.declared.types.Update.{Update}
use Rattle.model.specs.declared.types.Refusal.{Refusal}
use Rattle.model.specs.Journal.{Entry, holding}
use Rattle.model.specs.Machine.{first_of, place_question, place_questions, update_found, updates_from, flagged}

module _ {S : Type 0} (R : Rules S) (fss : List (List Entry)) (n : ℕ) where
  -- the places below p have passed, and os are their nodes; the others are still to be asked
  pub record Passed (p : ℕ) (os : List Node) : Type 0 where
    pub count : length os + 1 ≡ p
    pub asked : place_questions R fss 1 n ≡ place_questions R fss p (n + 1 - p)
    pub read : map flagged (updates_from fss 1 n) ≡ os ++ map flagged (updates_from fss p (n + 1 - p))

  pub passed_none : Passed 1 []
  passed_none =
      let all : n ≡ n + 1 - 1 = omega arith in
      record { count = refl; asked = ap (place_questions R fss 1) all; read = ap (λ k. map flagged (updates_from fss 1 k)) all }

  module _ (p : ℕ) (os : List Node) (z : Passed p os) where
    module _ (h : p ≤ n) where
      abbrev left : ℕ
      left = n + 1 - (p + 1)

      one_less : n + 1 - p ≡ suc left
      one_less = omega arith

      next_asked : place_questions R fss 1 n ≡ first_of (place_question R p (holding p fss)) (place_questions R fss (p + 1) left)
      next_asked = z.asked ∙ ap (place_questions R fss p) one_less

      pub passed_refused : (q : Refusal) → place_question R p (holding p fss) ≡ Some q → place_questions R fss 1 n ≡ Some q
      passed_refused q e = next_asked ∙ ap (λ (o : Option Refusal). first_of o (place_questions R fss (p + 1) left)) e

      pub passed_more : (u : Update) → place_question R p (holding p fss) ≡ None → u ≡ update_found (holding p fss) → Passed (p + 1) (os ++ flagged u ∷ [])
      passed_more u e is = record {
        count = simp length-append (omega (arith, z.count));
        asked = next_asked ∙ ap (λ (o : Option Refusal). first_of o (place_questions R fss (p + 1) left)) e;
        read =
            z.read
            ∙ ap (λ j. os ++ map flagged (updates_from fss p j)) one_less
            ∙ ap (λ (v : Update). os ++ flagged v ∷ map flagged (updates_from fss (p + 1) left)) (sym is)
            ∙ sym (append_assoc os (flagged u ∷ []) (map flagged (updates_from fss (p + 1) left)));
      }

    pub passed_all : n < p → (place_questions R fss 1 n ≡ None) × (os ≡ map flagged (updates_from fss 1 n))
    passed_all h =
        let none : n + 1 - p ≡ 0 = omega arith in (
          z.asked ∙ ap (place_questions R fss p) none,
          sym (append-nil os) ∙ ap (λ j. os ++ map flagged (updates_from fss p j)) (sym none) ∙ sym z.read,
        )
