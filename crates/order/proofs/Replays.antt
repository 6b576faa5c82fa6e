-- The state after the first updates of an order, one update at a time.
use Rattle.std.proofs.Common.{◌≡◌, ℕ, zero, suc, ◌+◌, ◌-◌, ◌<◌, ◌≤◌, min, List, [], ◌∷◌, ◌++◌, length, get_or, take, sym, refl, ap, ◌∙◌, inl, inr, arith}
use Rattle.std.proofs.lemmas.List.{take_more, take_all}
use Rattle.std.proofs.lemmas.Bool.{cases_lt}
use Rattle.book.specs.declared.types.Op.{Op}
use Rattle.book.specs.Rules.{Rules, applied, after}
use Rattle.model.specs.declared.types.Node.{Node}
use Rattle.model.specs.Machine.{no_node, node_at, ops, state_after}

module _ {S : Type 0} (R : Rules S) where
  after_push : (s : S) (os : List Op) (o : Op) → after R s (os ++ o ∷ []) ≡ applied R (after R s os) o
  after_push s [] o = refl
  after_push s (p ∷ os) o = after_push (applied R s p) os o

  ops_push : (ns : List Node) (n : Node) → ops (ns ++ n ∷ []) ≡ ops ns ++ n.update.op ∷ []
  ops_push [] n = refl
  ops_push (m ∷ ns) n = ap (λ os. m.update.op ∷ os) (ops_push ns n)

  pub state_more : (xs : List Node) (i : ℕ) → i < length xs → state_after R xs (i + 1) ≡ applied R (state_after R xs i) (get_or xs i no_node).update.op
  state_more xs i h =
      ap (λ ns. after R R.first (ops ns)) (take_more xs i no_node h)
      ∙ ap (after R R.first) (ops_push (take i xs) (get_or xs i no_node))
      ∙ after_push R.first (ops (take i xs)) (get_or xs i no_node).update.op

  -- the update at a place makes the state after it of the state before
  pub state_at : (xs : List Node) (p : ℕ) → 1 ≤ p → p ≤ length xs → state_after R xs p ≡ applied R (state_after R xs (p - 1)) (node_at xs p).update.op
  state_at xs zero low h = absurd (omega arith)
  state_at xs (suc p) low h = let e : suc p - 1 ≡ p = omega arith in let n : suc p ≡ p + 1 = omega arith in rw e (ap (state_after R xs) n ∙ state_more xs p h)

  -- more updates than there are come to all
  pub state_all : (xs : List Node) (n count : ℕ) → n ≡ min (length xs) count → state_after R xs n ≡ state_after R xs count
  state_all xs n count is = elim (cases_lt count (length xs)) [
    | inl few ↦ ap (state_after R xs) (omega arith)
    | inr all ↦ ap (λ ns. after R R.first (ops ns)) (take_all n xs (omega arith) ∙ sym (take_all count xs (omega arith)))
  ]
