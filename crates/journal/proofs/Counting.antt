-- How many entries lines can have, and how many of the lines those use.
use Rattle.std.proofs.Common.{ℕ, zero, suc, pred, ◌-◌, ◌≤◌, List, [], ◌∷◌, length, subst, inl, inr, sym, arith}
use Rattle.std.proofs.lemmas.List.{length-take}
use Rattle.std.proofs.lemmas.Bool.{cases_Bool, cond-true, cond-false}
use Rattle.model.specs.Journal.{Entry, word, stands, entries, used_lines}

pub count_within : (owner skip : ℕ) (ls : List (List ℕ)) → length (entries owner skip ls) ≤ length ls
count_within owner skip [] = omega arith
count_within owner (suc skip) (l ∷ ls) = let h = count_within owner skip ls in omega arith
count_within owner zero (l ∷ ls) =
    let h = count_within owner (pred (word l 1)) ls in
    elim (cases_Bool (stands owner (l ∷ ls))) [
      | inl stood ↦ subst (λ (fs : List Entry). length fs ≤ suc (length ls)) (sym (cond-true (stands owner (l ∷ ls)) _ [] stood)) (omega arith)
      | inr none ↦ subst (λ (fs : List Entry). length fs ≤ suc (length ls)) (sym (cond-false (stands owner (l ∷ ls)) _ [] none)) (omega arith)
    ]

pub used_within : (owner skip : ℕ) (ls : List (List ℕ)) → used_lines (entries owner skip ls) ≤ length ls - skip
used_within owner skip [] = omega arith
used_within owner (suc skip) (l ∷ ls) = let h = used_within owner skip ls in omega arith
used_within owner zero (l ∷ ls) =
    let h = used_within owner (pred (word l 1)) ls in
    let own = length-take (word l 1) (l ∷ ls) in
    elim (cases_Bool (stands owner (l ∷ ls))) [
      | inl stood ↦ subst (λ (fs : List Entry). used_lines fs ≤ suc (length ls) - 0) (sym (cond-true (stands owner (l ∷ ls)) _ [] stood)) (omega arith)
      | inr none ↦ subst (λ (fs : List Entry). used_lines fs ≤ suc (length ls) - 0) (sym (cond-false (stands owner (l ∷ ls)) _ [] none)) (omega arith)
    ]
