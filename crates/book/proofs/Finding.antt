-- The search for the slot that holds a number.
use Rattle.std.proofs.Common.{◌≡◌, ℕ, true, false, List, length, get_or, Some, None, Option, ap, inl, inr, arith, MatchOption}
use Rattle.std.specs.List.{position_or_len}
use Rattle.std.proofs.lemmas.Bool.{cond_both, cases_lt, ltb-true, ltb-false}
use Rattle.std.proofs.lemmas.List.{get_or_past}
use Rattle.std.proofs.lemmas.List.Sums.{passes_at_first, fails_before_first}
use Rattle.book.specs.Slots.{holds, slot_of}
use Rattle.book.specs.declared.types.Reservation.{Reservation}

-- the slot found holds the number; where none is found, none does
abbrev pub Finds : ℕ → List (Option Reservation) → Option ℕ → Type 0
Finds n xs q = MatchOption q ((k : ℕ) → holds n (get_or xs k None) ≡ false) (λ i. holds n (get_or xs i None) ≡ true)

pub slot_of_finds : (n : ℕ) (xs : List (Option Reservation)) → Finds n xs (slot_of n xs)
slot_of_finds n xs =
    cond_both _ (Some (position_or_len (holds n) xs)) None (Finds n xs)
    (λ e. passes_at_first (holds n) xs None (ltb-true _ _ e))
    (λ e k. elim (cases_lt k (length xs)) [
      | inl within ↦ let past = ltb-false _ _ e in fails_before_first (holds n) xs k None (omega (arith, past))
      | inr past ↦ ap (holds n) (get_or_past xs k None past)
    ])
