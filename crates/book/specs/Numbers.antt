-- What planners are promised of reservation numbers, whatever operations are applied to the slots, from the first state.
use Rattle.std.specs.Prelude.{◌≡◌, ℕ, zero, suc, ◌+◌, ◌<◌, ◌≤◌, true, false, cond, List, [], ◌∷◌, ◌++◌, length, Some, None, Option, ◌==◌, ◌≢◌, slice_index}
use Rattle.book.specs.Rules.{Reply, applied, apply_reply, after}
use Rattle.book.specs.Slots.{Plan, empty_plan, slots_rules, slots_request, slot_at, holds}
use Rattle.book.specs.declared.types.Op.{Op}
use Rattle.book.specs.declared.types.Reservation.{Reservation}
use Rattle.book.specs.declared.types.SlotsRequest.{SlotsRequest}
use Rattle.book.specs.declared.types.SlotsRequest.TheVariants.{Reserve, Cancel, Holder}

abbrev pub plan_after : List Op → Plan
plan_after os = after slots_rules empty_plan os

-- the number that a reply gives: that of a reservation that was made
abbrev pub given_by : Option SlotsRequest → Reply → List ℕ
given_by (Some (Reserve i b)) r = cond (r.0 == 0) (r.1 ∷ []) []
given_by (Some (Cancel n)) r = []
given_by (Some (Holder i)) r = []
given_by None r = []

-- the numbers that a list of operations gives, from a plan on, in the order of the replies
abbrev pub given_from : Plan → List Op → List ℕ
given_from p [] = []
given_from p (o ∷ os) = given_by (slots_request o) (apply_reply slots_rules p o) ++ given_from (applied slots_rules p o) os

abbrev pub numbers_given : List Op → List ℕ
numbers_given os = given_from empty_plan os

-- k, k + 1, k + 2 and so on, n numbers
abbrev pub counted_from : ℕ → ℕ → List ℕ
counted_from k zero = []
counted_from k (suc n) = k ∷ counted_from (k + 1) n

-- slot i holds number n
abbrev pub Held : Plan → ℕ → ℕ → Type 0
Held p n i = holds n (slot_at p i) ≡ true

abbrev pub Unheld : Plan → ℕ → Type 0
Unheld p n = (i : ℕ) → holds n (slot_at p i) ≡ false

pub record Numbered (os : List Op) : Type 0 where
  -- the numbers given are 1, 2, 3 and so on up to the last
  pub in_order : numbers_given os ≡ counted_from 1 (plan_after os).last
  -- none is given twice
  pub once : (i j : ℕ) → i < length (numbers_given os) → j < length (numbers_given os) → slice_index (numbers_given os) i ≡ slice_index (numbers_given os) j → i ≡ j
  -- no two slots hold one number
  pub apart : (n i j : ℕ) → Held (plan_after os) n i → Held (plan_after os) n j → i ≡ j
  -- every number held was given: it is at most the last
  pub known : (n i : ℕ) → Held (plan_after os) n i → (1 ≤ n) × (n ≤ (plan_after os).last)
  -- a reservation that is told its number has the slot, which was empty
  pub booked : (o : Op) (i b n : ℕ) → slots_request o ≡ Some (Reserve i b) → apply_reply slots_rules (plan_after os) o ≡ (0, n) →
      (slot_at (plan_after os) i ≡ None) × (slot_at (plan_after (os ++ (o ∷ []))) i ≡ Some (record { number = n; container = b }))
  -- a booking stands until its own number is cancelled
  pub stands : (o : Op) (i : ℕ) (r : Reservation) → slot_at (plan_after os) i ≡ Some r → (slots_request o ≢ Some (Cancel r.number)) →
      slot_at (plan_after (os ++ (o ∷ []))) i ≡ Some r
  -- a cancellation empties the slot that holds its number, and alters no other
  pub cancels : (o : Op) (n i : ℕ) → slots_request o ≡ Some (Cancel n) →
      slot_at (plan_after (os ++ (o ∷ []))) i ≡ cond (holds n (slot_at (plan_after os) i)) None (slot_at (plan_after os) i)
  -- and nothing at all where none does
  pub cancels_nothing : (o : Op) (n : ℕ) → slots_request o ≡ Some (Cancel n) → Unheld (plan_after os) n → plan_after (os ++ (o ∷ [])) ≡ plan_after os
  -- a number that was given and is held no more is never held again, so that a late cancellation takes out nothing
  pub late : (more : List Op) (n : ℕ) → n ≤ (plan_after os).last → Unheld (plan_after os) n → Unheld (plan_after (os ++ more)) n
