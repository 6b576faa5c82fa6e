-- What a book means: a state, and rules that stay as they are.
use Rattle.std.specs.Prelude.{◌≡◌, ℕ, Bool, true, false, cond, List, [], ◌∷◌, Some, None, Ok, Err, Option, Result}
use Rattle.book.specs.declared.types.Op.{Op}
use Rattle.book.specs.declared.types.Sort.{Sort}
use Rattle.book.specs.declared.types.UnknownOp.{UnknownOp}
use Rattle.book.specs.declared.types.Sort.TheVariants.{Update, Query, Neither}

-- kind and value
abbrev pub Reply : Type 0
Reply = ℕ × ℕ

-- the fixed part of a book: its first state, the sort of each operation, and for each state the next one and the reply
pub record Rules (S : Type 0) : Type 0 where
  pub first : S
  pub sort : Op → Sort
  pub next : S → Op → S
  pub reply : S → Op → Reply

abbrev pub sort_number : Sort → ℕ
sort_number Update = 1
sort_number Query = 2
sort_number Neither = 0

abbrev pub is_update : Sort → Bool
is_update Update = true
is_update Query = false
is_update Neither = false

abbrev pub is_query : Sort → Bool
is_query Update = false
is_query Query = true
is_query Neither = false

-- what an operation asks: a request, or nothing
abbrev pub Asks : {Q : Type 0} → (Op → Option Q) → Op → Result Q UnknownOp → Type 0
Asks request o (Ok q) = request o ≡ Some q
Asks request o (Err e) = (request o ≡ None) × (e.0 ≡ o)

-- the operation that stands for a request, and is read as no other
pub record Stands {Q : Type 0} (op : Q → Op) (request : Op → Option Q) (Range : Q → Type 0) (q : Q) (o : Op) : Type 0 where
  pub value : o ≡ op q
  pub stands : Range q → request o ≡ Some q

-- the reply to an operation of the wrong sort
abbrev pub wrong_sort : Reply
wrong_sort = (255, 0)

-- the state after apply, and its reply: only an update does anything
abbrev pub applied : {S : Type 0} → Rules S → S → Op → S
applied R s o = cond (is_update (R.sort o)) (R.next s o) s

abbrev pub apply_reply : {S : Type 0} → Rules S → S → Op → Reply
apply_reply R s o = cond (is_update (R.sort o)) (R.reply s o) wrong_sort

-- the reply of ask, which keeps the state
abbrev pub ask_reply : {S : Type 0} → Rules S → S → Op → Reply
ask_reply R s o = cond (is_query (R.sort o)) (R.reply s o) wrong_sort

-- the state after a list of operations has been applied, the first one first
abbrev pub after : {S : Type 0} → Rules S → S → List Op → S
after R s [] = s
after R s (o ∷ os) = after R (applied R s o) os
