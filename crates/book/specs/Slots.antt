-- The slots of a sailing: what each holds, and the last reservation number that was given.
use Rattle.std.specs.Prelude.{ℕ, ◌+◌, ◌*◌, ◌/◌, ◌%◌, ◌^◌, ◌<◌, ◌≤◌, Bool, false, cond, ◌&&◌, List, replicate, Some, None, Option, ◌==◌, nat_le, nat_lt, slice_index_or, slice_set}
use Rattle.std.specs.List.{position}
use Rattle.book.specs.Rules.{Rules, Reply, wrong_sort}
use Rattle.book.specs.declared.types.Op.{Op}
use Rattle.book.specs.declared.types.Reservation.{Reservation}
use Rattle.book.specs.declared.types.SlotsRequest.{SlotsRequest}
use Rattle.book.specs.declared.types.SlotsRequest.TheVariants.{Reserve, Cancel, Holder}
use Rattle.book.specs.declared.types.Sort.{Sort}
use Rattle.book.specs.declared.types.Sort.TheVariants.{Update, Query, Neither}

abbrev pub slot_count : ℕ
slot_count = 64

abbrev pub last_number : ℕ
last_number = 1000000

pub record Plan : Type 0 where
  pub slots : List (Option Reservation)
  pub last : ℕ

abbrev pub plan : List (Option Reservation) → ℕ → Plan
plan slots last = record { slots = slots; last = last }

abbrev pub empty_plan : Plan
empty_plan = plan (replicate slot_count None) 0

-- the two parts of an argument slot × 2^32 + container
abbrev pub slot_part : ℕ → ℕ
slot_part a = a / 2 ^ 32

abbrev pub container_part : ℕ → ℕ
container_part a = a % 2 ^ 32

-- code 1 reserves a slot for a container from 1 on
abbrev pub asks_reserve : Op → Bool
asks_reserve o = o.code == 1 && (nat_lt (slot_part o.argument) slot_count && nat_le 1 (container_part o.argument))

-- code 2 cancels a number from 1 to 1,000,000
abbrev pub asks_cancel : Op → Bool
asks_cancel o = o.code == 2 && (nat_le 1 o.argument && nat_le o.argument last_number)

-- code 3 asks which container holds a slot
abbrev pub asks_holder : Op → Bool
asks_holder o = o.code == 3 && nat_lt o.argument slot_count

abbrev pub slots_request : Op → Option SlotsRequest
slots_request o =
    cond (asks_reserve o) (Some (Reserve (slot_part o.argument) (container_part o.argument)))
    (cond (asks_cancel o) (Some (Cancel o.argument))
    (cond (asks_holder o) (Some (Holder o.argument)) None))

-- the operation that stands for a request
abbrev pub slots_op : SlotsRequest → Op
slots_op (Reserve i b) = record { code = 1; argument = i * 2 ^ 32 + b }
slots_op (Cancel n) = record { code = 2; argument = n }
slots_op (Holder i) = record { code = 3; argument = i }

-- the requests that an operation can stand for
abbrev pub SlotsRange : SlotsRequest → Type 0
SlotsRange (Reserve i b) = (i < slot_count) × (1 ≤ b)
SlotsRange (Cancel n) = (1 ≤ n) × (n ≤ last_number)
SlotsRange (Holder i) = i < slot_count

abbrev pub slots_sort : Option SlotsRequest → Sort
slots_sort (Some (Reserve i b)) = Update
slots_sort (Some (Cancel n)) = Update
slots_sort (Some (Holder i)) = Query
slots_sort None = Neither

abbrev pub slot_at : Plan → ℕ → Option Reservation
slot_at p i = slice_index_or p.slots i None

abbrev pub holds : ℕ → Option Reservation → Bool
holds n (Some r) = r.number == n
holds n None = false

-- the first slot that holds a number
abbrev pub slot_of : ℕ → List (Option Reservation) → Option ℕ
slot_of n xs = position (holds n) xs

abbrev pub number_left : Plan → Bool
number_left p = nat_lt p.last last_number

-- slot i takes the next number, for container b
abbrev pub taken : Plan → ℕ → ℕ → Plan
taken p i b = plan (slice_set p.slots i (Some (record { number = p.last + 1; container = b }))) (p.last + 1)

-- a reservation, by what the slot holds
abbrev pub reserved : Plan → ℕ → ℕ → Option Reservation → Plan
reserved p i b (Some r) = p
reserved p i b None = cond (number_left p) (taken p i b) p

abbrev pub reserve_reply : Plan → Option Reservation → Reply
reserve_reply p (Some r) = (1, r.number)
reserve_reply p None = cond (number_left p) (0, p.last + 1) (4, 0)

-- a cancellation, by the slot that holds the number
abbrev pub cancelled : Plan → Option ℕ → Plan
cancelled p (Some i) = plan (slice_set p.slots i None) p.last
cancelled p None = p

abbrev pub cancel_reply : ℕ → Option ℕ → Reply
cancel_reply n (Some i) = (0, i)
cancel_reply n None = (2, n)

abbrev pub holder_reply : Option Reservation → Reply
holder_reply (Some r) = (0, r.container)
holder_reply None = (3, 0)

abbrev pub slots_next : Plan → Option SlotsRequest → Plan
slots_next p (Some (Reserve i b)) = reserved p i b (slot_at p i)
slots_next p (Some (Cancel n)) = cancelled p (slot_of n p.slots)
slots_next p (Some (Holder i)) = p
slots_next p None = p

abbrev pub slots_reply : Plan → Option SlotsRequest → Reply
slots_reply p (Some (Reserve i b)) = reserve_reply p (slot_at p i)
slots_reply p (Some (Cancel n)) = cancel_reply n (slot_of n p.slots)
slots_reply p (Some (Holder i)) = holder_reply (slot_at p i)
slots_reply p None = wrong_sort

abbrev pub slots_rules : Rules Plan
slots_rules = record {
  first = empty_plan;
  sort = λ o. slots_sort (slots_request o);
  next = λ p o. slots_next p (slots_request o);
  reply = λ p o. slots_reply p (slots_request o);
}
