-- The rules at work, on the lazy memory: examples that the definitions compute.
use Rattle.std.specs.Prelude.{◌≡◌, ℕ, zero, suc, List, [], ◌∷◌, replicate, Some, None, Ok, Err, Result, Option}
use Rattle.memory.specs.Model.{Mem, blank, settled_line, with_line, pushed, marked, cut, chosen}
use Rattle.memory.specs.Lazy.{early_count}
use Rattle.book.specs.Rules.{Rules}
use Rattle.book.specs.Slots.{Plan, slots_rules, slots_op}
use Rattle.book.specs.Tally.{tally_rules, tally_op}
use Rattle.book.specs.declared.types.Op.{Op}
use Rattle.book.specs.declared.types.SlotsRequest.TheVariants.{Reserve, Cancel}
use Rattle.book.specs.declared.types.TallyRequest.TheVariants.{Add, Read}
use Rattle.model.specs.Journal.{last_place, entry_line}
use Rattle.model.specs.Machine.{done_at, Machine, Doing, Touch, left, started, start_answer, start_question, rising, calling, stepping, telling, with_order, flagged, no_update, named, reply_given}
use Rattle.model.specs.Machine.Touch.{nothing, store, write_back, fence}
use Rattle.model.specs.declared.types.Outcome.TheVariants.{Open, Never}
use Rattle.model.specs.declared.types.Refusal.{Refusal}
use Rattle.model.specs.declared.types.Refusal.TheVariants.{LineCount, RunNumber, MissingPlace, Disagreement, NotAnUpdate, NotRising, NoStation, NotUp, Busy, NoSort, OrderFull, LogFull, NoCall, NoIdentity}
use Rattle.model.specs.declared.types.Replied.{Replied}
use Rattle.model.specs.declared.types.Update.{Update}

-- what the lazy memory settles early at a touch
abbrev pub lazily : Touch → Mem → List ℕ
lazily nothing m = []
lazily (store l w v) m = chosen early_count (pushed m l w v)
lazily (write_back l) m = chosen early_count (marked m l)
lazily fence m = chosen early_count m

-- the run after a call
abbrev pub then' : {S A : Type 0} → Doing S A → Machine S
then' d = left d (lazily d.touch d.machine.memory)

abbrev pub rise : {S : Type 0} → Machine S → Machine S
rise r = then' (rising r r.status)

-- a run that has started on this memory and risen
abbrev pub up : {S : Type 0} → Rules S → Mem → Machine S
up R m = rise (rise (rise (started R m)))

abbrev pub call : {S : Type 0} → ℕ → Op → Machine S → Machine S
call s o r = then' (calling r s o)

abbrev pub steps : {S : Type 0} → ℕ → ℕ → Machine S → Machine S
steps s zero r = r
steps s (suc n) r = steps s n (then' (stepping r s))

-- the answer of the step after these
abbrev pub next_step : {S : Type 0} → ℕ → Machine S → Result (Option Replied) Refusal
next_step s r = (stepping r s).answer

-- a line of a memory laid by hand
abbrev pub lay : ℕ → List ℕ → Mem → Mem
lay l ws m = with_line m l (settled_line ws)

-- the smallest memory: 65 lines, eight a log
abbrev pub small : Mem
small = blank 65

abbrev pub tally : Machine ℕ
tally = up tally_rules small

-- station 1 has called an addition of 5
abbrev pub adding : Machine ℕ
adding = call 1 (tally_op (Add 5)) tally

-- stations 1, 2 and 3 add 1 each: 1 has placed its update, 2 has written both and flagged its own, 3 has placed its own
abbrev pub three : Machine ℕ
three = steps 3 10 (steps 2 26 (steps 1 2 (call 3 (tally_op (Add 1)) (call 2 (tally_op (Add 1)) (call 1 (tally_op (Add 1)) tally)))))

-- station 4 then reads
abbrev pub reading : Machine ℕ
reading = call 4 (tally_op Read) three

-- the run after a cut of that one that keeps nothing
abbrev pub after_cut : Machine ℕ
after_cut = up tally_rules (cut [] (steps 4 6 reading).memory)

-- one station after another, each to its reply
abbrev pub slots : Machine Plan
slots = up slots_rules small

abbrev pub whole : ℕ → Op → Machine Plan → Machine Plan
whole s o r = steps s 17 (call s o r)

abbrev pub rebooked : Machine Plan
rebooked = call 4 (slots_op (Cancel 1)) (whole 3 (slots_op (Reserve 3 800)) (whole 2 (slots_op (Cancel 1)) (whole 1 (slots_op (Reserve 3 700)) slots)))

abbrev pub bad : Op
bad = record { code = 9; argument = 9 }

abbrev pub update : ℕ → ℕ → ℕ → Op → Update
update run s n o = record { run = run; station = s; call = n; op = o }

-- memories that were laid by hand: a lone entry for place 2, two that disagree about place 1, a query at place 1
abbrev pub lone : Mem
lone = lay 1 (entry_line 2 1 0 (update 1 1 1 (tally_op (Add 5)))) small

abbrev pub disagreeing : Mem
disagreeing = lay 9 (entry_line 1 1 0 (update 1 2 1 (tally_op (Add 6)))) (lay 1 (entry_line 1 1 0 (update 1 1 1 (tally_op (Add 5)))) small)

abbrev pub queried : Mem
queried = lay 1 (entry_line 1 1 0 (update 1 1 1 (tally_op Read))) small

abbrev pub worn_out : Mem
worn_out = lay 0 (65535 ∷ 0 ∷ 0 ∷ 0 ∷ 0 ∷ 0 ∷ 0 ∷ 0 ∷ []) small

-- a start refused for the missing place
abbrev pub shut : Machine ℕ
shut = started tally_rules lone

-- an order of n updates
abbrev pub long_order : ℕ → Machine ℕ
long_order n = with_order tally (replicate n (flagged no_update))

-- station 2 looked before station 1 placed
abbrev pub overtaken : Machine ℕ
overtaken = steps 1 2 (steps 2 1 (call 2 (tally_op (Add 7)) adding))

pub record Worked : Type 0 where
  -- one addition takes seventeen steps and replies at place 1
  pub adds : next_step 1 (steps 1 16 adding) ≡ Ok (reply_given 1 (0, 5))
  pub goes_on : next_step 1 (steps 1 15 adding) ≡ Ok None
  -- cut after its line was stored: nine stores kept make the entry, eight do not; after the fence none need be kept
  pub nine_kept : last_place (cut (0 ∷ 9 ∷ []) (steps 1 13 adding).memory) ≡ 1
  pub eight_kept : last_place (cut (0 ∷ 8 ∷ []) (steps 1 13 adding).memory) ≡ 0
  pub fenced : last_place (cut [] (steps 1 15 adding).memory) ≡ 1
  -- a query reads below what is not flagged: place 0 here; a cut still finds the two updates that were written
  pub reads_flagged : next_step 4 (steps 4 5 reading) ≡ Ok (reply_given 0 (0, 0))
  pub reads_on : next_step 4 (steps 4 4 reading) ≡ Ok None
  pub cut_finds : last_place (cut [] (steps 4 6 reading).memory) ≡ 2
  -- the next run knows what became of them
  pub was_done : (telling after_cut 1 1 1).answer ≡ Ok (done_at 1 (0, 1))
  pub was_lost : (telling after_cut 1 3 1).answer ≡ Ok Never
  -- a late cancellation finds no booking
  pub late_cancel : next_step 4 (steps 4 16 rebooked) ≡ Ok (reply_given 4 (2, 1))
  -- memories of 57 lines are refused, of 65 taken
  pub too_small : start_question tally_rules (blank 57) ≡ Some LineCount
  pub large_enough : start_question tally_rules (blank 65) ≡ None
  pub no_whole_logs : start_question tally_rules (blank 66) ≡ Some LineCount
  pub largest : start_question tally_rules (blank 513) ≡ None
  pub too_large : start_question tally_rules (blank 521) ≡ Some LineCount
  -- an entry for place 2 alone leaves place 1 missing
  pub missing : start_question tally_rules lone ≡ Some (MissingPlace 1)
  pub missing_named : named (MissingPlace 1) ≡ (3, 1)
  -- the other refusals of a start
  pub no_number : start_question tally_rules worn_out ≡ Some RunNumber
  pub disagree : start_question tally_rules disagreeing ≡ Some (Disagreement 1)
  pub not_update : start_question tally_rules queried ≡ Some (NotAnUpdate 1)
  -- eight free lines are enough for an update, seven are not; a query needs none
  pub eight_free : (calling (steps 1 17 (call 1 (tally_op (Add 5)) (up tally_rules (blank 73)))) 1 (tally_op (Add 1))).answer ≡ Ok 2
  pub seven_free : (calling (steps 1 17 adding) 1 (tally_op (Add 1))).answer ≡ Err LogFull
  pub query_needs_none : (calling (steps 1 17 adding) 1 (tally_op Read)).answer ≡ Ok 0
  -- an order of 255 takes one more, of 256 none; what is called and not placed counts
  pub last_room : (calling (long_order 255) 1 (tally_op (Add 1))).answer ≡ Ok 1
  pub order_full : (calling (long_order 256) 1 (tally_op (Add 1))).answer ≡ Err OrderFull
  pub called_counts : (calling (call 2 (tally_op (Add 1)) (long_order 255)) 1 (tally_op (Add 1))).answer ≡ Err OrderFull
  -- a place that fails looks again: two steps more
  pub fails_once : next_step 2 (steps 2 18 overtaken) ≡ Ok None
  pub answers_after : next_step 2 (steps 2 28 overtaken) ≡ Ok (reply_given 2 (0, 12))
  -- an update of this run is open until its flag is set, then done
  pub still_open : (telling (steps 1 15 adding) 1 1 1).answer ≡ Ok Open
  pub now_done : (telling (steps 1 16 adding) 1 1 1).answer ≡ Ok (done_at 1 (0, 5))
  -- the refusals of a run
  pub not_rising : (rising tally tally.status).answer ≡ Err NotRising
  pub no_station : (calling (started tally_rules small) 9 bad).answer ≡ Err NoStation
  pub station_zero : (stepping tally 0).answer ≡ Err NoStation
  pub not_up : (calling (started tally_rules small) 1 bad).answer ≡ Err NotUp
  pub busy : (calling adding 1 bad).answer ≡ Err Busy
  pub no_sort : (calling tally 1 bad).answer ≡ Err NoSort
  pub no_call : (stepping tally 1).answer ≡ Err NoCall
  pub not_given : (telling (steps 1 17 adding) 1 1 2).answer ≡ Err NoIdentity
  pub no_run_yet : (telling (steps 1 17 adding) 2 1 1).answer ≡ Err NoIdentity
  -- a shut run gives its refusal to everything, before any other question
  pub shut_start : start_answer shut shut.status ≡ Err (MissingPlace 1)
  pub shut_rise : (rising shut shut.status).answer ≡ Err (MissingPlace 1)
  pub shut_call : (calling shut 0 bad).answer ≡ Err (MissingPlace 1)
  pub shut_step : (stepping shut 9).answer ≡ Err (MissingPlace 1)
  pub shut_outcome : (telling shut 9 9 9).answer ≡ Err (MissingPlace 1)
