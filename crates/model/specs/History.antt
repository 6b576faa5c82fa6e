-- Histories: what can come, with its answer, and what it leaves; and the ledger of updates that a history makes.
use Rattle.std.specs.Prelude.{◌≡◌, ℕ, zero, suc, pred, ◌+◌, ◌-◌, ◌*◌, ◌%◌, ◌^◌, ◌≤◌, cond, List, [], ◌∷◌, ◌++◌, length, take, replicate, Some, None, Ok, Err, Option, Result, ◌==◌, slice_index_or, slice_set}
use Rattle.memory.specs.Model as memory
use Rattle.memory.specs.Model.{Mem}
use Rattle.book.specs.declared.types.Op.{Op}
use Rattle.book.specs.Rules.{Rules, Reply}
use Rattle.model.specs.Journal.{station_count, min_log, max_log}
use Rattle.model.specs.Machine as machine
use Rattle.model.specs.Machine.{done_at, Machine, start_answer, rising, calling, stepping, telling, left, found, reply_given}
use Rattle.model.specs.declared.types.Update.{Update}
use Rattle.model.specs.declared.types.Refusal.{Refusal}
use Rattle.model.specs.declared.types.Started.{Started}
use Rattle.model.specs.declared.types.Replied.{Replied}
use Rattle.model.specs.declared.types.Outcome.{Outcome}

-- What can come

-- a call that came, with its answer. A step also has the fences that the memory counted over it; a cut has the number
-- of updates that reading finds in the memory given back
pub data Moment : Type 0 where
  started : Result Started Refusal → Moment
  risen : Result Unit Refusal → Moment
  called : ℕ → Op → Result ℕ Refusal → Moment  -- station, operation
  stepped : ℕ → Result (Option Replied) Refusal → ℕ → Moment  -- station
  told : ℕ → ℕ → ℕ → Result Outcome Refusal → Moment  -- run, station, call number
  cut : ℕ → Moment

-- a memory at rest, or a run, shut or not
pub data World (S : Type 0) : Type 0 where
  resting : Mem → World S
  running : Machine S → World S

-- the fences that a memory counted from m to n; the count is one of 32 bits
abbrev pub paid : Mem → Mem → ℕ
paid m n = (n.fences + 2 ^ 32 - m.fences) % 2 ^ 32

-- at rest only a start can come, in a run all the others; ns is what the memory settles early, or keeps at a cut, and is
-- not limited
pub data Happens {S : Type 0} (R : Rules S) : World S → Moment → World S → Type 0 where
  start : (m : Mem) → Happens R (resting m) (started (start_answer (machine.started R m) (machine.started R m).status)) (running (machine.started R m))
  rise : (r : Machine S) (ns : List ℕ) → Happens R (running r) (risen (rising r r.status).answer) (running (left (rising r r.status) ns))
  call : (r : Machine S) (s : ℕ) (o : Op) → Happens R (running r) (called s o (calling r s o).answer) (running (calling r s o).machine)
  step : (r : Machine S) (s : ℕ) (ns : List ℕ) → Happens R (running r) (stepped s (stepping r s).answer (paid r.memory (left (stepping r s) ns).memory)) (running (left (stepping r s) ns))
  outcome : (r : Machine S) (run s n : ℕ) → Happens R (running r) (told run s n (telling r run s n).answer) (running (telling r run s n).machine)
  cut : (r : Machine S) (ns : List ℕ) → Happens R (running r) (Moment.cut (length (found (memory.cut ns r.memory)))) (resting (memory.cut ns r.memory))

-- a history, newest moment first, has led from a blank memory to this world
abbrev pub Led : {S : Type 0} → Rules S → List Moment → World S → Type 0
Led R [] w = (L : ℕ) × (min_log ≤ L) × (L ≤ max_log) × (w ≡ resting (memory.blank (1 + station_count * L)))
Led {S} R (x ∷ h) w = (v : World S) × Led R h v × Happens R v x w

-- x came when the history was e
abbrev pub Came : List Moment → Moment → List Moment → Type 0
Came h x e = (l : List Moment) × (h ≡ l ++ x ∷ e)

-- the moment tells that the updates up to this place are done
pub data Tells : Moment → ℕ → Type 0 where
  by_reply : {s p : ℕ} {v : Reply} {b : ℕ} → Tells (stepped s (Ok (reply_given p v)) b) p
  by_done : {run s n p : ℕ} {v : Reply} → Tells (told run s n (Ok (done_at p v))) p

-- The ledger

-- an update that was called for and is not in the ledger yet, and the length that it has noted
pub record Waiting : Type 0 where
  pub update : Update
  pub noted : Option ℕ

-- the number of the newest run, the updates, and for each station the update that waits
pub record Ledger : Type 0 where
  pub run : ℕ
  pub updates : List Update
  pub waiting : List (Option Waiting)

abbrev pub nobody : List (Option Waiting)
nobody = replicate station_count None

abbrev pub with_waiting : Ledger → ℕ → Option Waiting → Ledger
with_waiting l s w = record { run = l.run; updates = l.updates; waiting = slice_set l.waiting (pred s) w }

-- a call number of 1 or more leaves the update waiting
abbrev pub called_ledger : Ledger → ℕ → Op → ℕ → Ledger
called_ledger l s o zero = l
called_ledger l s o (suc n) = with_waiting l s (Some (record { update = record { run = l.run; station = s; call = suc n; op = o }; noted = None }))

-- one step notes the length; the next one puts the update last if the length is the same, and else begins again
abbrev pub noting : Ledger → ℕ → Update → Option ℕ → Ledger
noting l s u None = with_waiting l s (Some (record { update = u; noted = Some (length l.updates) }))
noting l s u (Some n) =
    cond (n == length l.updates)
    (record { run = l.run; updates = l.updates ++ u ∷ []; waiting = slice_set l.waiting (pred s) None })
    (with_waiting l s (Some (record { update = u; noted = None })))

abbrev pub stepped_ledger : Ledger → ℕ → Option Waiting → Ledger
stepped_ledger l s None = l
stepped_ledger l s (Some w) = noting l s w.update w.noted

abbrev pub fed : Ledger → Moment → Ledger
fed l (started (Ok a)) = record { run = a.run; updates = l.updates; waiting = nobody }
fed l (started (Err q)) = l
fed l (risen a) = l
fed l (called s o (Ok n)) = called_ledger l s o n
fed l (called s o (Err q)) = l
fed l (stepped s (Ok a) b) = stepped_ledger l s (slice_index_or l.waiting (pred s) None)
fed l (stepped s (Err q) b) = l
fed l (told run s n a) = l
fed l (cut k) = record { run = l.run; updates = take k l.updates; waiting = nobody }

abbrev pub ledger : List Moment → Ledger
ledger [] = record { run = 0; updates = []; waiting = nobody }
ledger (x ∷ h) = fed (ledger h) x

abbrev pub updates : List Moment → List Update
updates h = (ledger h).updates

-- how many updates the newest start found
abbrev pub found_count : List Moment → ℕ
found_count [] = 0
found_count (started (Ok a) ∷ h) = a.found
found_count (started (Err q) ∷ h) = found_count h
found_count (risen a ∷ h) = found_count h
found_count (called s o a ∷ h) = found_count h
found_count (stepped s a b ∷ h) = found_count h
found_count (told run s n a ∷ h) = found_count h
found_count (cut k ∷ h) = found_count h

-- Open calls

-- a call that was made: in which run, with which number, for which operation, and the history before it
pub record Made : Type 0 where
  pub run : ℕ
  pub number : ℕ
  pub op : Op
  pub before : List Moment

abbrev pub open_after : Result (Option Replied) Refusal → Option Made → Option Made
open_after (Ok None) c = c
open_after (Ok (Some x)) c = None
open_after (Err q) c = c

-- the open call of station s: its newest, unless it was replied to or a start or a cut came since
abbrev pub newest : List Moment → ℕ → Option Made
newest [] s = None
newest (started a ∷ h) s = None
newest (risen a ∷ h) s = newest h s
newest (called t o (Ok n) ∷ h) s = cond (t == s) (Some (record { run = (ledger h).run; number = n; op = o; before = h })) (newest h s)
newest (called t o (Err q) ∷ h) s = newest h s
newest (stepped t a b ∷ h) s = cond (t == s) (open_after a (newest h s)) (newest h s)
newest (told run t n a ∷ h) s = newest h s
newest (cut k ∷ h) s = None

-- the fences that the steps of station s have cost since its newest call
abbrev pub fences_since : List Moment → ℕ → ℕ
fences_since [] s = 0
fences_since (started a ∷ h) s = fences_since h s
fences_since (risen a ∷ h) s = fences_since h s
fences_since (called t o (Ok n) ∷ h) s = cond (t == s) 0 (fences_since h s)
fences_since (called t o (Err q) ∷ h) s = fences_since h s
fences_since (stepped t a b ∷ h) s = cond (t == s) b 0 + fences_since h s
fences_since (told run t n a ∷ h) s = fences_since h s
fences_since (cut k ∷ h) s = fences_since h s
