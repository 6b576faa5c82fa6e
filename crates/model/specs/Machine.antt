-- What a run holds, and what each call makes of it.
use Rattle.std.specs.Prelude.{ℕ, zero, suc, pred, ◌+◌, ◌-◌, ◌*◌, ◌/◌, ◌%◌, Bool, true, false, cond, ◌&&◌, List, [], ◌∷◌, ◌++◌, map, length, get_or, take, replicate, Some, None, Ok, Err, Option, Result, ◌==◌, nat_le, nat_lt, slice_index_or, slice_set}
use Rattle.memory.specs.Model.{Mem, loaded, pushed, marked, stored, written_back, fenced, Freedom}
use Rattle.book.specs.declared.types.Op.{Op}
use Rattle.book.specs.declared.types.Sort.{Sort}
use Rattle.book.specs.declared.types.Sort.TheVariants as sorts
use Rattle.book.specs.Rules.{Rules, Reply, is_update, apply_reply, ask_reply, after}
use Rattle.model.specs.Journal.{max_run, max_place, max_lines, station_count, min_log, max_log, within, word, entry_line, update_in, Entry, used_lines, log_length, log_start, logs, last_place, holding, agree}
use Rattle.model.specs.declared.types.Update.{Update}
use Rattle.model.specs.declared.types.Identity.{Identity}
use Rattle.model.specs.declared.types.Node.{Node}
use Rattle.model.specs.declared.types.Phase.{Phase}
use Rattle.model.specs.declared.types.Phase.TheVariants.{Look, Place, Walk, Write, Fence, Flag, Answer}
use Rattle.model.specs.declared.types.QueryPhase.{QueryPhase}
use Rattle.model.specs.declared.types.QueryPhase.TheVariants as query
use Rattle.model.specs.declared.types.Call.{Call}
use Rattle.model.specs.declared.types.Call.TheVariants as calls
use Rattle.model.specs.declared.types.Station.{Station}
use Rattle.model.specs.declared.types.Refusal.{Refusal}
use Rattle.model.specs.declared.types.Refusal.TheVariants.{LineCount, RunNumber, MissingPlace, Disagreement, NotAnUpdate, NotRising, NoStation, NotUp, Busy, NoSort, OrderFull, LogFull, NoCall, NoIdentity}
use Rattle.model.specs.declared.types.Rise.TheVariants as rises
use Rattle.model.specs.declared.types.Status.{Status}
use Rattle.model.specs.declared.types.Status.TheVariants.{Rising, Up, Shut}
use Rattle.model.specs.declared.types.Started.{Started}
use Rattle.model.specs.declared.types.Replied.{Replied}
use Rattle.model.specs.declared.types.Outcome.{Outcome}
use Rattle.model.specs.declared.types.Outcome.TheVariants.{Done, Open, Never}

-- a run: the order is its places from 1 on, the stations are 1 to 8
pub record Machine (S : Type 0) : Type 0 where
  pub status : Status
  pub number : ℕ
  pub order : List Node
  pub stations : List Station
  pub memory : Mem
  pub rules : Rules S
  pub state : S

-- Refusals

-- a refusal's number and detail
abbrev pub named : Refusal → (ℕ × ℕ)
named LineCount = (1, 0)
named RunNumber = (2, 0)
named (MissingPlace i) = (3, i)
named (Disagreement i) = (4, i)
named (NotAnUpdate i) = (5, i)
named NotRising = (6, 0)
named NoStation = (7, 0)
named NotUp = (8, 0)
named Busy = (9, 0)
named NoSort = (10, 0)
named OrderFull = (11, 0)
named LogFull = (12, 0)
named NoCall = (13, 0)
named NoIdentity = (14, 0)

-- a question, and the refusal that a no gives
abbrev pub ask : Bool → Refusal → Option Refusal
ask b q = cond b None (Some q)

-- questions are put in order, and the first no counts
abbrev pub first_of : Option Refusal → Option Refusal → Option Refusal
first_of None q = q
first_of (Some r) q = Some r

-- a shut run gives its own refusal before any question
abbrev pub shut_first : Status → Option Refusal → Option Refusal
shut_first (Rising x) q = q
shut_first Up q = q
shut_first (Shut r) q = Some r

-- What a call does

-- what is done to the memory: at most one touch
pub data Touch : Type 0 where
  nothing : Touch
  store : ℕ → ℕ → ℕ → Touch  -- line, word, value
  write_back : ℕ → Touch
  fence : Touch

-- an answer, the run with its memory as before, and the touch
pub record Doing (S A : Type 0) : Type 0 where
  pub answer : A
  pub machine : Machine S
  pub touch : Touch

-- the memory after a touch, where ns settle early
abbrev pub touched : Touch → List ℕ → Mem → Mem
touched nothing ns m = m
touched (store l w v) ns m = stored ns m l w v
touched (write_back l) ns m = written_back ns m l
touched fence ns m = fenced ns m

-- what a memory with this freedom may settle early at a touch
abbrev pub allowed : Freedom → Touch → Mem → List ℕ → Type 0
allowed F nothing m ns = Unit
allowed F (store l w v) m ns = F.early_by (pushed m l w v) ns
allowed F (write_back l) m ns = F.early_by (marked m l) ns
allowed F fence m ns = F.early_by m ns

abbrev pub with_memory : {S : Type 0} → Machine S → Mem → Machine S
with_memory r m = record { status = r.status; number = r.number; order = r.order; stations = r.stations; memory = m; rules = r.rules; state = r.state }

abbrev pub with_status : {S : Type 0} → Machine S → Status → Machine S
with_status r x = record { status = x; number = r.number; order = r.order; stations = r.stations; memory = r.memory; rules = r.rules; state = r.state }

abbrev pub with_station : {S : Type 0} → Machine S → ℕ → Station → Machine S
with_station r s x = record { status = r.status; number = r.number; order = r.order; stations = slice_set r.stations (pred s) x; memory = r.memory; rules = r.rules; state = r.state }

abbrev pub with_order : {S : Type 0} → Machine S → List Node → Machine S
with_order r o = record { status = r.status; number = r.number; order = o; stations = r.stations; memory = r.memory; rules = r.rules; state = r.state }

abbrev pub with_state : {S : Type 0} → Machine S → S → Machine S
with_state r x = record { status = r.status; number = r.number; order = r.order; stations = r.stations; memory = r.memory; rules = r.rules; state = x }

-- the run that a call leaves, where ns settle early
abbrev pub left : {S A : Type 0} → Doing S A → List ℕ → Machine S
left d ns = with_memory d.machine (touched d.touch ns d.machine.memory)

abbrev pub refused : {S A : Type 0} → Machine S → Refusal → Doing S (Result A Refusal)
refused r q = record { answer = Err q; machine = r; touch = nothing }

-- Start

abbrev pub no_op : Op
no_op = record { code = 0; argument = 0 }

abbrev pub no_update : Update
no_update = record { run = 0; station = 0; call = 0; op = no_op }

-- the update at a place, by the lines that hold the place
abbrev pub update_found : List (List ℕ) → Update
update_found [] = no_update
update_found (l ∷ ls) = update_in l

abbrev pub place_question : {S : Type 0} → Rules S → ℕ → List (List ℕ) → Option Refusal
place_question R i [] = Some (MissingPlace i)
place_question R i (l ∷ ls) = first_of (ask (agree l ls) (Disagreement i)) (ask (is_update (R.sort (update_in l).op)) (NotAnUpdate i))

-- the questions at n places from i on
abbrev pub place_questions : {S : Type 0} → Rules S → List (List Entry) → ℕ → ℕ → Option Refusal
place_questions R fss i zero = None
place_questions R fss i (suc n) = first_of (place_question R i (holding i fss)) (place_questions R fss (i + 1) n)

abbrev pub right_size : Mem → Bool
right_size m = within min_log (log_length m) max_log && length m.lines == 1 + station_count * log_length m

abbrev pub start_question : {S : Type 0} → Rules S → Mem → Option Refusal
start_question R m = first_of (ask (right_size m) LineCount) (first_of (ask (nat_lt (loaded m 0 0) max_run) RunNumber) (place_questions R (logs m) 1 (last_place m)))

-- the updates at n places from i on
abbrev pub updates_from : List (List Entry) → ℕ → ℕ → List Update
updates_from fss i zero = []
updates_from fss i (suc n) = update_found (holding i fss) ∷ updates_from fss (i + 1) n

-- the updates that reading finds
abbrev pub found : Mem → List Update
found m = updates_from (logs m) 1 (last_place m)

abbrev pub flagged : Update → Node
flagged u = record { update = u; flagged = true }

abbrev pub idle_station : ℕ → Station
idle_station used = record { call = calls.Idle; given = 0; used = used }

abbrev pub fresh_station : List Entry → Station
fresh_station fs = idle_station (used_lines fs)

abbrev pub started_by : {S : Type 0} → Option Refusal → Rules S → Mem → Machine S
started_by None R m = record { status = Rising rises.Store; number = loaded m 0 0 + 1; order = map flagged (found m); stations = map fresh_station (logs m); memory = m; rules = R; state = R.first }
started_by (Some q) R m = record { status = Shut q; number = 0; order = []; stations = replicate station_count (idle_station 0); memory = m; rules = R; state = R.first }

abbrev pub started : {S : Type 0} → Rules S → Mem → Machine S
started R m = started_by (start_question R m) R m

-- the run's number and how many updates were found, or the refusal
abbrev pub start_answer : {S : Type 0} → Machine S → Status → Result Started Refusal
start_answer r (Rising x) = Ok (record { run = r.number; found = length r.order })
start_answer r Up = Ok (record { run = r.number; found = length r.order })
start_answer r (Shut q) = Err q

-- Rise

abbrev pub rising : {S : Type 0} → Machine S → Status → Doing S (Result Unit Refusal)
rising r (Shut q) = refused r q
rising r Up = refused r NotRising
rising r (Rising rises.Store) = record { answer = Ok tt; machine = with_status r (Rising rises.WriteBack); touch = store 0 0 r.number }
rising r (Rising rises.WriteBack) = record { answer = Ok tt; machine = with_status r (Rising rises.Fence); touch = write_back 0 }
rising r (Rising rises.Fence) = record { answer = Ok tt; machine = with_status r Up; touch = fence }

-- Call

abbrev pub station_at : {S : Type 0} → Machine S → ℕ → Station
station_at r s = slice_index_or r.stations (pred s) (idle_station 0)

abbrev pub is_station : ℕ → Bool
is_station s = within 1 s station_count

abbrev pub is_idle : Call → Bool
is_idle calls.Idle = true
is_idle (calls.Update o p) = false
is_idle (calls.Query o p) = false

-- a call whose update has no place yet
abbrev pub unplaced_phase : Phase → ℕ
unplaced_phase Look = 1
unplaced_phase (Place n) = 1
unplaced_phase (Walk p u) = 0
unplaced_phase (Write o l t) = 0
unplaced_phase (Fence o l) = 0
unplaced_phase (Flag o) = 0
unplaced_phase (Answer p) = 0

abbrev pub unplaced_call : Call → ℕ
unplaced_call calls.Idle = 0
unplaced_call (calls.Update o p) = unplaced_phase p
unplaced_call (calls.Query o p) = 0

abbrev pub unplaced : List Station → ℕ
unplaced [] = 0
unplaced (x ∷ xs) = unplaced_call x.call + unplaced xs

abbrev pub is_up : Status → Bool
is_up (Rising x) = false
is_up Up = true
is_up (Shut q) = false

-- the questions of a call behind those on station and status
abbrev pub room_question : {S : Type 0} → Machine S → ℕ → Sort → Option Refusal
room_question r s sorts.Neither = Some NoSort
room_question r s sorts.Query = None
room_question r s sorts.Update =
    first_of (ask (nat_lt (length r.order + unplaced r.stations) max_place) OrderFull) (ask (nat_le ((station_at r s).used + max_lines) (log_length r.memory)) LogFull)

abbrev pub station_question : {S : Type 0} → Machine S → ℕ → Option Refusal
station_question r s = first_of (ask (is_station s) NoStation) (ask (is_up r.status) NotUp)

abbrev pub call_question : {S : Type 0} → Machine S → ℕ → Sort → Option Refusal
call_question r s x = first_of (station_question r s) (first_of (ask (is_idle (station_at r s).call) Busy) (room_question r s x))

abbrev pub called_station : Station → Op → Sort → Station
called_station x o sorts.Neither = x
called_station x o sorts.Query = record { call = calls.Query o query.Look; given = x.given; used = x.used }
called_station x o sorts.Update = record { call = calls.Update o Look; given = x.given + 1; used = x.used }

abbrev pub call_number : Station → Sort → ℕ
call_number x sorts.Neither = 0
call_number x sorts.Query = 0
call_number x sorts.Update = x.given + 1

abbrev pub calling_by : {S : Type 0} → Option Refusal → Machine S → ℕ → Op → Doing S (Result ℕ Refusal)
calling_by (Some q) r s o = refused r q
calling_by None r s o = record { answer = Ok (call_number (station_at r s) (r.rules.sort o)); machine = with_station r s (called_station (station_at r s) o (r.rules.sort o)); touch = nothing }

abbrev pub calling : {S : Type 0} → Machine S → ℕ → Op → Doing S (Result ℕ Refusal)
calling r s o = calling_by (shut_first r.status (call_question r s (r.rules.sort o))) r s o

-- Step

abbrev pub no_node : Node
no_node = record { update = no_update; flagged = false }

abbrev pub node_at : List Node → ℕ → Node
node_at o p = slice_index_or o (pred p) no_node

-- place 0 is always flagged
abbrev pub flag_at : List Node → ℕ → Bool
flag_at o zero = true
flag_at o (suc p) = (get_or o p no_node).flagged

abbrev pub ops : List Node → List Op
ops [] = []
ops (n ∷ ns) = n.update.op ∷ ops ns

-- the state after the first p updates, and the reply of the update at p
abbrev pub state_after : {S : Type 0} → Rules S → List Node → ℕ → S
state_after R o p = after R R.first (ops (take p o))

abbrev pub reply_at : {S : Type 0} → Rules S → List Node → ℕ → Reply
reply_at R o p = apply_reply R (state_after R o (pred p)) (node_at o p).update.op

abbrev pub with_call : Station → Call → Station
with_call x c = record { call = c; given = x.given; used = x.used }

abbrev pub set_flag : List Node → ℕ → List Node
set_flag o p = slice_set o (pred p) (record { update = (node_at o p).update; flagged = true })

-- line t of the entry for `own` that station s writes: it bears this run's number, whoever made its update
abbrev pub target_line : {S : Type 0} → Machine S → ℕ → ℕ → ℕ → List ℕ
target_line r own m t =
    let u = (node_at r.order (own - t)).update in
    entry_line own m t (record { run = r.number; station = u.station; call = u.call; op = u.op })

-- ten stages a line: 0 in word 7, words 0 to 6, word 7, write-back
abbrev pub write_touch : {S : Type 0} → Machine S → ℕ → ℕ → ℕ → ℕ → Touch
write_touch r s own m stage =
    let t = stage / 10 in let j = stage % 10 in
    let l = log_start (log_length r.memory) s + (station_at r s).used + t in
    cond (j == 0) (store l 7 0) (cond (nat_lt j 9) (store l (pred j) (word (target_line r own m t) (pred j))) (write_back l))

-- the answer of a step that replies
abbrev pub reply_given : ℕ → Reply → Option Replied
reply_given p v = Some (record { place = p; reply = v })

-- an update that is done, at this place
abbrev pub done_at : ℕ → Reply → Outcome
done_at p v = Done (record { place = p; reply = v })

abbrev pub going : {S : Type 0} → Machine S → ℕ → Station → Touch → Doing S (Result (Option Replied) Refusal)
going r s x touch = record { answer = Ok None; machine = with_station r s x; touch = touch }

-- the reply, at its place: the station is idle, and the book is left after the updates to the place
abbrev pub replied : {S : Type 0} → Machine S → ℕ → Station → ℕ → Reply → Doing S (Result (Option Replied) Refusal)
replied r s x p v = record { answer = Ok (reply_given p v); machine = with_state (with_station r s (with_call x calls.Idle)) (state_after r.rules r.order p); touch = nothing }

abbrev pub update_step : {S : Type 0} → Machine S → ℕ → Station → Op → Phase → Doing S (Result (Option Replied) Refusal)
update_step r s x o Look = going r s (with_call x (calls.Update o (Place (length r.order)))) nothing
update_step r s x o (Place n) =
    cond (length r.order == n)
    (going (with_order r (r.order ++ (record { update = record { run = r.number; station = s; call = x.given; op = o }; flagged = false } ∷ []))) s (with_call x (calls.Update o (Walk (n + 1) 0))) nothing)
    (going r s (with_call x (calls.Update o Look)) nothing)
update_step r s x o (Walk p u) =
    cond (flag_at r.order p)
    (going r s (with_call x (calls.Update o (Write (p + u) u 0))) nothing)
    (going r s (with_call x (calls.Update o (Walk (pred p) (u + 1)))) nothing)
update_step r s x o (Write own m stage) =
    going r s (with_call x (calls.Update o (cond (stage + 1 == 10 * m) (Fence own m) (Write own m (stage + 1))))) (write_touch r s own m stage)
update_step r s x o (Fence own m) = going r s (record { call = calls.Update o (Flag own); given = x.given; used = x.used + m }) fence
update_step r s x o (Flag own) = going (with_order r (set_flag r.order own)) s (with_call x (calls.Update o (Answer own))) nothing
update_step r s x o (Answer own) = replied r s x own (reply_at r.rules r.order own)

abbrev pub query_step : {S : Type 0} → Machine S → ℕ → Station → Op → QueryPhase → Doing S (Result (Option Replied) Refusal)
query_step r s x o query.Look = going r s (with_call x (calls.Query o (query.Walk (length r.order) 0))) nothing
query_step r s x o (query.Walk p u) =
    cond (flag_at r.order p)
    (going r s (with_call x (calls.Query o (query.Answer p))) nothing)
    (going r s (with_call x (calls.Query o (query.Walk (pred p) (u + 1)))) nothing)
query_step r s x o (query.Answer p) = replied r s x p (ask_reply r.rules (state_after r.rules r.order p) o)

abbrev pub station_step : {S : Type 0} → Machine S → ℕ → Station → Call → Doing S (Result (Option Replied) Refusal)
station_step r s x calls.Idle = refused r NoCall
station_step r s x (calls.Update o p) = update_step r s x o p
station_step r s x (calls.Query o p) = query_step r s x o p

abbrev pub stepping_by : {S : Type 0} → Option Refusal → Machine S → ℕ → Doing S (Result (Option Replied) Refusal)
stepping_by (Some q) r s = refused r q
stepping_by None r s = station_step r s (station_at r s) (station_at r s).call

abbrev pub stepping : {S : Type 0} → Machine S → ℕ → Doing S (Result (Option Replied) Refusal)
stepping r s = stepping_by (shut_first r.status (station_question r s)) r s

-- Outcome

abbrev pub highest_from : ℕ → ℕ → List Node → ℕ
highest_from best p [] = best
highest_from best p (n ∷ ns) = highest_from (cond n.flagged p best) (p + 1) ns

-- the highest flagged place
abbrev pub highest_flag : List Node → ℕ
highest_flag o = highest_from 0 1 o

abbrev pub identity_of : Update → Identity
identity_of u = record { run = u.run; station = u.station; call = u.call }

abbrev pub has_identity : Update → ℕ → ℕ → ℕ → Bool
has_identity u run s call = u.run == run && (u.station == s && u.call == call)

-- the lowest of the places p, p + 1, .. with this identity
abbrev pub place_of : List Node → ℕ → ℕ → ℕ → ℕ → Option ℕ
place_of [] p run s call = None
place_of (n ∷ ns) p run s call = cond (has_identity n.update run s call) (Some p) (place_of ns (p + 1) run s call)

-- an identity that may have been given: of a run up to this one, and in this one up to the station's newest
abbrev pub known : {S : Type 0} → Machine S → ℕ → ℕ → ℕ → Bool
known r run s call = within 1 run r.number && (within 1 call max_place && cond (run == r.number) (nat_le call (station_at r s).given) true)

abbrev pub told : {S : Type 0} → Machine S → ℕ → Option ℕ → Doing S (Result Outcome Refusal)
told r run None = record { answer = Ok (cond (run == r.number) Open Never); machine = r; touch = nothing }
told r run (Some p) = record { answer = Ok (done_at p (reply_at r.rules r.order p)); machine = with_state r (state_after r.rules r.order p); touch = nothing }

abbrev pub telling_by : {S : Type 0} → Option Refusal → Machine S → ℕ → ℕ → ℕ → Doing S (Result Outcome Refusal)
telling_by (Some q) r run s call = refused r q
telling_by None r run s call = told r run (place_of (take (highest_flag r.order) r.order) 1 run s call)

abbrev pub telling : {S : Type 0} → Machine S → ℕ → ℕ → ℕ → Doing S (Result Outcome Refusal)
telling r run s call = telling_by (shut_first r.status (first_of (station_question r s) (ask (known r run s call) NoIdentity))) r run s call
