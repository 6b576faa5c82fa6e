-- What holds after every list of starts, rises, calls, steps, outcomes and cuts on a memory that was blank, whatever
-- settles early and whatever a cut keeps.
use Rattle.std.specs.Prelude.{◌≡◌, ℕ, zero, suc, pred, ◌<◌, ◌≤◌, min, List, [], ◌∷◌, map, length, take, Some, Ok, Err, ◌≢◌, slice_index_or}
use Rattle.std.specs.List.{AllByRecursion}
use Rattle.memory.specs.Model.{Mem}
use Rattle.book.specs.declared.types.Op.{Op}
use Rattle.book.specs.Rules.{Rules, Reply, apply_reply, ask_reply, after}
use Rattle.model.specs.Journal.{max_run, max_lines, station_count, logs}
use Rattle.model.specs.Machine.{done_at, Machine, no_update, found, reply_given}
use Rattle.model.specs.History.{Moment, World, Led, Came, Tells, ledger, updates, found_count, Made, newest, fences_since}
use Rattle.model.specs.History.Moment.{started, called, stepped, told, cut}
use Rattle.model.specs.History.World.{resting, running}
use Rattle.model.specs.declared.types.Update.{Update}
use Rattle.model.specs.declared.types.Phase.{Phase}
use Rattle.model.specs.declared.types.Phase.TheVariants.{Look, Place, Walk, Write, Fence, Flag, Answer}
use Rattle.model.specs.declared.types.QueryPhase.{QueryPhase}
use Rattle.model.specs.declared.types.QueryPhase.TheVariants as query
use Rattle.model.specs.declared.types.Call.{Call}
use Rattle.model.specs.declared.types.Call.TheVariants as calls
use Rattle.model.specs.declared.types.Refusal.{Refusal}
use Rattle.model.specs.declared.types.Refusal.TheVariants.{RunNumber}
use Rattle.model.specs.declared.types.Started.{Started}
use Rattle.model.specs.declared.types.Status.{Status}
use Rattle.model.specs.declared.types.Status.TheVariants.{Rising, Up, Shut}
use Rattle.model.specs.declared.types.Outcome.{Outcome}
use Rattle.model.specs.declared.types.Outcome.TheVariants.{Open}

-- The ledger is what is kept

-- in a run that is not shut the order, flags aside, is the ledger; at rest or shut, reading the memory finds it
abbrev pub kept_run : {S : Type 0} → Machine S → Status → List Update → Type 0
kept_run r (Rising x) us = map (λ n. n.update) r.order ≡ us
kept_run r Up us = map (λ n. n.update) r.order ≡ us
kept_run r (Shut q) us = found r.memory ≡ us

abbrev pub Kept : {S : Type 0} → World S → List Update → Type 0
Kept (resting m) us = found m ≡ us
Kept (running r) us = kept_run r r.status us

-- What a cut leaves, and what a start finds

pub record Durable (h : List Moment) : Type 0 where
  -- a cut leaves the first k updates, among them each one at or below a place that was ever told
  pub cuts : (k : ℕ) (e : List Moment) → h ≡ cut k ∷ e → (k ≤ length (updates e)) × ((x : Moment) (p : ℕ) (f : List Moment) → Came e x f → Tells x p → p ≤ k)
  -- a start is refused only for want of a run number, and finds the ledger otherwise
  pub refused : (q : Refusal) (e : List Moment) → h ≡ started (Err q) ∷ e → (q ≡ RunNumber) × ((ledger e).run ≡ max_run)
  pub finds : (a : Started) (e : List Moment) → h ≡ started (Ok a) ∷ e → a.found ≡ length (updates e)

-- Replies

abbrev pub ops : List Update → List Op
ops [] = []
ops (u ∷ us) = u.op ∷ ops us

-- the book's state after the first p updates
abbrev pub state_at : {S : Type 0} → Rules S → List Update → ℕ → S
state_at R us p = after R R.first (ops (take p us))

-- the update at place p, counted from 1
abbrev pub update_at : List Update → ℕ → Update
update_at us p = slice_index_or us (pred p) no_update

-- the reply to a call of this number at place p: an update's is the book's after all updates below, a query's the book's
-- after that many
abbrev pub reply_of : {S : Type 0} → Rules S → List Update → ℕ → Op → ℕ → Reply
reply_of R us zero o p = ask_reply R (state_at R us p) o
reply_of R us (suc n) o p = apply_reply R (state_at R us (pred p)) o

-- the place p is one of the ledger, and an update's holds that update
abbrev pub holds_number : List Update → ℕ → Made → ℕ → ℕ → Type 0
holds_number us s c p zero = p ≤ length us
holds_number us s c p (suc n) = (1 ≤ p) × (p ≤ length us) × (update_at us p ≡ record { run = c.run; station = s; call = suc n; op = c.op })

abbrev pub holds_call : List Update → ℕ → Made → ℕ → Type 0
holds_call us s c p = holds_number us s c p c.number

abbrev pub identity : Update → ℕ × ℕ × ℕ
identity u = (u.run, u.station, u.call)

pub record Linearizable {S : Type 0} (R : Rules S) (h : List Moment) : Type 0 where
  -- every reply ever given answers its station's open call, and is the ledger's as it is now
  pub replied : (s p : ℕ) (v : Reply) (b : ℕ) (e : List Moment) → Came h (stepped s (Ok (reply_given p v)) b) e →
      (c : Made) × (newest e s ≡ Some c) × holds_call (updates h) s c p × (v ≡ reply_of R (updates h) c.number c.op p)
  -- and so is every outcome told done
  pub outcomes : (run s n p : ℕ) (v : Reply) (e : List Moment) → Came h (told run s n (Ok (done_at p v))) e →
      (1 ≤ p) × (p ≤ length (updates h)) × (identity (update_at (updates h) p) ≡ (run, s, n))
      × (v ≡ apply_reply R (state_at R (updates h) (pred p)) (update_at (updates h) p).op)
  -- a place told before a call was made is not above the place of its reply, and below it if the call is an update
  pub ordered : (s p : ℕ) (v : Reply) (b : ℕ) (e : List Moment) (c : Made) (x : Moment) (q : ℕ) (f : List Moment) →
      Came h (stepped s (Ok (reply_given p v)) b) e → newest e s ≡ Some c → Came c.before x f → Tells x q →
      (q ≤ p) × (1 ≤ c.number → q < p)

-- Identities and outcomes

pub record Identified (h : List Moment) : Type 0 where
  -- no identity is given twice, and none stands twice in the ledger
  pub once : (s n : ℕ) (o₁ o₂ : Op) (e₁ e₂ : List Moment) →
      Came h (called s o₂ (Ok n)) e₂ → Came e₂ (called s o₁ (Ok n)) e₁ → 1 ≤ n → (ledger e₁).run ≢ (ledger e₂).run
  pub distinct : (i j : ℕ) → 1 ≤ i → i < j → j ≤ length (updates h) → identity (update_at (updates h) i) ≢ identity (update_at (updates h) j)
  -- of an earlier run, done is told exactly for the updates that the start found, and none otherwise
  pub earlier : (run s n : ℕ) (a : Outcome) (e : List Moment) → Came h (told run s n (Ok a)) e → run < (ledger e).run →
      ((p : ℕ) → 1 ≤ p → p ≤ found_count e → identity (update_at (updates e) p) ≡ (run, s, n) → (q : ℕ) × (v : Reply) × (a ≡ done_at q v))
      × ((q : ℕ) (v : Reply) → a ≡ done_at q v → (1 ≤ q) × (q ≤ found_count e) × (identity (update_at (updates e) q) ≡ (run, s, n)))
      × (a ≢ Open)
  -- what was told done or none is never told otherwise
  pub steady : (run s n : ℕ) (a b : Outcome) (e₁ e₂ : List Moment) →
      Came h (told run s n (Ok b)) e₂ → Came e₂ (told run s n (Ok a)) e₁ → (a ≢ Open) → b ≡ a
  -- an update that was replied to is told done, with the same place and reply
  pub answered : (s p : ℕ) (v : Reply) (b : ℕ) (a : Outcome) (c : Made) (e f : List Moment) →
      Came h (told c.run s c.number (Ok a)) e → Came e (stepped s (Ok (reply_given p v)) b) f → newest f s ≡ Some c → 1 ≤ c.number → a ≡ done_at p v

-- Costs and bounds

-- an update that was replied to has cost one fence by the memory's own count, a query none
abbrev pub OneFence : List Moment → Type 0
OneFence h = (s p : ℕ) (v : Reply) (b : ℕ) (e : List Moment) (c : Made) → Came h (stepped s (Ok (reply_given p v)) b) e → newest e s ≡ Some c →
    fences_since (stepped s (Ok (reply_given p v)) b ∷ e) s ≡ min 1 c.number

-- a walk finds at most eight places unset, a query's at most seven, and an entry has one to eight lines
abbrev pub bounded_phase : Phase → Type 0
bounded_phase Look = Unit
bounded_phase (Place n) = Unit
bounded_phase (Walk p u) = u ≤ max_lines
bounded_phase (Write o m t) = (1 ≤ m) × (m ≤ max_lines)
bounded_phase (Fence o m) = (1 ≤ m) × (m ≤ max_lines)
bounded_phase (Flag o) = Unit
bounded_phase (Answer o) = Unit

abbrev pub bounded_query : QueryPhase → Type 0
bounded_query query.Look = Unit
bounded_query (query.Walk p u) = u < station_count
bounded_query (query.Answer p) = Unit

abbrev pub bounded_call : Call → Type 0
bounded_call calls.Idle = Unit
bounded_call (calls.Update o x) = bounded_phase x
bounded_call (calls.Query o x) = bounded_query x

abbrev pub bounded_entries : Mem → Type 0
bounded_entries m = AllByRecursion (λ es. AllByRecursion (λ e. (1 ≤ length e.lines) × (length e.lines ≤ max_lines)) es) (logs m)

abbrev pub Bounded : {S : Type 0} → World S → Type 0
Bounded (resting m) = bounded_entries m
Bounded (running r) = AllByRecursion (λ x. bounded_call x.call) r.stations × bounded_entries r.memory

-- The law

pub record Promises {S : Type 0} (R : Rules S) (h : List Moment) (w : World S) : Type 0 where
  pub kept : Kept w (updates h)
  pub durable : Durable h
  pub linearizable : Linearizable R h
  pub identified : Identified h
  pub one_fence : OneFence h
  pub bounded : Bounded w

-- for books of these rules
abbrev pub Lasting : {S : Type 0} → Rules S → Type 0
Lasting {S} R = (h : List Moment) (w : World S) → Led R h w → Promises R h w
