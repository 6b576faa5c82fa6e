-- Real time: what was told before a call was made lies below the place that the call gets; and each update pays one fence.
use Rattle.std.proofs.Common.{◌≡◌, ℕ, pred, ◌+◌, ◌*◌, ◌%◌, ◌^◌, ◌<◌, ◌≤◌, max, Bool, true, false, cond, ◌&&◌, eqb, ltb, List, [], ◌∷◌, ◌++◌, length, set, Some, Ok, Err, Option, Result, sym, refl, ◌∙◌, subst, inl, inr, arith, None}
use Rattle.std.proofs.lemmas.Bool.{both_ways, eqb-true, eq-eqb, ne_eqb, cases_lt, cases_eq, cond_both}
use Rattle.memory.specs.Model.{Mem, has_line}
use Rattle.book.specs.declared.types.Op.{Op}
use Rattle.model.specs.Journal.{station_count}
use Rattle.model.specs.Machine.{Machine, Touch, Doing, touched, left, refused, station_at, flag_at, with_call, write_touch, going, update_step, query_step, station_step, stepping}
use Rattle.model.specs.Machine.Touch.{nothing, store, write_back, fence}
use Rattle.model.specs.History.{Moment, paid, Came, Tells, Ledger, Made, newest, fences_since}
use Rattle.model.specs.History.Moment.{started, risen, called, stepped, told, cut}
use Rattle.model.specs.History.Tells.{by_reply, by_done}
use Rattle.model.specs.declared.types.Node.{Node}
use Rattle.model.specs.declared.types.Phase.{Phase}
use Rattle.model.specs.declared.types.Phase.TheVariants.{Look, Place, Walk, Write, Fence, Flag, Answer}
use Rattle.model.specs.declared.types.QueryPhase.{QueryPhase}
use Rattle.model.specs.declared.types.QueryPhase.TheVariants as query
use Rattle.model.specs.declared.types.Call.{Call}
use Rattle.model.specs.declared.types.Call.TheVariants as calls
use Rattle.model.specs.declared.types.Station.{Station}
use Rattle.model.specs.declared.types.Refusal.{Refusal}
use Rattle.model.specs.declared.types.Refusal.TheVariants.{NoCall}
use Rattle.model.specs.declared.types.Replied.{Replied}
use Rattle.model.specs.declared.types.Outcome.{Outcome}
use Rattle.model.specs.declared.types.Outcome.TheVariants.{Done, Open, Never}
use Rattle.model.proofs.Sound.{station_of, each_station, own_update, stand_query, Grown, grown_same, flag_other}
use Rattle.model.proofs.Moves.{grown_push, unflagged, flag_set, grown_flag}
use Rattle.model.proofs.Steps.{walk_low, SoundAt, StandsAt, stands_at, stepping_cases}

-- Places told

-- the place that a moment tells; 0 if it tells none
abbrev pub reply_place : Result (Option Replied) Refusal → ℕ
reply_place (Ok None) = 0
reply_place (Ok (Some x)) = x.place
reply_place (Err q) = 0

abbrev pub outcome_place : Result Outcome Refusal → ℕ
outcome_place (Ok (Done x)) = x.place
outcome_place (Ok Open) = 0
outcome_place (Ok Never) = 0
outcome_place (Err q) = 0

abbrev pub told_place : Moment → ℕ
told_place (started a) = 0
told_place (risen a) = 0
told_place (called s o a) = 0
told_place (stepped s a b) = reply_place a
told_place (told run s n a) = outcome_place a
told_place (cut k) = 0

-- the highest place that a history has told
abbrev pub peak : List Moment → ℕ
peak [] = 0
peak (x ∷ h) = max (told_place x) (peak h)

tells_place : (x : Moment) (p : ℕ) → Tells x p → p ≤ told_place x
tells_place x p by_reply = omega arith
tells_place x p by_done = omega arith

-- nothing that was told is above the peak
pub came_peak : (h e : List Moment) (x : Moment) (p : ℕ) → Came h x e → Tells x p → p ≤ peak h
came_peak h e x p c t = rw c.1 (go c.0)
  where
    go : (l : List Moment) → p ≤ peak (l ++ x ∷ e)
    go [] = omega (arith, tells_place x p t)
    go (y ∷ l) = omega (arith, go l)

-- Fences

abbrev is_fence : Touch → Bool
is_fence nothing = false
is_fence (store l w v) = false
is_fence (write_back l) = false
is_fence fence = true

-- the memory's count tells a fence from every other touch
pub paid_touch : (t : Touch) (ns : List ℕ) (m : Mem) → m.fences < 2 ^ 32 → paid m (touched t ns m) ≡ cond (is_fence t) 1 0
paid_touch nothing ns m k = omega arith
paid_touch (store l w v) ns m k = cond_both (has_line m l && ltb w 8) _ _ (λ (n : Mem). paid m n ≡ 0) (λ e. omega arith) (λ e. omega arith)
paid_touch (write_back l) ns m k = cond_both (has_line m l) _ _ (λ (n : Mem). paid m n ≡ 0) (λ e. omega arith) (λ e. omega arith)
paid_touch fence ns m k = omega arith

-- and stays below 2 ^ 32
pub touched_clock : (t : Touch) (ns : List ℕ) (m : Mem) → m.fences < 2 ^ 32 → (touched t ns m).fences < 2 ^ 32
touched_clock nothing ns m k = k
touched_clock (store l w v) ns m k = cond_both (has_line m l && ltb w 8) _ _ (λ (n : Mem). n.fences < 2 ^ 32) (λ e. k) (λ e. k)
touched_clock (write_back l) ns m k = cond_both (has_line m l) _ _ (λ (n : Mem). n.fences < 2 ^ 32) (λ e. k) (λ e. k)
touched_clock fence ns m k = omega arith

-- Open calls

-- the open call of station t has cost this many fences, and a flagged place lies at or above all that was told before it
pub record Floor (h : List Moment) (num t g : ℕ) (op : Op) (o : List Node) (spent : ℕ) (Reach : ℕ → Type 0) : Type 0 where
  pub before : List Moment
  pub still : newest h t ≡ Some (record { run = num; number = g; op = op; before = before })
  pub fences : fences_since h t ≡ spent
  pub floor : ℕ
  pub told : peak before ≤ floor
  pub inside : floor ≤ length o
  pub flag : flag_at o floor ≡ true
  pub reach : Reach floor

-- the fences that an update has cost, by its phase
abbrev spent_phase : Phase → ℕ
spent_phase Look = 0
spent_phase (Place n) = 0
spent_phase (Walk p u) = 0
spent_phase (Write own m t) = 0
spent_phase (Fence own m) = 0
spent_phase (Flag own) = 1
spent_phase (Answer own) = 1

-- the floor f is below an update's own place, and not above a query's
abbrev update_reach : Phase → ℕ → Type 0
update_reach Look f = Unit
update_reach (Place n) f = Unit
update_reach (Walk p u) f = f < p + u
update_reach (Write own m t) f = f < own
update_reach (Fence own m) f = f < own
update_reach (Flag own) f = f < own
update_reach (Answer own) f = f < own

abbrev query_reach : QueryPhase → ℕ → Type 0
query_reach query.Look f = Unit
query_reach (query.Walk p u) f = f ≤ p
query_reach (query.Answer p) f = f ≤ p

-- what holds of a station's open call
abbrev pub floor_call : List Moment → ℕ → ℕ → List Node → ℕ → Call → Type 0
floor_call h num t o g calls.Idle = Unit
floor_call h num t o g (calls.Update op p) = Floor h num t g op o (spent_phase p) (update_reach p)
floor_call h num t o g (calls.Query op p) = Floor h num t 0 op o 0 (query_reach p)

-- some flagged place lies at or above p
pub record Flagged (o : List Node) (p : ℕ) : Type 0 where
  pub top : ℕ
  pub over : p ≤ top
  pub inside : top ≤ length o
  pub flag : flag_at o top ≡ true

-- all that was told is flagged, and every open call has its floor
pub record Timed (num : ℕ) (h : List Moment) (o : List Node) (xs : List Station) : Type 0 where
  pub told : Flagged o (peak h)
  pub floors : (t : ℕ) → 1 ≤ t → t ≤ station_count → floor_call h num t o (station_of xs t).given (station_of xs t).call

pub flagged_zero : (o : List Node) → Flagged o 0
flagged_zero o = record { top = 0; over = omega arith; inside = omega arith; flag = refl }

flagged_max : {o : List Node} {p q : ℕ} → Flagged o p → Flagged o q → Flagged o (max p q)
flagged_max a b = elim (cases_lt a.top b.top) [
  | inl h ↦ record { top = b.top; over = omega (arith, a.over, b.over); inside = b.inside; flag = b.flag }
  | inr h ↦ record { top = a.top; over = omega (arith, a.over, b.over); inside = a.inside; flag = a.flag }
]

flagged_grown : {s : ℕ} {o o' : List Node} {p : ℕ} → Grown s o o' → Flagged o p → Flagged o' p
flagged_grown gr a = record {
  top = a.top;
  over = a.over;
  inside = omega (arith, gr.longer, a.inside);
  flag = flag_other gr a.top a.inside a.flag;
}

-- a moment that leaves the call of station t open
floor_more : {h : List Moment} {num t g s k k' : ℕ} {op : Op} {o o' : List Node} {P Q : ℕ → Type 0} (x : Moment) → Grown s o o' →
    newest (x ∷ h) t ≡ newest h t → (fences_since h t ≡ k → fences_since (x ∷ h) t ≡ k') → ((f : ℕ) → f ≤ length o → flag_at o f ≡ true → P f → Q f) →
    Floor h num t g op o k P → Floor (x ∷ h) num t g op o' k' Q
floor_more x gr c b r f = record {
  before = f.before;
  still = c ∙ f.still;
  fences = b f.fences;
  floor = f.floor;
  told = f.told;
  inside = omega (arith, f.inside, gr.longer);
  flag = flag_other gr f.floor f.inside f.flag;
  reach = r f.floor f.inside f.flag f.reach;
}

floor_call_more : {s : ℕ} {o o' : List Node} (x : Moment) (h : List Moment) (num t : ℕ) → Grown s o o' → newest (x ∷ h) t ≡ newest h t →
    fences_since (x ∷ h) t ≡ fences_since h t → (g : ℕ) (c : Call) → floor_call h num t o g c → floor_call (x ∷ h) num t o' g c
floor_call_more x h num t gr c b g calls.Idle f = tt
floor_call_more x h num t gr c b g (calls.Update op p) f = floor_more x gr c (λ e. b ∙ e) (λ f i j r. r) f
floor_call_more x h num t gr c b g (calls.Query op p) f = floor_more x gr c (λ e. b ∙ e) (λ f i j r. r) f

-- a moment that is the business of station s alone, and makes x' of it
pub timed_changed : {num s : ℕ} {h : List Moment} {o o' : List Node} {xs : List Station} (x : Moment) (x' : Station) → 1 ≤ s → s ≤ station_count →
    length xs ≡ station_count → Grown s o o' → ((t : ℕ) → (t ≡ s → ⊥) → newest (x ∷ h) t ≡ newest h t) →
    ((t : ℕ) → (t ≡ s → ⊥) → fences_since (x ∷ h) t ≡ fences_since h t) → Flagged o' (told_place x) →
    floor_call (x ∷ h) num s o' x'.given x'.call → Timed num h o xs → Timed num (x ∷ h) o' (set xs (pred s) x')
timed_changed {num} {s} {h} {o} {o'} {xs} x x' l m many gr c b fl fc y = record {
  told = flagged_max fl (flagged_grown gr y.told);
  floors = each_station s xs x' (λ (t : ℕ) (x' : Station). floor_call (x ∷ h) num t o' x'.given x'.call) l m many fc
      (λ t i j n. floor_call_more x h num t gr (c t n) (b t n) (station_of xs t).given (station_of xs t).call (y.floors t i j));
}

-- a moment that changes nothing but what was told
pub timed_quiet : {num : ℕ} {h : List Moment} {o : List Node} {xs : List Station} (x : Moment) → Flagged o (told_place x) →
    ((t : ℕ) → newest (x ∷ h) t ≡ newest h t) → ((t : ℕ) → fences_since (x ∷ h) t ≡ fences_since h t) → Timed num h o xs → Timed num (x ∷ h) o xs
timed_quiet {num} {h} {o} {xs} x fl c b y = record {
  told = flagged_max fl y.told;
  floors = λ t i j. floor_call_more x h num t (grown_same t o) (c t) (b t) (station_of xs t).given (station_of xs t).call (y.floors t i j);
}

-- Steps

abbrev pub TimedAt : {S : Type 0} → List Moment → Machine S → Type 0
TimedAt h r = Timed r.number h r.order r.stations

-- what holds of the call c of station s
abbrev pub FloorAt : {S : Type 0} → List Moment → Machine S → ℕ → Call → Type 0
FloorAt h r s c = floor_call h r.number s r.order (station_at r s).given c

pub floor_at : {S : Type 0} (h : List Moment) (r : Machine S) → TimedAt h r → (s : ℕ) → 1 ≤ s → s ≤ station_count → {c : Call} →
    (station_at r s).call ≡ c → FloorAt h r s c
floor_at h r y s a m e = subst (λ c. FloorAt h r s c) e (y.floors s a m)

-- the run after a step of station s on the memory m
abbrev pub TimedBy : {S : Type 0} → ℕ → List Moment → ℕ → Mem → List ℕ → Doing S (Result (Option Replied) Refusal) → Type 0
TimedBy num h s m ns d = Timed num (stepped s d.answer (paid m (left d ns).memory) ∷ h) d.machine.order d.machine.stations

-- writing does not fence
write_dry : {S : Type 0} (r : Machine S) (s own m i : ℕ) → is_fence (write_touch r s own m i) ≡ false
write_dry r s own m i = cond_both (eqb (i % 10) 0) _ _ (λ (t : Touch). is_fence t ≡ false) (λ e. refl)
    (λ e. cond_both (ltb (i % 10) 9) _ _ (λ (t : Touch). is_fence t ≡ false) (λ e. refl) (λ e. refl))

module _ {S : Type 0} (r : Machine S) (s : ℕ) (l : Ledger) (h : List Moment) (ns : List ℕ) (a : 1 ≤ s) (m : s ≤ station_count)
    (clock : r.memory.fences < 2 ^ 32) (z : SoundAt r l) (y : TimedAt h r) where
  abbrev After : Doing S (Result (Option Replied) Refusal) → Type 0
  After d = TimedBy r.number h s r.memory ns d

  -- a floor that reached P reaches Q
  abbrev Reaches : (ℕ → Type 0) → (ℕ → Type 0) → Type 0
  Reaches P Q = (f : ℕ) → f ≤ length r.order → flag_at r.order f ≡ true → P f → Q f

  -- a step of station s, with its answer and the fences paid
  stepped_timed : {o' : List Node} (x' : Station) (v : Result (Option Replied) Refusal) (b : ℕ) → Grown s r.order o' → Flagged o' (reply_place v) →
      floor_call (stepped s v b ∷ h) r.number s o' x'.given x'.call →
      Timed r.number (stepped s v b ∷ h) o' (set r.stations (pred s) x')
  stepped_timed x' v b gr fl fc = timed_changed (stepped s v b) x' a m z.many gr
      (λ t n. rw (ne_eqb s t (λ e. n (sym e)))) (λ t n. rw (ne_eqb s t (λ e. n (sym e))) (omega arith)) fl fc y

  -- the call goes on, and has paid for this touch
  floor_goes : {g k k' : ℕ} {op : Op} {o' : List Node} {P Q : ℕ → Type 0} (t : Touch) → Grown s r.order o' → cond (is_fence t) 1 0 + k ≡ k' →
      Reaches P Q → Floor h r.number s g op r.order k P →
      Floor (stepped s (Ok None) (paid r.memory (touched t ns r.memory)) ∷ h) r.number s g op o' k' Q
  floor_goes t gr i f w = floor_more (stepped s (Ok None) (paid r.memory (touched t ns r.memory))) gr (rw (eq-eqb s s refl))
      (λ e. rw (eq-eqb s s refl, paid_touch t ns r.memory clock, e) i) f w

  update_timed : (op : Op) (p : Phase) → (station_at r s).call ≡ calls.Update op p → After (update_step r s (station_at r s) op p)
  update_timed op p e = go p (stands_at r l z s a m e) (floor_at h r y s a m e)
    where
      moved : {o' : List Node} (t : Touch) (x' : Station) (p p' : Phase) → x'.call ≡ calls.Update op p' → x'.given ≡ (station_at r s).given →
          Grown s r.order o' → cond (is_fence t) 1 0 + spent_phase p ≡ spent_phase p' → Reaches (update_reach p) (update_reach p') →
          FloorAt h r s (calls.Update op p) →
          Timed r.number (stepped s (Ok None) (paid r.memory (touched t ns r.memory)) ∷ h) o' (set r.stations (pred s) x')
      moved {o'} t x' p p' ec eg gr i f w = stepped_timed x' (Ok None) (paid r.memory (touched t ns r.memory)) gr (flagged_zero o')
          (rw (ec, eg) (floor_goes t gr i f w))

      -- only the phase changes
      same : (p p' : Phase) → spent_phase p ≡ spent_phase p' → Reaches (update_reach p) (update_reach p') → FloorAt h r s (calls.Update op p) →
          After (going r s (with_call (station_at r s) (calls.Update op p')) nothing)
      same p p' i f w = moved nothing (with_call (station_at r s) (calls.Update op p')) p p' refl refl (grown_same s r.order) (omega arith) f w

      go : (p : Phase) → StandsAt r s (calls.Update op p) → FloorAt h r s (calls.Update op p) → After (update_step r s (station_at r s) op p)
      go Look t w = same Look (Place (length r.order)) refl (λ f b c d. tt) w
      go (Place n) t w = cond_both (eqb (length r.order) n) _ _ After
          (λ f. let f' = eqb-true (length r.order) n f in
          moved nothing (with_call (station_at r s) (calls.Update op (Walk (n + 1) 0))) (Place n) (Walk (n + 1) 0) refl refl
          (grown_push s r.order (unflagged (own_update r.number s (station_at r s).given op))) refl (λ f b c d. omega arith) w)
          (λ f. same (Place n) Look refl (λ f b c d. tt) w)
      go (Walk p u) t w = cond_both (flag_at r.order p) _ _ After
          (λ f. same (Walk p u) (Write (p + u) u 0) refl (λ f b c d. d) w)
          (λ f. let k = walk_low r.order p f in same (Walk p u) (Walk (pred p) (u + 1)) refl (λ f b c d. omega arith) w)
      go (Write own k i) t w = cond_both (eqb (i + 1) (10 * k)) (Fence own k) (Write own k (i + 1))
          (λ (q : Phase). After (going r s (with_call (station_at r s) (calls.Update op q)) (write_touch r s own k i)))
          (λ f. wrote (Fence own k) refl (λ f b c d. d)) (λ f. wrote (Write own k (i + 1)) refl (λ f b c d. d))
        where
          wrote : (q : Phase) → 0 ≡ spent_phase q → Reaches (update_reach (Write own k i)) (update_reach q) →
              After (going r s (with_call (station_at r s) (calls.Update op q)) (write_touch r s own k i))
          wrote q e f = moved (write_touch r s own k i) (with_call (station_at r s) (calls.Update op q)) (Write own k i) q refl refl
              (grown_same s r.order) (rw (write_dry r s own k i) e) f w
      go (Fence own k) t w = moved fence fenced (Fence own k) (Flag own) refl refl (grown_same s r.order) refl (λ f b c d. d) w
        where
          fenced : Station
          fenced = record { call = calls.Update op (Flag own); given = (station_at r s).given; used = (station_at r s).used + k }
      go (Flag own) t w = moved nothing (with_call (station_at r s) (calls.Update op (Answer own))) (Flag own) (Answer own) refl refl
          (grown_flag r.number s (station_at r s).given own op r.order t.1) refl (λ f b c d. d) w
      go (Answer own) t w = stepped_timed (with_call (station_at r s) calls.Idle) _ _ (grown_same s r.order)
          (record { top = own; over = omega arith; inside = t.1.high; flag = flag_set r.order own t.1.low ∙ t.1.flag }) tt

  query_timed : (op : Op) (p : QueryPhase) → (station_at r s).call ≡ calls.Query op p → After (query_step r s (station_at r s) op p)
  query_timed op p e = go p (stands_at r l z s a m e) (floor_at h r y s a m e)
    where
      moved : (p p' : QueryPhase) → Reaches (query_reach p) (query_reach p') → FloorAt h r s (calls.Query op p) →
          After (going r s (with_call (station_at r s) (calls.Query op p')) nothing)
      moved p p' f w = stepped_timed (with_call (station_at r s) (calls.Query op p')) (Ok None) (paid r.memory r.memory)
          (grown_same s r.order) (flagged_zero r.order)
          (floor_goes nothing (grown_same s r.order) refl f w)

      under : (p f : ℕ) → flag_at r.order p ≡ false → flag_at r.order f ≡ true → f ≤ p → f ≤ pred p
      under p f b c d = elim (cases_eq f p) [ inl e ↦ absurd (both_ways (flag_at r.order f) (rw e b) c) | inr e ↦ omega arith ]

      go : (p : QueryPhase) → stand_query r.order s p → FloorAt h r s (calls.Query op p) → After (query_step r s (station_at r s) op p)
      go query.Look t w = moved query.Look (query.Walk (length r.order) 0) (λ f b c d. b) w
      go (query.Walk p u) t w = cond_both (flag_at r.order p) _ _ After
          (λ f. moved (query.Walk p u) (query.Answer p) (λ f b c d. d) w)
          (λ f. moved (query.Walk p u) (query.Walk (pred p) (u + 1)) (λ g b c d. under p g f c d) w)
      go (query.Answer p) t w = stepped_timed (with_call (station_at r s) calls.Idle) _ _ (grown_same s r.order)
          (record { top = p; over = omega arith; inside = t.0; flag = t.1 }) tt

-- every step keeps the floors
pub step_timed : {S : Type 0} (r : Machine S) (s : ℕ) (l : Ledger) (h : List Moment) (ns : List ℕ) → r.memory.fences < 2 ^ 32 → SoundAt r l →
    TimedAt h r → TimedBy r.number h s r.memory ns (stepping r s)
step_timed r s l h ns clock z y = stepping_cases r s (TimedBy r.number h s r.memory ns) quiet (λ u a m. go a m (station_at r s).call refl)
  where
    quiet : (q : Refusal) → TimedBy r.number h s r.memory ns (refused r q)
    quiet q = timed_quiet (stepped s (Err q) (paid r.memory r.memory)) (flagged_zero r.order)
        (λ t. cond_both (eqb s t) (newest h t) (newest h t) (λ (c : Option Made). c ≡ newest h t) (λ e. refl) (λ e. refl))
        (λ t. rw (paid_touch nothing ns r.memory clock)
        (cond_both (eqb s t) 0 0 (λ (b : ℕ). b + fences_since h t ≡ fences_since h t) (λ e. omega arith) (λ e. omega arith))) y

    go : 1 ≤ s → s ≤ station_count → (c : Call) → (station_at r s).call ≡ c →
        TimedBy r.number h s r.memory ns (station_step r s (station_at r s) c)
    go a m calls.Idle e = quiet NoCall
    go a m (calls.Update op p) e = update_timed r s l h ns a m clock z y op p e
    go a m (calls.Query op p) e = query_timed r s l h ns a m clock z y op p e
