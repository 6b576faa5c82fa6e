-- Steps, calls and outcomes keep what is known of the memory.
use Rattle.std.proofs.Common.{◌≡◌, ℕ, zero, suc, pred, ◌+◌, ◌*◌, ◌≤◌, true, false, eqb, List, ◌∷◌, length, get_or, take, Some, None, Ok, Err, Option, Result, sym, refl, ap, ◌∙◌, subst, inl, inr, arith}
use Rattle.std.proofs.lemmas.Bool.{cases_lt, eqb-true, cond_both, both_ways}
use Rattle.memory.specs.Model.{Mem}
use Rattle.book.specs.declared.types.Op.{Op}
use Rattle.book.specs.Rules.{Rules, is_update}
use Rattle.model.specs.Journal.{station_count}
use Rattle.model.specs.Machine as machine
use Rattle.model.specs.Machine.{Machine, Doing, touched, left, with_memory, with_state, with_station, with_order, with_call, station_at, flag_at, write_touch, update_step, query_step, station_step, stepping, calling, place_of, highest_flag, state_after, telling}
use Rattle.model.specs.History.{Moment, paid, found_count}
use Rattle.model.specs.History.Moment.{called, stepped, told}
use Rattle.model.specs.declared.types.Node.{Node}
use Rattle.model.specs.declared.types.Phase.{Phase}
use Rattle.model.specs.declared.types.Phase.TheVariants.{Look, Place, Walk, Write, Fence, Flag, Answer}
use Rattle.model.specs.declared.types.QueryPhase.{QueryPhase}
use Rattle.model.specs.declared.types.QueryPhase.TheVariants as query
use Rattle.model.specs.declared.types.Call.{Call}
use Rattle.model.specs.declared.types.Call.TheVariants as calls
use Rattle.model.specs.declared.types.Station.{Station}
use Rattle.model.specs.declared.types.Status.{Status}
use Rattle.model.specs.declared.types.Status.TheVariants.{Up}
use Rattle.model.specs.declared.types.Refusal.{Refusal}
use Rattle.model.specs.declared.types.Refusal.TheVariants.{NoCall}
use Rattle.model.specs.declared.types.Replied.{Replied}
use Rattle.model.specs.declared.types.Outcome.{Outcome}
use Rattle.model.proofs.Logs.{Part, stands_of, no_part}
use Rattle.model.proofs.Memory.{memory_length}
use Rattle.model.proofs.Sound.{stand_call}
use Rattle.model.proofs.Steps.{stepping_cases}
use Rattle.model.proofs.Calls.{calling_cases}
use Rattle.model.proofs.Outcomes.{telling_cases}
use Rattle.model.proofs.Live.{Live}
use Rattle.model.proofs.Rest.{Silent, RunsUpTo, up_to_silent, up_to_any}
use Rattle.model.proofs.Runs.{match_call, bound, Runs, Move, runs_move, move_stay}
use Rattle.model.proofs.Phases.{move_place, move_begin, move_write, move_fence, move_flag}

-- nothing is done but to the book
runs_same : {S : Type 0} (R : Rules S) (h : List Moment) (r : Machine S) (x : Moment) (st : S) → found_count (x ∷ h) ≡ found_count h →
    RunsUpTo (bound r.status r.number) (x ∷ h) → Runs R h r → Runs R (x ∷ h) (with_memory (with_state r st) r.memory)
runs_same R h r x st e b z = record {
  L = z.L;
  ps = z.ps;
  count = z.count;
  low = z.low;
  high = z.high;
  some = z.some;
  few = z.few;
  counts = e ∙ z.counts;
  memory = z.memory;
  rests = z.rests;
  head = z.head;
  covers = z.covers;
  used = z.used;
  matches = z.matches;
  flags = z.flags;
  proper = z.proper;
  up_to = b;
}

-- nothing is done at all
pub runs_silent : {S : Type 0} (R : Rules S) (h : List Moment) (r : Machine S) (x : Moment) → Silent x → found_count (x ∷ h) ≡ found_count h →
    Runs R h r → Runs R (x ∷ h) r
runs_silent R h r x q e z = runs_same R h r x r.state e (up_to_silent h _ x q z.up_to) z

module _ {S : Type 0} (R : Rules S) (h : List Moment) (r : Machine S) (z : Runs R h r) (live : Live R h r) where
  up_to : r.status ≡ Up → (x : Moment) → RunsUpTo r.number (x ∷ h)
  up_to up x = up_to_any h r.number x (omega (arith, live.run)) (subst (λ (k : Status). RunsUpTo (bound k r.number) h) up z.up_to)

  -- what is known of station s with this call and these used lines
  abbrev Matches : ℕ → ℕ → Call → Type 0
  Matches s used c = match_call R r.number r.order (stands_of z.ps) z.L z.count used (get_or z.ps (pred s) no_part) c

  matches : (s : ℕ) → 1 ≤ s → s ≤ station_count → (c : Call) → (station_at r s).call ≡ c → Matches s (station_at r s).used c
  matches s low high c e = subst (Matches s (station_at r s).used) e (z.matches s low high)

  -- A step

  module _ (s : ℕ) (ns : List ℕ) where
    -- what is known holds after this step
    abbrev Goes : Doing S (Result (Option Replied) Refusal) → Type 0
    Goes d = Runs R (stepped s d.answer (paid r.memory (left d ns).memory) ∷ h) (left d ns)

    module _ (up : r.status ≡ Up) (low : 1 ≤ s) (high : s ≤ station_count) where
      moved : (a : Result (Option Replied) Refusal) (b : ℕ) (o' : List Node) (x' : Station) (st : S) (m' : Mem) (ps' : List Part) →
          Move R r s o' x' m' z.count z.L z.ps ps' →
          Runs R (stepped s a b ∷ h) (with_memory (with_state (with_station (with_order r o') s x') st) m')
      moved a b o' x' st m' ps' v = runs_move R h r (stepped s a b) s o' x' st m' ps' z live up low high refl (up_to up (stepped s a b)) v

      same : (a : Result (Option Replied) Refusal) (b : ℕ) (x' : Station) (st : S) → x'.used ≡ (station_at r s).used → Matches s x'.used x'.call →
          Runs R (stepped s a b ∷ h) (with_memory (with_state (with_station (with_order r r.order) s x') st) r.memory)
      same a b x' st e k = moved a b r.order x' st r.memory z.ps (move_stay R h r z up s x' (e ∙ z.used s low high) k)

      -- a walk stays above the updates that the start found
      back : (q : ℕ) → flag_at r.order q ≡ false → z.count ≤ pred q
      back zero e = absurd (both_ways true e refl)
      back (suc q) e = elim (cases_lt q z.count) [ inl l ↦ absurd (both_ways _ e (live.old q (omega (arith, z.counts)))) | inr l ↦ l ]

      update_goes : (op : Op) (x : Phase) → stand_call r.number s r.order (station_at r s).given (calls.Update op x) →
          Matches s (station_at r s).used (calls.Update op x) → Goes (update_step r s (station_at r s) op x)
      update_goes op Look t k = same (Ok None) _ _ _ refl (k.0, k.1)
      update_goes op (Place n) t k =
          cond_both (eqb (length r.order) n) _ _ Goes
          (λ f. moved (Ok None) _ _ _ _ r.memory z.ps
          (move_place R h r s z live up low high op k.0.0 k.0.1 k.1 t.0 n (eqb-true (length r.order) n f)))
          (λ f. same (Ok None) _ _ _ refl (k.0, k.1))
      update_goes op (Walk q u) t k =
          cond_both (flag_at r.order q) _ _ Goes
          (λ f. moved (Ok None) _ r.order _ _ r.memory _
          (move_begin R h r s z live up low high op q u t.1.0 t.1.1 f k.0.2 k.0.0 k.0.1 k.1))
          (λ f. same (Ok None) _ _ _ refl ((k.0.0, k.0.1, back q f), k.1))
      update_goes op (Write own m i) t k =
          let m' = touched (write_touch r s own m i) ns r.memory in
          cond_both (eqb (i + 1) (10 * m)) (Fence own m) (Write own m (i + 1))
          (λ (x : Phase). Runs R (stepped s (Ok None) (paid r.memory m') ∷ h)
          (with_memory (with_station r s (with_call (station_at r s) (calls.Update op x))) m'))
          (λ f. moved (Ok None) _ r.order _ r.state _ _
          (move_write R h r s z live up low high op own m i (Fence own m) ns k.0.0 k.0.1 k.0.2 t.1.4 k.1
          (k.0.0, (let e = eqb-true (i + 1) (10 * m) f in omega arith))))
          (λ f. moved (Ok None) _ r.order _ r.state _ _
          (move_write R h r s z live up low high op own m i (Write own m (i + 1)) ns k.0.0 k.0.1 k.0.2 t.1.4 k.1
          (k.0.0, omega (arith, k.0.1), k.0.2)))
      update_goes op (Fence own m) t k =
          moved (Ok None) _ r.order _ r.state _ _ (move_fence R h r s z live up low high op own m ns k.0.0 k.0.1 k.1)
      update_goes op (Flag own) t k =
          moved (Ok None) _ _ _ r.state r.memory z.ps (move_flag R h r s z live up low high op own t.1 k.0.0 k.0.1 k.1)
      update_goes op (Answer p) t k = same _ _ _ _ refl k.0

      query_goes : (op : Op) (x : QueryPhase) → (get_or z.ps (pred s) no_part).begun ≡ None → Goes (query_step r s (station_at r s) op x)
      query_goes op query.Look k = same (Ok None) _ _ _ refl k
      query_goes op (query.Walk q u) k =
          cond_both (flag_at r.order q) _ _ Goes (λ f. same (Ok None) _ _ _ refl k) (λ f. same (Ok None) _ _ _ refl k)
      query_goes op (query.Answer p) k = same _ _ _ _ refl k

      goes : (c : Call) → (station_at r s).call ≡ c → Goes (station_step r s (station_at r s) c)
      goes calls.Idle e = runs_silent R h r (stepped s (Err NoCall) (paid r.memory r.memory)) tt refl z
      goes (calls.Update op x) e =
          update_goes op x (subst (λ c. stand_call r.number s r.order (station_at r s).given c) e (live.sound.stands s low high))
          (matches s low high (calls.Update op x) e)
      goes (calls.Query op x) e = query_goes op x (matches s low high (calls.Query op x) e)

    pub runs_step : Runs R (stepped s (stepping r s).answer (paid r.memory (left (stepping r s) ns).memory) ∷ h) (left (stepping r s) ns)
    runs_step =
        stepping_cases r s Goes (λ q. runs_silent R h r (stepped s (Err q) (paid r.memory r.memory)) tt refl z)
        (λ up low high. goes up low high (station_at r s).call refl)

  -- A call

  pub runs_call : (s : ℕ) (o : Op) → Runs R (called s o (calling r s o).answer ∷ h) (calling r s o).machine
  runs_call s o =
      calling_cases r s o (λ (d : Doing S (Result ℕ Refusal)). Runs R (called s o d.answer ∷ h) d.machine)
      (λ q. runs_silent R h r (called s o (Err q)) tt refl z)
      (λ up low high i k. moved up low high 0
      (record { call = calls.Query o query.Look; given = (station_at r s).given; used = (station_at r s).used }) refl
      (matches s low high calls.Idle i))
      (λ up low high i k w. moved up low high ((station_at r s).given + 1)
      (record { call = calls.Update o Look; given = (station_at r s).given + 1; used = (station_at r s).used }) refl (
        (matches s low high calls.Idle i, (let e = memory_length z.memory in omega (arith, w.lines))),
        subst (λ (Q : Rules S). is_update (Q.sort o) ≡ true) live.rules (ap is_update k),
      ))
    where
      moved : r.status ≡ Up → 1 ≤ s → s ≤ station_count → (n : ℕ) (x' : Station) → x'.used ≡ (station_at r s).used → Matches s x'.used x'.call →
          Runs R (called s o (Ok n) ∷ h) (with_memory (with_state (with_station (with_order r r.order) s x') r.state) r.memory)
      moved up low high n x' e k =
          runs_move R h r (called s o (Ok n)) s r.order x' r.state r.memory z.ps z live up low high refl (up_to up (called s o (Ok n)))
          (move_stay R h r z up s x' (e ∙ z.used s low high) k)

  -- An outcome

  pub runs_tell : (run s n : ℕ) → Runs R (told run s n (telling r run s n).answer ∷ h) (telling r run s n).machine
  runs_tell run s n =
      telling_cases r run s n (λ (d : Doing S (Result Outcome Refusal)). Runs R (told run s n d.answer ∷ h) d.machine)
      (λ q. runs_silent R h r (told run s n (Err q)) tt refl z)
      (λ up low high k. by up (place_of (take (highest_flag r.order) r.order) 1 run s n))
    where
      any : r.status ≡ Up → (x : Moment) → RunsUpTo (bound r.status r.number) (x ∷ h)
      any up x = subst (λ (k : Status). RunsUpTo (bound k r.number) (x ∷ h)) (sym up) (up_to up x)

      by : r.status ≡ Up → (o : Option ℕ) → Runs R (told run s n (machine.told r run o).answer ∷ h) (machine.told r run o).machine
      by up None = runs_same R h r _ r.state refl (any up _) z
      by up (Some p) = runs_same R h r _ (state_after r.rules r.order p) refl (any up _) z
