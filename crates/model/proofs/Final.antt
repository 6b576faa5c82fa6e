-- The law, given what the durable half owes: one induction over the history carries the run's side and the memory's.
use Rattle.std.proofs.Common.{◌≡◌, ℕ, zero, suc, pred, ◌+◌, ◌*◌, ◌^◌, ◌<◌, ◌≤◌, true, ◌⊎◌, List, [], ◌∷◌, map, length, get_or, take, replicate, Some, None, Ok, Err, Option, Result, sym, refl, ap, ◌∙◌, subst, inl, inr, arith}
use Rattle.std.proofs.lemmas.List.{length-map, take_all}
use Rattle.std.proofs.lemmas.Bool.{both_ways}
use Rattle.memory.specs.Model as memory
use Rattle.memory.specs.Model.{Mem, loaded}
use Rattle.book.specs.declared.types.Op.{Op}
use Rattle.book.specs.Rules.{Rules}
use Rattle.model.specs.Journal.{max_run, station_count, min_log, max_log, Entry, logs}
use Rattle.model.specs.Machine as machine
use Rattle.model.specs.Machine.{Machine, Touch, Doing, touched, with_memory, with_status, left, refused, no_update, start_question, found, flagged, idle_station, fresh_station, started_by, start_answer, rising, calling, flag_at, stepping, highest_flag, place_of, telling}
use Rattle.model.specs.Machine.Touch.{store, write_back, fence}
use Rattle.model.specs.History.{Moment, World, paid, Happens, Led, Came, Waiting, ledger, updates}
use Rattle.model.specs.History.Moment.{started, risen, called, stepped, told, cut}
use Rattle.model.specs.History.World.{resting, running}
use Rattle.model.specs.Law.{kept_run, Kept, Durable, identity, Bounded, Lasting}
use Rattle.model.specs.declared.types.Update.{Update}
use Rattle.model.specs.declared.types.Node.{Node}
use Rattle.model.specs.declared.types.Call.TheVariants as calls
use Rattle.model.specs.declared.types.Refusal.{Refusal}
use Rattle.model.specs.declared.types.Refusal.TheVariants.{RunNumber, NotRising}
use Rattle.model.specs.declared.types.Rise.TheVariants as rises
use Rattle.model.specs.declared.types.Status.{Status}
use Rattle.model.specs.declared.types.Status.TheVariants.{Rising, Up, Shut}
use Rattle.model.specs.declared.types.Started.{Started}
use Rattle.model.specs.declared.types.Outcome.{Outcome}
use Rattle.model.specs.declared.types.Outcome.TheVariants.{Never}
use Rattle.model.proofs.Sound.{updates_of, update_of, flag_of}
use Rattle.model.proofs.Steps.{SoundAt}
use Rattle.model.proofs.Bounds.{stations_bounded, idle_bounded, memory_bounded}
use Rattle.model.proofs.Timed.{peak, came_peak, touched_clock, flagged_zero, timed_quiet, TimedAt}
use Rattle.model.proofs.Outcomes.{telling_cases}
use Rattle.model.proofs.Replies.{update_same}
use Rattle.model.proofs.Onward.{step_onward, call_onward}
use Rattle.model.proofs.Counts.{CountsAt}
use Rattle.model.proofs.History.{kind, came_other}
use Rattle.model.proofs.Past.{Past, past_quiet, past_cut, past_none, past_linearizable, past_one_fence, past_identified}
use Rattle.model.proofs.Live.{Live, live_step, past_step, live_call, past_call, live_tell}
use Rattle.model.proofs.Telling.{past_tell}

-- Start

-- a start's order is what was found, all flagged; its stations are idle, and nothing waits

pub map_flagged : (us : List Update) → updates_of (map flagged us) ≡ us
map_flagged [] = refl
map_flagged (u ∷ us) = ap (λ (vs : List Update). u ∷ vs) (map_flagged us)

all_flagged : (us : List Update) (i : ℕ) → i < length (map flagged us) → flag_of (map flagged us) i ≡ true
all_flagged [] i h = absurd (omega arith)
all_flagged (u ∷ us) zero h = refl
all_flagged (u ∷ us) (suc i) h = all_flagged us i (omega arith)

end_flagged : (o : List Node) (n : ℕ) → ((i : ℕ) → i < n → flag_of o i ≡ true) → flag_at o n ≡ true
end_flagged o zero h = refl
end_flagged o (suc n) h = h n (omega arith)

pub all_idle : (fss : List (List Entry)) (i : ℕ) → (get_or (map fresh_station fss) i (idle_station 0)).call ≡ calls.Idle
all_idle [] i = refl
all_idle (fs ∷ fss) zero = refl
all_idle (fs ∷ fss) (suc i) = all_idle fss i

none_given : (fss : List (List Entry)) (i : ℕ) → (get_or (map fresh_station fss) i (idle_station 0)).given ≡ 0
none_given [] i = refl
none_given (fs ∷ fss) zero = refl
none_given (fs ∷ fss) (suc i) = none_given fss i

none_waits : (n i : ℕ) → get_or (replicate {A = Option Waiting} n None) i None ≡ None
none_waits zero i = refl
none_waits (suc n) zero = refl
none_waits (suc n) (suc i) = none_waits n i

-- runs that were up have smaller numbers than the next
pub record Numbered (h : List Moment) (m : Mem) : Type 0 where
  pub calls_below : (s n : ℕ) (o : Op) (e : List Moment) → Came h (called s o (Ok n)) e → (ledger e).run ≤ loaded m 0 0
  pub updates_below : (i : ℕ) → i < length (updates h) → (get_or (updates h) i no_update).run ≤ loaded m 0 0
  pub tells_below : (run s n : ℕ) (a : Outcome) (e : List Moment) → Came h (told run s n (Ok a)) e → (ledger e).run ≤ loaded m 0 0

-- the moment of a start that is not refused
abbrev begun : Mem → Moment
begun m = started (Ok (record { run = loaded m 0 0 + 1; found = length (map flagged (found m)) }))

module _ {S : Type 0} (R : Rules S) (h : List Moment) (m : Mem) (past : Past R h) (finds : found m ≡ updates h) (clock : m.fences < 2 ^ 32)
    (nums : Numbered h m) where
  order_found : length (map flagged (found m)) ≡ length (updates h)
  order_found = length-map (found m) flagged ∙ ap length finds

  start_sound : SoundAt (started_by None R m) (ledger (begun m ∷ h))
  start_sound = record {
    many = refl;
    slots = refl;
    same = map_flagged (found m) ∙ finds;
    waits = λ t a b. rw (all_idle (logs m) (pred t)) (none_waits station_count (pred t));
    stands = λ t a b. rw (all_idle (logs m) (pred t)) tt;
    owned = λ i l f. absurd (both_ways _ f (all_flagged (found m) i l));
    last = λ i j l k f. absurd (both_ways _ f (all_flagged (found m) i (omega arith)));
  }

  start_timed : TimedAt (begun m ∷ h) (started_by None R m)
  start_timed = record {
    told = record {
      top = length (map flagged (found m));
      over = omega (arith, order_found, past.inside);
      inside = omega arith;
      flag = end_flagged (map flagged (found m)) _ (all_flagged (found m));
    };
    floors = λ t a b. rw (all_idle (logs m) (pred t)) tt;
  }

  start_counts : CountsAt (loaded m 0 0 + 1) (started_by None R m)
  start_counts = record {
    fits = omega (arith, order_found, past.distinct.short);
    given = λ t i j. rw (none_given (logs m) (pred t)) (omega arith);
    counted = λ i l e.
        let k = ap (λ (u : Update). u.run) (at i l) in
        let n = nums.updates_below i (omega (arith, order_found)) in absurd (omega arith);
    unique = λ i j l k q. past.distinct.unique i j l (omega (arith, order_found))
        (ap identity (at i (omega arith)) ∙ q ∙ sym (ap identity (at j k)));
  }
    where
      at : (i : ℕ) → i < length (map flagged (found m)) → get_or (updates h) i no_update ≡ update_of (map flagged (found m)) i
      at i l = update_same (map flagged (found m)) (updates h) i (map_flagged (found m) ∙ finds) l

  start_live : Live R (begun m ∷ h) (started_by None R m)
  start_live = record {
    rules = refl;
    run = refl;
    clock = clock;
    sound = start_sound;
    timed = start_timed;
    counts = start_counts;
    given = λ s n o e c q. let k = nums.calls_below s n o e (came_other _ (called s o (Ok n)) h e (omega arith) c) in absurd (omega arith);
    nevers = λ run s n e c.
        let d = came_other _ (told run s n (Ok Never)) h e (omega arith) c in
        let k = nums.tells_below run s n Never e d in let l = (past.nevers run s n e d).0 in omega arith;
    inside = omega arith;
    old = λ i l. all_flagged (found m) i l;
    new = λ i a b. absurd (omega arith);
  }

-- Rise

-- a rise changes the status and line 0, and nothing that holds of the run
live_risen : {S : Type 0} (R : Rules S) (h : List Moment) (r : Machine S) (a : Result Unit Refusal) (st : Status) (m : Mem) → m.fences < 2 ^ 32 →
    Live R h r → Live R (risen a ∷ h) (with_memory (with_status r st) m)
live_risen R h r a st m k z = record {
  rules = z.rules;
  run = z.run;
  clock = k;
  sound = z.sound;
  timed = timed_quiet (risen a) (flagged_zero r.order) (λ t. refl) (λ t. refl) z.timed;
  counts = z.counts;
  given = λ s n o e c q. z.given s n o e (came_other _ (called s o (Ok n)) h e (omega arith) c) q;
  nevers = λ run s n e c. z.nevers run s n e (came_other _ (told run s n (Ok Never)) h e (omega arith) c);
  inside = z.inside;
  old = z.old;
  new = z.new;
}

-- Shut runs

pub shut_step : {S : Type 0} (r : Machine S) (s : ℕ) (q : Refusal) → r.status ≡ Shut q → stepping r s ≡ refused r q
shut_step r s q e = rw e

pub shut_rise : {S : Type 0} (r : Machine S) (q : Refusal) → r.status ≡ Shut q → rising r r.status ≡ refused r q
shut_rise r q e = rw e

pub shut_call : {S : Type 0} (r : Machine S) (s : ℕ) (o : Op) (q : Refusal) → r.status ≡ Shut q → calling r s o ≡ refused r q
shut_call r s o q e = rw e

pub shut_tell : {S : Type 0} (r : Machine S) (run s n : ℕ) (q : Refusal) → r.status ≡ Shut q → telling r run s n ≡ refused r q
shut_tell r run s n q e = rw e

tell_status : {S : Type 0} (r : Machine S) (run s n : ℕ) → (telling r run s n).machine.status ≡ r.status
tell_status {S} r run s n = telling_cases r run s n (λ (d : Doing S (Result Outcome Refusal)). d.machine.status ≡ r.status) (λ q. refl)
    (λ u a m k. go (place_of (take (highest_flag r.order) r.order) 1 run s n))
  where
    go : (x : Option ℕ) → (machine.told r run x).machine.status ≡ r.status
    go None = refl
    go (Some p) = refl

-- Worlds

-- a shut run: its memory holds the ledger, and its stations are idle
abbrev pub Shutting : {S : Type 0} → List Moment → Machine S → Type 0
Shutting h r = (q : Refusal) × (r.status ≡ Shut q) × (found r.memory ≡ updates h) × (r.stations ≡ replicate station_count (idle_station 0))

-- a run that is not shut
abbrev pub GoingOn : {S : Type 0} → Rules S → List Moment → Machine S → Type 0
GoingOn R h r = Live R h r × ((q : Refusal) → r.status ≡ Shut q → ⊥)

-- what stands between the world and the ledger
abbrev pub Standing : {S : Type 0} → Rules S → List Moment → World S → Type 0
Standing R h (resting m) = (found m ≡ updates h) × (m.fences < 2 ^ 32)
Standing R h (running r) = GoingOn R h r ⊎ Shutting h r

-- a cut of the run r leaves the updates us: the first of the ledger, with all that are flagged
pub record Cut {S : Type 0} (h : List Moment) (r : Machine S) (us : List Update) : Type 0 where
  pub same : us ≡ take (length us) (updates h)
  pub less : length us ≤ length (updates h)
  pub keeps : (f : ℕ) → f ≤ length r.order → flag_at r.order f ≡ true → f ≤ length us

-- what the durable half owes: a statement D of history and world that each moment keeps, and what it gives
pub record Half {S : Type 0} (R : Rules S) (D : List Moment → World S → Type 0) : Type 0 where
  pub blank : (L : ℕ) → min_log ≤ L → L ≤ max_log →
      D [] (resting (memory.blank (1 + station_count * L))) × (found (memory.blank (1 + station_count * L)) ≡ [])
  pub next : {v w : World S} {x : Moment} (h : List Moment) → Past R h → Standing R h v → D h v → Happens R v x w → Past R (x ∷ h) →
      Standing R (x ∷ h) w → D (x ∷ h) w
  pub numbered : (h : List Moment) (m : Mem) → D h (resting m) → found m ≡ updates h → Numbered h m
  pub cuts : (h : List Moment) (r : Machine S) (ns : List ℕ) → D h (running r) → GoingOn R h r → Cut h r (found (memory.cut ns r.memory))
  pub shut_cuts : (h : List Moment) (r : Machine S) (ns : List ℕ) (q : Refusal) → D h (running r) → r.status ≡ Shut q →
      found (memory.cut ns r.memory) ≡ found r.memory
  pub refusals : (h : List Moment) (m : Mem) (q : Refusal) → D h (resting m) → found m ≡ updates h → start_question R m ≡ Some q →
      (q ≡ RunNumber) × ((ledger h).run ≡ max_run)

-- What the newest moment x says of the memory

record Newest (h : List Moment) (x : Moment) : Type 0 where
  cuts : (k : ℕ) → x ≡ cut k → (k ≤ length (updates h)) × (peak h ≤ k)
  refused : (q : Refusal) → x ≡ started (Err q) → (q ≡ RunNumber) × ((ledger h).run ≡ max_run)
  finds : (a : Started) → x ≡ started (Ok a) → a.found ≡ length (updates h)

kinds_apart : {x y : Moment} → x ≡ y → (kind x ≡ kind y → ⊥) → ⊥
kinds_apart d f = f (ap kind d)

newest_plain : (h : List Moment) (x : Moment) → (kind x ≡ 5 → ⊥) → (kind x ≡ 0 → ⊥) → Newest h x
newest_plain h x a b = record { cuts = λ k d. absurd (a (ap kind d)); refused = λ q d. absurd (b (ap kind d)); finds = λ n d. absurd (b (ap kind d)) }

newest_cut : (h : List Moment) (j : ℕ) → j ≤ length (updates h) → peak h ≤ j → Newest h (cut j)
newest_cut h j a b = record {
  cuts = λ k d. (let i : j ≡ k = cc in (omega arith, omega arith));
  refused = λ q d. absurd (kinds_apart d (omega arith));
  finds = λ n d. absurd (kinds_apart d (omega arith));
}

-- The induction

module _ {S : Type 0} (R : Rules S) (D : List Moment → World S → Type 0) (half : Half R D) where
  -- what the run's side shows of a history and its world
  abbrev Shows : List Moment → World S → Type 0
  Shows h w = Past R h × Standing R h w

  start_shows : (h : List Moment) (m : Mem) → D h (resting m) → Past R h → found m ≡ updates h → m.fences < 2 ^ 32 → (q : Option Refusal) →
      Shows (started (start_answer (started_by q R m) (started_by q R m).status) ∷ h) (running (started_by q R m))
  start_shows h m d past e k None = (
    past_quiet R h (begun m) past refl refl tt,
    inl (start_live R h m past e k (half.numbered h m d e), λ q d. let y : ◌≡◌ {A = ℕ} 0 1 = cc in omega arith),
  )
  start_shows h m d past e k (Some q) = (past_quiet R h (started (Err q)) past refl refl tt, inr (q, refl, e, refl))

  -- a rise that is not refused
  rose : {h : List Moment} {r : Machine S} (ns : List ℕ) → Past R h → Live R h r → (x : Status) (t : Touch) → ((q : Refusal) → x ≡ Shut q → ⊥) →
      Shows (risen (Ok tt) ∷ h) (running (with_memory (with_status r x) (touched t ns r.memory)))
  rose {h} {r} ns past z x t d = (
    past_quiet R h (risen (Ok tt)) past refl refl tt,
    inl (live_risen R h r (Ok tt) x (touched t ns r.memory) (touched_clock t ns r.memory z.clock) z, d),
  )

  rise_shows : (h : List Moment) (r : Machine S) (ns : List ℕ) → Past R h → Live R h r → (x : Status) → r.status ≡ x →
      ((q : Refusal) → x ≡ Shut q → ⊥) → Shows (risen (rising r x).answer ∷ h) (running (left (rising r x) ns))
  rise_shows h r ns past z (Shut q) e d = absurd (d q refl)
  rise_shows h r ns past z Up e d = (
    past_quiet R h (risen (Err NotRising)) past refl refl tt,
    inl (live_risen R h r (Err NotRising) r.status r.memory z.clock z, λ q k. d q (sym e ∙ k)),
  )
  rise_shows h r ns past z (Rising rises.Store) e d =
      rose ns past z (Rising rises.WriteBack) (store 0 0 r.number) (λ q k. let y : ◌≡◌ {A = ℕ} 0 1 = cc in omega arith)
  rise_shows h r ns past z (Rising rises.WriteBack) e d =
      rose ns past z (Rising rises.Fence) (write_back 0) (λ q k. let y : ◌≡◌ {A = ℕ} 0 1 = cc in omega arith)
  rise_shows h r ns past z (Rising rises.Fence) e d = rose ns past z Up fence (λ q k. let y : ◌≡◌ {A = ℕ} 0 1 = cc in omega arith)

  -- a cut of a run that is not shut leaves all that was told
  cut_over : (h : List Moment) (r : Machine S) (us : List Update) → Live R h r → Cut h r us → peak h ≤ length us
  cut_over h r us z c = let t = z.timed.told in let k = c.keeps t.top t.inside t.flag in omega (arith, t.over)

  live_shows : {r : Machine S} {x : Moment} {w : World S} (h : List Moment) → D h (running r) → Past R h → GoingOn R h r →
      Happens R (running r) x w → Shows (x ∷ h) w
  live_shows h d past z (Happens.rise r ns) = rise_shows h r ns past z.0 r.status refl z.1
  live_shows h d past z (Happens.call r s o) =
      let w = call_onward r s o (ledger h) z.0.sound in
      (past_call R h r s o z.0 past, inl (live_call R h r s o z.0, λ q e. z.1 q (sym w.status ∙ e)))
  live_shows h d past z (Happens.step r s ns) =
      let w = step_onward r s (ledger h) z.0.sound in
      (past_step R h r s ns z.0 past, inl (live_step R h r s ns z.0, λ q e. z.1 q (sym w.status ∙ e)))
  live_shows h d past z (Happens.outcome r run s n) =
      (past_tell R h r run s n z.0 past, inl (live_tell R h r run s n z.0, λ q e. z.1 q (sym (tell_status r run s n) ∙ e)))
  live_shows h d past z (Happens.cut r ns) =
      let us = found (memory.cut ns r.memory) in
      let c = half.cuts h r ns d z in (past_cut R h (length us) past (cut_over h r us z.0 c), (c.same, omega arith))

  shut_shows : {r : Machine S} {x : Moment} {w : World S} (h : List Moment) → D h (running r) → Past R h → Shutting h r → Happens R (running r) x w →
      Shows (x ∷ h) w
  shut_shows h d past z (Happens.rise r ns) = rw (shut_rise r z.0 z.1) (past_quiet R h (risen (Err z.0)) past refl refl tt, inr z)
  shut_shows h d past z (Happens.call r s o) = rw (shut_call r s o z.0 z.1) (past_quiet R h (called s o (Err z.0)) past refl refl tt, inr z)
  shut_shows h d past z (Happens.step r s ns) =
      rw (shut_step r s z.0 z.1) (past_quiet R h (stepped s (Err z.0) (paid r.memory r.memory)) past refl refl tt, inr z)
  shut_shows h d past z (Happens.outcome r run s n) =
      rw (shut_tell r run s n z.0 z.1) (past_quiet R h (told run s n (Err z.0)) past refl refl tt, inr z)
  shut_shows h d past z (Happens.cut r ns) =
      let e : found (memory.cut ns r.memory) ≡ updates h = half.shut_cuts h r ns z.0 d z.1 ∙ z.2 in
      let l = ap length e in (
        past_cut R h (length (found (memory.cut ns r.memory))) past (omega (arith, past.inside)),
        (rw e (sym (take_all (length (updates h)) (updates h) (omega arith))), omega arith),
      )

  world_shows : (v : World S) {x : Moment} {w : World S} (h : List Moment) → D h v → Past R h → Standing R h v → Happens R v x w → Shows (x ∷ h) w
  world_shows (resting m) h d past e (Happens.start n) = start_shows h m d past e.0 e.1 (start_question R m)
  world_shows (running r) h d past e x = elim e [ inl z ↦ live_shows h d past z x | inr z ↦ shut_shows h d past z x ]

  -- both halves at once
  both : (h : List Moment) (w : World S) → Led R h w → Past R h × Standing R h w × D h w
  both [] w led = let k = half.blank led.0 led.1 led.2 in (
    past_none R,
    subst (λ (v : World S). Standing R [] v) (sym led.3) (k.1, omega arith),
    subst (λ (v : World S). D [] v) (sym led.3) k.0,
  )
  both (x ∷ h) w led =
      let b = both h led.0 led.1 in
      let c = world_shows led.0 h b.2 b.0 b.1 led.2 in (c.0, c.1, half.next h b.0 b.1 b.2 led.2 c.0 c.1)

  -- The law's parts

  start_newest : (h : List Moment) (m : Mem) → D h (resting m) → found m ≡ updates h → (a : Option Refusal) → start_question R m ≡ a →
      Newest h (started (start_answer (started_by a R m) (started_by a R m).status))
  start_newest h m d e None f = record {
    cuts = λ k i. absurd (kinds_apart i (omega arith));
    refused = λ q i. let y : ◌≡◌ {A = ℕ} 0 1 = cc in absurd (omega arith);
    finds = λ a i.
        let g : record { run = loaded m 0 0 + 1; found = length (map flagged (found m)) } ≡ a = cc in
        sym (ap (λ (b : Started). b.found) g) ∙ length-map (found m) flagged ∙ ap length e;
  }
  start_newest h m d e (Some p) f = record {
    cuts = λ k i. absurd (kinds_apart i (omega arith));
    refused = λ q i. (let g : p ≡ q = cc in rw g at (half.refusals h m p d e f));
    finds = λ a i. let y : ◌≡◌ {A = ℕ} 0 1 = cc in absurd (omega arith);
  }

  newest_is : {v w : World S} {x : Moment} (h : List Moment) → D h v → Past R h → Standing R h v → Happens R v x w → Newest h x
  newest_is h d past z (Happens.start m) = start_newest h m d z.0 (start_question R m) refl
  newest_is h d past z (Happens.rise r ns) = newest_plain h _ (omega arith) (omega arith)
  newest_is h d past z (Happens.call r s o) = newest_plain h _ (omega arith) (omega arith)
  newest_is h d past z (Happens.step r s ns) = newest_plain h _ (omega arith) (omega arith)
  newest_is h d past z (Happens.outcome r run s n) = newest_plain h _ (omega arith) (omega arith)
  newest_is h d past z (Happens.cut r ns) = elim z [
    | inl y ↦ (let us = found (memory.cut ns r.memory) in let c = half.cuts h r ns d y in
        newest_cut h (length us) c.less (cut_over h r us y.0 c))
    | inr y ↦ (let l = ap length (half.shut_cuts h r ns y.0 d y.1 ∙ y.2) in
        newest_cut h (length (found (memory.cut ns r.memory))) (omega arith) (omega (arith, past.inside)))
  ]

  durable : (h : List Moment) (w : World S) → Led R h w → Durable h
  durable [] w led = record { cuts = λ k e d. absurd (empty d); refused = λ q e d. absurd (empty d); finds = λ a e d. absurd (empty d) }
    where
      empty : {x : Moment} {e : List Moment} → [] ≡ x ∷ e → ⊥
      empty d = let l = ap length d in omega arith
  durable (x ∷ h) w led = record {
    cuts = λ k e d.
        let i : x ≡ cut k = cc in let g : h ≡ e = cc in
        let f = rw g at (n.cuts k i) in (f.0, λ y p u c t. let b = came_peak e u y p c t in omega (arith, f.1));
    refused = λ q e d. (let i : x ≡ started (Err q) = cc in let g : h ≡ e = cc in rw g at (n.refused q i));
    finds = λ a e d. (let i : x ≡ started (Ok a) = cc in let g : h ≡ e = cc in rw g at (n.finds a i));
  }
    where
      b : Past R h × Standing R h led.0 × D h led.0
      b = both h led.0 led.1

      n : Newest h x
      n = newest_is h b.2 b.0 b.1 led.2

  kept : (h : List Moment) (w : World S) → Standing R h w → Kept w (updates h)
  kept h (resting m) e = e.0
  kept h (running r) e = elim e [ inl z ↦ going_on r.status refl z | inr z ↦ rw z.1 z.2 ]
    where
      going_on : (x : Status) → r.status ≡ x → GoingOn R h r → kept_run r x (updates h)
      going_on (Rising x) q z = z.0.sound.same
      going_on Up q z = z.0.sound.same
      going_on (Shut k) q z = absurd (z.1 k q)

  bounded : (h : List Moment) (w : World S) → Standing R h w → Bounded w
  bounded h (resting m) e = memory_bounded m
  bounded h (running r) e = (
    elim e [ inl z ↦ stations_bounded z.0.sound | inr z ↦ rw z.3 (idle_bounded station_count) ],
    memory_bounded r.memory,
  )

  -- the law holds
  pub joined : Lasting R
  joined h w led = let b = both h w led in record {
    kept = kept h w b.1;
    durable = durable h w led;
    linearizable = past_linearizable R h b.0;
    identified = past_identified R h b.0;
    one_fence = past_one_fence R h b.0;
    bounded = bounded h w b.1;
  }
