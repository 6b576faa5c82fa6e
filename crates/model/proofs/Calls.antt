-- What a call makes of a run: refused, a query, or an update with room in the order and in its log.
use Rattle.std.proofs.Common.{◌≡◌, ℕ, suc, pred, ◌+◌, ◌<◌, ◌≤◌, Bool, true, false, ltb, leb, List, ◌∷◌, length, set, Some, None, Ok, Err, Option, Result, sym, refl, ap, ◌∙◌, subst, add-one, arith}
use Rattle.std.proofs.lemmas.Bool.{both_ways, ltb-true, leb-true, eq-eqb, ne_eqb}
use Rattle.book.specs.declared.types.Op.{Op}
use Rattle.book.specs.declared.types.Sort.{Sort}
use Rattle.book.specs.declared.types.Sort.TheVariants as sorts
use Rattle.model.specs.Journal.{max_place, station_count, max_lines, log_length}
use Rattle.model.specs.Machine.{Machine, ask, first_of, shut_first, Doing, with_station, refused, station_at, is_station, is_idle, unplaced, room_question, call_question, called_station, call_number, calling_by, calling}
use Rattle.model.specs.Machine.Touch.{nothing}
use Rattle.model.specs.History.{Moment, Ledger, fed, ledger}
use Rattle.model.specs.History.Moment.{called}
use Rattle.model.specs.declared.types.Phase.TheVariants.{Look}
use Rattle.model.specs.declared.types.Call.{Call}
use Rattle.model.specs.declared.types.Call.TheVariants as calls
use Rattle.model.specs.declared.types.Station.{Station}
use Rattle.model.specs.declared.types.Refusal.{Refusal}
use Rattle.model.specs.declared.types.Refusal.TheVariants.{Busy, NoSort, OrderFull, LogFull}
use Rattle.model.specs.declared.types.Status.TheVariants.{Up}
use Rattle.model.proofs.Sound.{awaits_call, own_call, grown_same, slots_set, slots_same}
use Rattle.model.proofs.Moves.{keep}
use Rattle.model.proofs.Steps.{SoundAt, opening, station_bounds}
use Rattle.model.proofs.Timed.{Floor, floor_call, Timed, flagged_zero, timed_changed, timed_quiet, TimedAt}

-- Questions

ask_cases : (b : Bool) (q : Refusal) (rest : Option Refusal) (P : Option Refusal → Type 0) → P (Some q) → (b ≡ true → P rest) →
    P (first_of (ask b q) rest)
ask_cases true q rest P refuse accept = accept refl
ask_cases false q rest P refuse accept = refuse

ask_last : (b : Bool) (q : Refusal) (P : Option Refusal → Type 0) → P (Some q) → (b ≡ true → P None) → P (ask b q)
ask_last true q P refuse accept = accept refl
ask_last false q P refuse accept = refuse

idle_is : (c : Call) → is_idle c ≡ true → c ≡ calls.Idle
idle_is calls.Idle e = refl
idle_is (calls.Update o p) e = absurd (both_ways true (sym e) refl)
idle_is (calls.Query o p) e = absurd (both_ways true (sym e) refl)

-- the order and the log have room for an update of station s
pub record Room {S : Type 0} (r : Machine S) (s : ℕ) : Type 0 where
  pub places : length r.order + unplaced r.stations < max_place
  pub lines : (station_at r s).used + max_lines ≤ log_length r.memory

-- a call of this sort that is not refused
abbrev pub accepted : {S : Type 0} → Machine S → ℕ → Op → Sort → Doing S (Result ℕ Refusal)
accepted r s o k = record {
  answer = Ok (call_number (station_at r s) k);
  machine = with_station r s (called_station (station_at r s) o k);
  touch = nothing;
}

-- a call is refused, or is a query or an update of an idle station in a run that is up
pub calling_cases : {S : Type 0} (r : Machine S) (s : ℕ) (o : Op) (P : Doing S (Result ℕ Refusal) → Type 0) → ((q : Refusal) → P (refused r q)) →
    (r.status ≡ Up → 1 ≤ s → s ≤ station_count → (station_at r s).call ≡ calls.Idle → r.rules.sort o ≡ sorts.Query →
    P (accepted r s o sorts.Query)) →
    (r.status ≡ Up → 1 ≤ s → s ≤ station_count → (station_at r s).call ≡ calls.Idle → r.rules.sort o ≡ sorts.Update → Room r s →
    P (accepted r s o sorts.Update)) → P (calling r s o)
calling_cases {S} r s o P refuse asked updated = go (r.rules.sort o) refl
  where
    by : Option Refusal → Type 0
    by q = P (calling_by q r s o)

    begun : (k : Sort) → (r.status ≡ Up → 1 ≤ s → s ≤ station_count → (station_at r s).call ≡ calls.Idle → by (room_question r s k)) →
        by (shut_first r.status (call_question r s k))
    begun k f = opening r.status (is_station s)
        (λ q. first_of q (first_of (ask (is_idle (station_at r s).call) Busy) (room_question r s k))) by refuse refuse
        (λ u b. ask_cases (is_idle (station_at r s).call) Busy (room_question r s k) by (refuse Busy)
        (λ i. let k = station_bounds s b in f u k.0 k.1 (idle_is (station_at r s).call i)))

    sorted : (k : Sort) → r.rules.sort o ≡ k → P (accepted r s o k) → by None
    sorted k e p = subst (λ k. P (accepted r s o k)) (sym e) p

    go : (k : Sort) → r.rules.sort o ≡ k → by (shut_first r.status (call_question r s k))
    go sorts.Neither e = begun sorts.Neither (λ u a m i. refuse NoSort)
    go sorts.Query e = begun sorts.Query (λ u a m i. sorted sorts.Query e (asked u a m i e))
    go sorts.Update e = begun sorts.Update (λ u a m i.
        ask_cases (ltb (length r.order + unplaced r.stations) max_place) OrderFull _ by (refuse OrderFull)
        (λ j. ask_last (leb ((station_at r s).used + max_lines) (log_length r.memory)) LogFull by (refuse LogFull)
        (λ k. sorted sorts.Update e (updated u a m i e (record {
          places = ltb-true (length r.order + unplaced r.stations) max_place j;
          lines = leb-true ((station_at r s).used + max_lines) (log_length r.memory) k;
        })))))

-- Calls keep a run sound and timed

pub call_sound : {S : Type 0} (r : Machine S) (s : ℕ) (o : Op) (l : Ledger) → l.run ≡ r.number → SoundAt r l →
    SoundAt (calling r s o).machine (fed l (called s o (calling r s o).answer))
call_sound {S} r s o l e z = calling_cases r s o (λ (d : Doing S (Result ℕ Refusal)). SoundAt d.machine (fed l (called s o d.answer))) (λ q. z)
    (λ u a h i k. keep (called_station (station_at r s) o sorts.Query) a h z
    (slots_same s l.waiting None (z.waits s a h ∙ ap (awaits_call r.number s (station_at r s).given) i)) tt (sym (ap own_call i)))
    (λ u a h i k w. rw (add-one, e) (keep updating a h z (slots_set s l.waiting _ (omega (arith, z.slots))) (omega arith, tt)
    (sym (ap own_call i))))
  where
    updating : Station
    updating = record { call = calls.Update o Look; given = suc (station_at r s).given; used = (station_at r s).used }

pub call_timed : {S : Type 0} (r : Machine S) (s : ℕ) (o : Op) (h : List Moment) → (ledger h).run ≡ r.number → length r.stations ≡ station_count →
    TimedAt h r → Timed r.number (called s o (calling r s o).answer ∷ h) (calling r s o).machine.order (calling r s o).machine.stations
call_timed {S} r s o h e many y = calling_cases r s o P
    (λ q. timed_quiet (called s o (Err q)) (flagged_zero r.order) (λ t. refl) (λ t. refl) y)
    (λ u a m i k. opened a m 0 (called_station (station_at r s) o sorts.Query) (new 0 (λ f. Unit) (λ f. tt)))
    (λ u a m i k w. opened a m ((station_at r s).given + 1) (called_station (station_at r s) o sorts.Update)
    (new ((station_at r s).given + 1) (λ f. Unit) (λ f. tt)))
  where
    P : Doing S (Result ℕ Refusal) → Type 0
    P d = Timed r.number (called s o d.answer ∷ h) d.machine.order d.machine.stations

    -- a new call's floor is a flagged place at or above all that was told
    new : (n : ℕ) (Reach : ℕ → Type 0) → ((f : ℕ) → Reach f) → Floor (called s o (Ok n) ∷ h) r.number s n o r.order 0 Reach
    new n Reach p = record {
      before = h;
      still = rw (eq-eqb s s refl, e);
      fences = rw (eq-eqb s s refl);
      floor = y.told.top;
      told = y.told.over;
      inside = y.told.inside;
      flag = y.told.flag;
      reach = p y.told.top;
    }

    opened : 1 ≤ s → s ≤ station_count → (n : ℕ) (x' : Station) → floor_call (called s o (Ok n) ∷ h) r.number s r.order x'.given x'.call →
        Timed r.number (called s o (Ok n) ∷ h) r.order (set r.stations (pred s) x')
    opened a m n x' fc = timed_changed (called s o (Ok n)) x' a m many (grown_same s r.order)
        (λ t k. rw (ne_eqb s t (λ e. k (sym e)))) (λ t k. rw (ne_eqb s t (λ e. k (sym e)))) (flagged_zero r.order) fc y
