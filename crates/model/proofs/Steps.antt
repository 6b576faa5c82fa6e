-- Each step of a station keeps the run sound.
use Rattle.std.proofs.Common.{◌≡◌, ℕ, zero, suc, pred, ◌+◌, ◌*◌, ◌<◌, ◌≤◌, Bool, true, false, cond, eqb, ltb, leb, List, length, get_or, set, Some, None, Option, Result, sym, refl, ap, ◌∙◌, subst, inl, inr, arith}
use Rattle.std.proofs.lemmas.List.{length-map}
use Rattle.std.proofs.lemmas.Bool.{both_ways, ltb-true, ltb-false, leb-true, eqb-true, eqb-false, lt-ltb, eq-eqb, ne_eqb, and_parts, cases_eq, cond_both}
use Rattle.book.specs.declared.types.Op.{Op}
use Rattle.model.specs.Journal.{station_count, max_lines}
use Rattle.model.specs.Machine.{Machine, ask, first_of, shut_first, Doing, refused, station_at, is_station, is_up, flag_at, with_call, update_step, query_step, station_step, stepping_by, stepping}
use Rattle.model.specs.History.{Waiting, Ledger, fed}
use Rattle.model.specs.History.Moment.{stepped}
use Rattle.model.specs.declared.types.Update.{Update}
use Rattle.model.specs.declared.types.Node.{Node}
use Rattle.model.specs.declared.types.Phase.{Phase}
use Rattle.model.specs.declared.types.Phase.TheVariants.{Look, Place, Walk, Write, Fence, Flag, Answer}
use Rattle.model.specs.declared.types.QueryPhase.{QueryPhase}
use Rattle.model.specs.declared.types.QueryPhase.TheVariants as query
use Rattle.model.specs.declared.types.Call.{Call}
use Rattle.model.specs.declared.types.Call.TheVariants as calls
use Rattle.model.specs.declared.types.Station.{Station}
use Rattle.model.specs.declared.types.Refusal.{Refusal}
use Rattle.model.specs.declared.types.Refusal.TheVariants.{NoStation, NotUp}
use Rattle.model.specs.declared.types.Status.{Status}
use Rattle.model.specs.declared.types.Status.TheVariants.{Rising, Up, Shut}
use Rattle.model.specs.declared.types.Replied.{Replied}
use Rattle.model.proofs.Pigeons.{pigeons}
use Rattle.model.proofs.Sound.{station_of, own_update, awaits_call, own_phase, own_call, update_of, flag_of, Holds, Apart, Away, stand_query, stand_call, Owned, Sound, Slots, slots_set, slots_same}
use Rattle.model.proofs.Moves.{keep, placed, flag_set, flagged_now}

-- Walks

-- places of different stations are at most eight, and at most seven where station s has none of them
pub apart_few : (o : List Node) (p u : ℕ) → Apart o p u → u ≤ station_count
apart_few o p u a = pigeons station_count u (λ i. (update_of o (p + i)).station) (λ i b. a.named (p + i) (omega arith) (omega arith))
    (λ i j b c. a.apart (p + i) (p + j) (omega arith) (omega arith) (omega arith))

pub away_few : (o : List Node) (s p u : ℕ) → 1 ≤ s → s ≤ station_count → Apart o p u → Away o s p u → u < station_count
away_few o s p u l h a w = pigeons station_count (suc u) at
    (λ i b. cond_both (ltb i u) (update_of o (p + i)).station s (λ (x : ℕ). (1 ≤ x) × (x ≤ station_count))
    (λ e. a.named (p + i) (omega arith) (let k = ltb-true i u e in omega arith)) (λ e. (l, h)))
    (λ i j b c. cond_both (ltb j u) (update_of o (p + j)).station s (λ (x : ℕ). at i ≡ x → ⊥)
    (λ e. let k = ltb-true j u e in rw (lt-ltb i u (omega arith)) (a.apart (p + i) (p + j) (omega arith) (omega arith) (omega arith)))
    (λ e. let k = ltb-false j u e in rw (lt-ltb i u (omega arith)) (w (p + i) (omega arith) (omega arith))))
  where
    -- the stations of the places, and s last
    at : ℕ → ℕ
    at i = cond (ltb i u) (update_of o (p + i)).station s

-- a walk that has come to a flag has found its own place unset at least
walk_some : (o : List Node) (v : Update) (p u : ℕ) → Holds o (p + u) v false → flag_at o p ≡ true → 1 ≤ u
walk_some o v p zero k f =
    let e : p + 0 ≡ p = omega arith in absurd (both_ways (flag_of o (pred p)) (rw e at k.flag) (sym (flag_set o p (omega (arith, k.low))) ∙ f))
walk_some o v p (suc u) k f = omega arith

pub walk_done : (o : List Node) (v : Update) (p u : ℕ) → Holds o (p + u) v false → Apart o p u → flag_at o p ≡ true → (1 ≤ u) × (u ≤ max_lines)
walk_done o v p u k a f = (walk_some o v p u k f, apart_few o p u a)

-- place 0 is flagged
pub walk_low : (o : List Node) (p : ℕ) → flag_at o p ≡ false → 1 ≤ p
walk_low o zero f = absurd (both_ways true f refl)
walk_low o (suc p) f = omega arith

-- a walk that finds the place p unset
module _ {num : ℕ} {o : List Node} {xs : List Station} {us : List Update} {ws : List (Option Waiting)} (z : Sound num o xs us ws) (p u : ℕ)
    (high : p + u ≤ length o) (f : flag_at o p ≡ false) where
  unset : flag_of o (pred p) ≡ false
  unset = sym (flag_set o p (walk_low o p f)) ∙ f

  owner : Owned xs (update_of o (pred p)).station (pred p)
  owner = let low = walk_low o p f in z.owned (pred p) (omega arith) unset

  walk_apart : Apart o p u → Apart o (pred p) (u + 1)
  walk_apart a = let low = walk_low o p f in record {
    named = λ i b c. elim (cases_eq i (pred p)) [ inl e ↦ rw e (owner.low, owner.high) | inr e ↦ a.named i (omega arith) (omega arith) ];
    apart = λ i j b c d. elim (cases_eq i (pred p)) [
      | inl e ↦ rw e (z.last (pred p) j (omega arith) (omega arith) unset)
      | inr e ↦ a.apart i j (omega arith) c (omega arith)
    ];
  }

  -- a station with no place of its own does not own p
  walk_away : (s : ℕ) → own_call (station_of xs s).call ≡ 0 → Away o s p u → Away o s (pred p) (u + 1)
  walk_away s e w i b c q = let low = walk_low o p f in elim (cases_eq i (pred p)) [
    | inl d ↦ (let t : (update_of o (pred p)).station ≡ s = rw d at q in
        let k : own_call (station_of xs s).call ≡ pred p + 1 = rw t at owner.own in omega arith)
    | inr d ↦ w i (omega arith) (omega arith) q
  ]

-- Steps

-- a run with its ledger
abbrev pub SoundAt : {S : Type 0} → Machine S → Ledger → Type 0
SoundAt r l = Sound r.number r.order r.stations l.updates l.waiting

-- what holds of the call c of station s
abbrev pub StandsAt : {S : Type 0} → Machine S → ℕ → Call → Type 0
StandsAt r s c = stand_call r.number s r.order (station_at r s).given c

pub stands_at : {S : Type 0} (r : Machine S) (l : Ledger) → SoundAt r l → (s : ℕ) → 1 ≤ s → s ≤ station_count → {c : Call} →
    (station_at r s).call ≡ c → StandsAt r s c
stands_at r l z s a h e = subst (λ c. StandsAt r s c) e (z.stands s a h)

-- the run and the ledger after a step of station s
abbrev SoundBy : {S : Type 0} → Ledger → ℕ → ℕ → Doing S (Result (Option Replied) Refusal) → Type 0
SoundBy l s b d = SoundAt d.machine (fed l (stepped s d.answer b))

-- the order is as long as the ledger
pub order_length : {S : Type 0} (r : Machine S) (l : Ledger) → SoundAt r l → length r.order ≡ length l.updates
order_length r l z = sym (length-map r.order (λ n. n.update)) ∙ ap length z.same

module _ {S : Type 0} (r : Machine S) (s : ℕ) (l : Ledger) (b : ℕ) (a : 1 ≤ s) (h : s ≤ station_count) (z : SoundAt r l) where
  update_sound : (op : Op) (p : Phase) → (station_at r s).call ≡ calls.Update op p → SoundBy l s b (update_step r s (station_at r s) op p)
  update_sound op p e = go p e (subst (λ c. get_or l.waiting (pred s) None ≡ awaits_call r.number s (station_at r s).given c) e (z.waits s a h))
      (stands_at r l z s a h e)
    where
      room : pred s < length l.waiting
      room = omega (arith, z.slots)

      long : length r.order ≡ length l.updates
      long = order_length r l z

      stays : {q : Phase} {ws' : List (Option Waiting)} (p : Phase) →
          Slots s l.waiting ws' (awaits_call r.number s (station_at r s).given (calls.Update op p)) →
          (station_at r s).call ≡ calls.Update op q → StandsAt r s (calls.Update op p) → own_phase p ≡ own_phase q →
          Sound r.number r.order (set r.stations (pred s) (with_call (station_at r s) (calls.Update op p))) l.updates ws'
      stays p k e t d = keep (with_call (station_at r s) (calls.Update op p)) a h z k t (d ∙ sym (ap own_call e))

      go : (p : Phase) → (station_at r s).call ≡ calls.Update op p →
          get_or l.waiting (pred s) None ≡ awaits_call r.number s (station_at r s).given (calls.Update op p) →
          StandsAt r s (calls.Update op p) → SoundBy l s b (update_step r s (station_at r s) op p)
      go Look e w t = rw (w, ← long) (stays (Place (length r.order)) (slots_set s l.waiting _ room) e (t.0, omega arith) refl)
      go (Place n) e w t = cond_both (eqb (length r.order) n) _ _ (SoundBy l s b)
          (λ f. let f' = eqb-true (length r.order) n f in
          rw (w, eq-eqb n (length l.updates) (omega (arith, long)))
          (placed op n a h z (omega arith) t.0 (slots_set s l.waiting None room) (ap own_call e)))
          (λ f. let f' = eqb-false (length r.order) n f in
          rw (w, ne_eqb n (length l.updates) (omega (arith, long))) (stays Look (slots_set s l.waiting _ room) e (t.0, tt) refl))
      go (Walk p u) e w t = cond_both (flag_at r.order p) _ _ (SoundBy l s b)
          (λ f. let k = walk_done r.order (own_update r.number s (station_at r s).given op) p u t.1.0 t.1.1 f in
          rw w (stays (Write (p + u) u 0) (slots_same s l.waiting _ w) e (t.0, (t.1.0, k.0, k.1, omega arith, omega arith)) refl))
          (λ f. let low = walk_low r.order p f in let even : pred p + (u + 1) ≡ p + u = omega arith in
          rw w (stays (Walk (pred p) (u + 1)) (slots_same s l.waiting _ w) e
          (t.0, (rw even t.1.0, walk_apart z p u t.1.0.high f t.1.1)) even))
      go (Write own m i) e w t = rw w (cond_both (eqb (i + 1) (10 * m)) (Fence own m) (Write own m (i + 1))
          (λ (q : Phase). Sound r.number r.order (set r.stations (pred s) (with_call (station_at r s) (calls.Update op q))) l.updates
          l.waiting)
          (λ f. stays (Fence own m) (slots_same s l.waiting _ w) e (t.0, (t.1.0, t.1.1, t.1.2, t.1.3)) refl)
          (λ f. let f' = eqb-false (i + 1) (10 * m) f in let k = t.1.4 in
          stays (Write own m (i + 1)) (slots_same s l.waiting _ w) e (t.0, (t.1.0, t.1.1, t.1.2, t.1.3, omega arith)) refl))
      go (Fence own m) e w t = rw w (keep fenced a h z (slots_same s l.waiting _ w) (t.0, t.1.0) (sym (ap own_call e)))
        where
          fenced : Station
          fenced = record { call = calls.Update op (Flag own); given = (station_at r s).given; used = (station_at r s).used + m }
      go (Flag own) e w t = rw w (flagged_now op own a h z t.0 (slots_same s l.waiting _ w) (ap own_call e) t.1)
      go (Answer own) e w t = rw w (keep (with_call (station_at r s) calls.Idle) a h z (slots_same s l.waiting _ w) tt (sym (ap own_call e)))

  query_sound : (op : Op) (p : QueryPhase) → (station_at r s).call ≡ calls.Query op p → SoundBy l s b (query_step r s (station_at r s) op p)
  query_sound op p e = go p e (stands_at r l z s a h e)
    where
      slot : get_or l.waiting (pred s) None ≡ None
      slot = subst (λ c. get_or l.waiting (pred s) None ≡ awaits_call r.number s (station_at r s).given c) e (z.waits s a h)

      stays : (c : Call) → awaits_call r.number s (station_at r s).given c ≡ None → own_call c ≡ 0 → StandsAt r s c →
          Sound r.number r.order (set r.stations (pred s) (with_call (station_at r s) c)) l.updates l.waiting
      stays c k d t = keep (with_call (station_at r s) c) a h z (slots_same s l.waiting _ (slot ∙ sym k)) t (d ∙ sym (ap own_call e))

      go : (p : QueryPhase) → (station_at r s).call ≡ calls.Query op p → stand_query r.order s p →
          SoundBy l s b (query_step r s (station_at r s) op p)
      go query.Look e t = rw slot (stays (calls.Query op (query.Walk (length r.order) 0)) refl refl (
        omega arith,
        record { named = λ i a b. absurd (omega arith); apart = λ i j a b c. absurd (omega arith) },
        λ i a b. absurd (omega arith),
      ))
      go (query.Walk p u) e t = cond_both (flag_at r.order p) _ _ (SoundBy l s b)
          (λ f. let k = t.0 in rw slot (stays (calls.Query op (query.Answer p)) refl refl (omega arith, f)))
          (λ f. let low = walk_low r.order p f in let k = t.0 in rw slot (stays (calls.Query op (query.Walk (pred p) (u + 1))) refl refl
          (omega arith, walk_apart z p u t.0 f t.1, walk_away z p u t.0 f s (ap own_call e) t.2)))
      go (query.Answer p) e t = rw slot (stays calls.Idle refl refl tt)

  station_sound : (c : Call) → (station_at r s).call ≡ c → SoundBy l s b (station_step r s (station_at r s) c)
  station_sound calls.Idle e = z
  station_sound (calls.Update op p) e = update_sound op p e
  station_sound (calls.Query op p) e = query_sound op p e

-- what calls, steps and outcomes ask first: the status and the station
pub opening : (x : Status) (b : Bool) (rest : Option Refusal → Option Refusal) (P : Option Refusal → Type 0) → ((q : Refusal) → P (Some q)) →
    ((q : Refusal) → P (rest (Some q))) → (x ≡ Up → b ≡ true → P (rest None)) →
    P (shut_first x (rest (first_of (ask b NoStation) (ask (is_up x) NotUp))))
opening (Rising x) true rest P shut refuse accept = refuse NotUp
opening (Rising x) false rest P shut refuse accept = refuse NoStation
opening Up true rest P shut refuse accept = accept refl refl
opening Up false rest P shut refuse accept = refuse NoStation
opening (Shut q) b rest P shut refuse accept = shut q

pub station_bounds : (s : ℕ) → is_station s ≡ true → (1 ≤ s) × (s ≤ station_count)
station_bounds s e = let k = and_parts (leb 1 s) (leb s station_count) e in (leb-true 1 s k.0, leb-true s station_count k.1)

-- a step is refused, or is one of a station in a run that is up
pub stepping_cases : {S : Type 0} (r : Machine S) (s : ℕ) (P : Doing S (Result (Option Replied) Refusal) → Type 0) → ((q : Refusal) → P (refused r q)) →
    (r.status ≡ Up → 1 ≤ s → s ≤ station_count → P (station_step r s (station_at r s) (station_at r s).call)) → P (stepping r s)
stepping_cases r s P refuse accept = opening r.status (is_station s) (λ q. q) (λ (q : Option Refusal). P (stepping_by q r s)) refuse refuse
    (λ u b. let k = station_bounds s b in accept u k.0 k.1)

-- every step keeps the run sound
pub step_sound : {S : Type 0} (r : Machine S) (s : ℕ) (l : Ledger) (b : ℕ) → SoundAt r l →
    SoundAt (stepping r s).machine (fed l (stepped s (stepping r s).answer b))
step_sound r s l b z = stepping_cases r s (SoundBy l s b) (λ q. z) (λ u a h. station_sound r s l b a h z (station_at r s).call refl)
