-- A run that is not shut, with its history: each moment keeps what holds of it, and steps and calls keep the promises.
use Rattle.std.proofs.Common.{◌≡◌, ℕ, zero, suc, ◌+◌, ◌^◌, ◌<◌, ◌≤◌, true, cond, eqb, List, ◌∷◌, length, get_or, take, Some, None, Ok, Err, Option, Result, sym, ap, ◌∙◌, subst, inl, inr, arith}
use Rattle.std.proofs.lemmas.List.{length-map}
use Rattle.std.proofs.lemmas.Bool.{cases_lt}
use Rattle.memory.specs.Model.{Mem}
use Rattle.book.specs.declared.types.Op.{Op}
use Rattle.book.specs.declared.types.Sort.TheVariants as sorts
use Rattle.book.specs.Rules.{Rules}
use Rattle.model.specs.Machine as machine
use Rattle.model.specs.Machine.{done_at, Machine, Doing, with_state, left, no_update, station_at, called_station, calling, state_after, reply_at, stepping, highest_flag, place_of, telling, reply_given}
use Rattle.model.specs.History.{Moment, paid, Came, ledger, updates, found_count, Made}
use Rattle.model.specs.History.Moment.{started, risen, called, stepped, told, cut}
use Rattle.model.specs.Law.{holds_number, identity}
use Rattle.model.specs.declared.types.Update.{Update}
use Rattle.model.specs.declared.types.Node.{Node}
use Rattle.model.specs.declared.types.Refusal.{Refusal}
use Rattle.model.specs.declared.types.Replied.{Replied}
use Rattle.model.specs.declared.types.Outcome.{Outcome}
use Rattle.model.specs.declared.types.Outcome.TheVariants.{Done, Open, Never}
use Rattle.model.proofs.Sound.{station_here, updates_of, update_of, flag_of}
use Rattle.model.proofs.Steps.{SoundAt, order_length, step_sound}
use Rattle.model.proofs.Timed.{told_place, touched_clock, Timed, TimedAt, step_timed}
use Rattle.model.proofs.Calls.{calling_cases, call_sound, call_timed}
use Rattle.model.proofs.Outcomes.{telling_cases, TimedTold, tell_timed}
use Rattle.model.proofs.Replies.{update_same, RightStep, step_says, RightOutcome, RightTold, tell_says}
use Rattle.model.proofs.Onward.{Onward, step_onward, call_onward}
use Rattle.model.proofs.Counts.{CountsAt, step_counts, call_counts}
use Rattle.model.proofs.History.{came_cases, kind, came_other, Keeps, kept_less, kept_reply, goes_step, goes_call}
use Rattle.model.proofs.Past.{Distinct, FreshCall, Adds, Past, past_more}

-- what holds of a run that is not shut and the history that has led to it
pub record Live {S : Type 0} (R : Rules S) (h : List Moment) (r : Machine S) : Type 0 where
  pub rules : r.rules ≡ R
  pub run : (ledger h).run ≡ r.number
  pub clock : r.memory.fences < 2 ^ 32
  pub sound : SoundAt r (ledger h)
  pub timed : TimedAt h r
  pub counts : CountsAt r.number r
  -- call numbers of this run are those given, and nothing of this run was told never to come
  pub given : (s n : ℕ) (o : Op) (e : List Moment) → Came h (called s o (Ok n)) e → (ledger e).run ≡ r.number → n ≤ (station_at r s).given
  pub nevers : (run s n : ℕ) (e : List Moment) → Came h (told run s n (Ok Never)) e → run < r.number
  -- what the start found is flagged, and all else is of this run
  pub inside : found_count h ≤ length r.order
  pub old : (i : ℕ) → i < found_count h → flag_of r.order i ≡ true
  pub new : (i : ℕ) → found_count h ≤ i → i < length r.order → (update_of r.order i).run ≡ r.number

pub told_inside : {S : Type 0} {R : Rules S} {x : Moment} {h : List Moment} {r : Machine S} → Live R (x ∷ h) r →
    told_place x ≤ length (updates (x ∷ h))
told_inside {S} {R} {x} {h} {r} z = omega (arith, z.timed.told.over, z.timed.told.inside, order_length r (ledger (x ∷ h)) z.sound)

live_distinct : {S : Type 0} {R : Rules S} {h : List Moment} {r : Machine S} → Live R h r → Distinct (updates h)
live_distinct {S} {R} {h} {r} z = let e = order_length r (ledger h) z.sound in record {
  short = omega (arith, z.counts.fits);
  unique = λ i j l m q. z.counts.unique i j l (omega arith) (sym (ap identity (at i (omega arith))) ∙ q ∙ ap identity (at j (omega arith)));
}
  where
    at : (i : ℕ) → i < length r.order → get_or (updates h) i no_update ≡ update_of r.order i
    at i l = update_same r.order (updates h) i z.sound.same l

-- What a step and a call have in common

module _ {S : Type 0} {R : Rules S} {h : List Moment} {r r' : Machine S} (z : Live R h r) (w : Onward r r') where
  onward_old : (i : ℕ) → i < found_count h → flag_of r'.order i ≡ true
  onward_old i l = w.flags i (omega (arith, z.inside)) (z.old i l)

  onward_new : (i : ℕ) → found_count h ≤ i → i < length r'.order → (update_of r'.order i).run ≡ r'.number
  onward_new i a b = elim (cases_lt i (length r.order)) [
    | inl l ↦ ap (λ (u : Update). u.run) (w.keeps i l) ∙ z.new i a l ∙ sym w.number
    | inr l ↦ w.new i l b ∙ sym w.number
  ]

  onward_nevers : (x : Moment) → (kind x ≡ 4 → ⊥) → (run s n : ℕ) (e : List Moment) → Came (x ∷ h) (told run s n (Ok Never)) e → run < r'.number
  onward_nevers x d run s n e c = let a = z.nevers run s n e (came_other x (told run s n (Ok Never)) h e d c) in omega (arith, w.number)

  -- each update of the new order is an old one or of this run
  onward_adds : {us us' : List Update} → updates_of r.order ≡ us → updates_of r'.order ≡ us' → Adds h us us'
  onward_adds {us} {us'} e e' i l =
      let k : length r'.order ≡ length us' = sym (length-map r'.order (λ n. n.update)) ∙ ap length e' in
      let k₀ : length r.order ≡ length us = sym (length-map r.order (λ n. n.update)) ∙ ap length e in
      elim (cases_lt i (length r.order)) [
        | inl m ↦ inl (omega arith, update_same r'.order us' i e' (omega arith) ∙ w.keeps i m ∙ sym (update_same r.order us i e m))
        | inr m ↦ inr (λ run s n f c q.
            let a = z.nevers run s n f c in
            let b = w.new i m (omega arith) in
            let d = ap (λ (u : Update). u.run) (update_same r'.order us' i e' (omega arith)) in omega arith)
      ]

-- Steps

-- the moment of a step
abbrev pub step_moment : {S : Type 0} → Machine S → ℕ → List ℕ → Moment
step_moment r s ns = stepped s (stepping r s).answer (paid r.memory (left (stepping r s) ns).memory)

-- a step keeps what holds of the run
pub live_step : {S : Type 0} (R : Rules S) (h : List Moment) (r : Machine S) (s : ℕ) (ns : List ℕ) → Live R h r →
    Live R (step_moment r s ns ∷ h) (left (stepping r s) ns)
live_step {S} R h r s ns z = record {
  rules = w.rules ∙ z.rules;
  run = (goes_step (ledger h) s (stepping r s).answer _).run ∙ z.run ∙ sym w.number;
  clock = touched_clock (stepping r s).touch ns (stepping r s).machine.memory
      (subst (λ (m : Mem). m.fences < 2 ^ 32) (sym w.memory) z.clock);
  sound = step_sound r s (ledger h) _ z.sound;
  timed = subst (λ n. Timed n (step_moment r s ns ∷ h) (stepping r s).machine.order (stepping r s).machine.stations) (sym w.number)
      (step_timed r s (ledger h) h ns z.clock z.sound z.timed);
  counts = subst (λ n. CountsAt n (stepping r s).machine) (sym w.number) (step_counts r s (ledger h) z.sound z.counts);
  given = λ t n o e c q.
      let a = z.given t n o e (came_other _ (called t o (Ok n)) h e (omega arith) c) (q ∙ w.number) in let b = w.given t in omega arith;
  nevers = onward_nevers z w (step_moment r s ns) (omega arith);
  inside = omega (arith, z.inside, w.longer);
  old = onward_old z w;
  new = onward_new z w;
}
  where
    w : Onward r (stepping r s).machine
    w = step_onward r s (ledger h) z.sound

-- and the promises: what it replies stays right when it places an update

holds_inside : (us : List Update) (s : ℕ) (c : Made) (p g : ℕ) → holds_number us s c p g → p ≤ length us
holds_inside us s c p zero h = h
holds_inside us s c p (suc g) h = h.1

kept_says : {S : Type 0} (R : Rules S) (h : List Moment) {us us' : List Update} (s : ℕ) (a : Result (Option Replied) Refusal) (b : ℕ) →
    Keeps (length us) us us' → RightStep R h us s a b → RightStep R h us' s a b
kept_says R h s (Ok None) b k f = tt
kept_says R h {us} s (Ok (Some x)) b k f = kept_reply R (kept_less (holds_inside us s f.made x.place f.made.number f.holds) k) f
kept_says R h s (Err q) b k f = tt

pub past_step : {S : Type 0} (R : Rules S) (h : List Moment) (r : Machine S) (s : ℕ) (ns : List ℕ) → Live R h r → Past R h →
    Past R (step_moment r s ns ∷ h)
past_step {S} R h r s ns z past = past_more R h (step_moment r s ns) past (kept_less past.inside kept) (told_inside z') (live_distinct z')
    (onward_adds z (step_onward r s (ledger h) z.sound) z.sound.same z'.sound.same)
    (kept_says R h s (stepping r s).answer b kept (subst (λ (Q : Rules S). RightStep Q h (updates h) s (stepping r s).answer b) z.rules
    (step_says r s h ns z.clock z.sound z.timed)))
  where
    b : ℕ
    b = paid r.memory (left (stepping r s) ns).memory

    z' : Live R (step_moment r s ns ∷ h) (left (stepping r s) ns)
    z' = live_step R h r s ns z

    kept : Keeps (length (updates h)) (updates h) (updates (step_moment r s ns ∷ h))
    kept = (goes_step (ledger h) s (stepping r s).answer b).keeps

-- Calls

ok_is : (a b : ℕ) → ◌≡◌ {A = Result ℕ Refusal} (Ok a) (Ok b) → a ≡ b
ok_is a b e = cc

-- a call keeps what holds of the run, and the promises
pub live_call : {S : Type 0} (R : Rules S) (h : List Moment) (r : Machine S) (s : ℕ) (o : Op) → Live R h r →
    Live R (called s o (calling r s o).answer ∷ h) (calling r s o).machine
live_call {S} R h r s o z = record {
  rules = w.rules ∙ z.rules;
  run = (goes_call (ledger h) s o (calling r s o).answer).run ∙ z.run ∙ sym w.number;
  clock = subst (λ (m : Mem). m.fences < 2 ^ 32) (sym w.memory) z.clock;
  sound = call_sound r s o (ledger h) z.run z.sound;
  timed = subst (λ n. Timed n (called s o (calling r s o).answer ∷ h) (calling r s o).machine.order (calling r s o).machine.stations)
      (sym w.number) (call_timed r s o h z.run z.sound.many z.timed);
  counts = subst (λ n. CountsAt n (calling r s o).machine) (sym w.number) (call_counts r s o (ledger h) z.sound z.counts);
  given = given;
  nevers = onward_nevers z w (called s o (calling r s o).answer) (omega arith);
  inside = omega (arith, z.inside, w.longer);
  old = onward_old z w;
  new = onward_new z w;
}
  where
    w : Onward r (calling r s o).machine
    w = call_onward r s o (ledger h) z.sound

    -- the number that this call was given
    mine : (n : ℕ) → (calling r s o).answer ≡ Ok n → n ≤ (station_at (calling r s o).machine s).given
    mine = calling_cases r s o (λ (d : Doing S (Result ℕ Refusal)). (n : ℕ) → d.answer ≡ Ok n → n ≤ (station_at d.machine s).given)
        (λ q n e. let k : ◌≡◌ {A = ℕ} 0 1 = cc in absurd (omega arith))
        (λ u a m i k n e. let j : 0 ≡ n = ok_is 0 n e in omega arith)
        (λ u a m i k y n e. let j : (station_at r s).given + 1 ≡ n = ok_is ((station_at r s).given + 1) n e in
        rw (station_here s r.stations (called_station (station_at r s) o sorts.Update) a m z.sound.many) (omega arith))

    given : (t n : ℕ) (p : Op) (e : List Moment) → Came (called s o (calling r s o).answer ∷ h) (called t p (Ok n)) e →
        (ledger e).run ≡ (calling r s o).machine.number → n ≤ (station_at (calling r s o).machine t).given
    given t n p e c q = elim (came_cases _ (called t p (Ok n)) h e c) [
      | inl k ↦ (let i : s ≡ t = cc in let j : (calling r s o).answer ≡ Ok n = cc in
          subst (λ (y : ℕ). n ≤ (station_at (calling r s o).machine y).given) i (mine n j))
      | inr d ↦ (let a = z.given t n p e d (q ∙ w.number) in let b = w.given t in omega arith)
    ]

pub past_call : {S : Type 0} (R : Rules S) (h : List Moment) (r : Machine S) (s : ℕ) (o : Op) → Live R h r → Past R h →
    Past R (called s o (calling r s o).answer ∷ h)
past_call {S} R h r s o z past = past_more R h (called s o (calling r s o).answer) past
    (kept_less past.inside (goes_call (ledger h) s o (calling r s o).answer).keeps) (told_inside z') (live_distinct z')
    (onward_adds z (call_onward r s o (ledger h) z.sound) z.sound.same z'.sound.same)
    (calling_cases r s o (λ (d : Doing S (Result ℕ Refusal)). FreshCall h s d.answer) (λ q. tt) (λ u a m i k l. absurd (omega arith))
    (λ u a m i k y l p e c q. let b = z.given s ((station_at r s).given + 1) p e c (q ∙ z.run) in omega arith))
  where
    z' : Live R (called s o (calling r s o).answer ∷ h) (calling r s o).machine
    z' = live_call R h r s o z

-- Outcomes

abbrev NeverOf : Outcome → ℕ → ℕ → Type 0
NeverOf (Done x) run num = Unit
NeverOf Open run num = Unit
NeverOf Never run num = run < num

-- what is told never to come is of an earlier run
abbrev NeverIn : Moment → ℕ → Type 0
NeverIn (started a) num = Unit
NeverIn (risen a) num = Unit
NeverIn (called s o a) num = Unit
NeverIn (stepped s a b) num = Unit
NeverIn (told run s n (Ok a)) num = NeverOf a run num
NeverIn (told run s n (Err q)) num = Unit
NeverIn (cut k) num = Unit

never_of : {S : Type 0} (R : Rules S) (num : ℕ) (o : List Node) (us : List Update) (run s n : ℕ) (a : Outcome) → RightOutcome R num o us run s n a →
    run ≤ num → NeverOf a run num
never_of R num o us run s n (Done x) t l = tt
never_of R num o us run s n Open t l = tt
never_of R num o us run s n Never t l = let k = t.0 in omega arith

never_in : {S : Type 0} (R : Rules S) (num : ℕ) (o : List Node) (us : List Update) (run s n : ℕ) (a : Result Outcome Refusal) →
    RightTold R num o us run s n a → NeverIn (told run s n a) num
never_in R num o us run s n (Ok a) t = never_of R num o us run s n a t.0 t.1
never_in R num o us run s n (Err q) t = tt

told_live : {S : Type 0} (R : Rules S) (h : List Moment) (r : Machine S) (run s n : ℕ) (a : Result Outcome Refusal) → Live R h r →
    TimedAt (told run s n a ∷ h) r → NeverIn (told run s n a) r.number → Live R (told run s n a ∷ h) r
told_live R h r run s n a z y w = record {
  rules = z.rules;
  run = z.run;
  clock = z.clock;
  sound = z.sound;
  timed = y;
  counts = z.counts;
  given = λ t m p e c q. z.given t m p e (came_other _ (called t p (Ok m)) h e (omega arith) c) q;
  nevers = λ run₁ t m e c. elim (came_cases _ (told run₁ t m (Ok Never)) h e c) [
    | inl k ↦ subst (λ (x : Moment). NeverIn x r.number) k.0 w
    | inr d ↦ z.nevers run₁ t m e d
  ];
  inside = z.inside;
  old = z.old;
  new = z.new;
}

live_state : {S : Type 0} (R : Rules S) (h : List Moment) (r : Machine S) (x : S) → Live R h r → Live R h (with_state r x)
live_state R h r x z = record {
  rules = z.rules;
  run = z.run;
  clock = z.clock;
  sound = z.sound;
  timed = z.timed;
  counts = z.counts;
  given = z.given;
  nevers = z.nevers;
  inside = z.inside;
  old = z.old;
  new = z.new;
}

-- an outcome keeps what holds of the run
pub live_tell : {S : Type 0} (R : Rules S) (h : List Moment) (r : Machine S) (run s n : ℕ) → Live R h r →
    Live R (told run s n (telling r run s n).answer ∷ h) (telling r run s n).machine
live_tell {S} R h r run s n z = telling_cases r run s n P (λ q y t. told_live R h r run s n (Err q) z y tt)
    (λ u a m k. go (place_of (take (highest_flag r.order) r.order) 1 run s n))
    (tell_timed r run s n h z.timed) (tell_says r run s n (updates h) z.sound.same)
  where
    P : Doing S (Result Outcome Refusal) → Type 0
    P d = TimedTold r.number h run s n d → RightTold r.rules r.number r.order (updates h) run s n d.answer →
        Live R (told run s n d.answer ∷ h) d.machine

    go : (x : Option ℕ) → P (machine.told r run x)
    go None y t = told_live R h r run s n (Ok (cond (eqb run r.number) Open Never)) z y
        (never_in r.rules r.number r.order (updates h) run s n (Ok (cond (eqb run r.number) Open Never)) t)
    go (Some p) y t = live_state R (told run s n (Ok (done_at p (reply_at r.rules r.order p))) ∷ h) r (state_after r.rules r.order p)
        (told_live R h r run s n (Ok (done_at p (reply_at r.rules r.order p))) z y tt)
