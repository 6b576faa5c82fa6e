-- Outcomes keep the promises: a new outcome agrees with all that was told and replied before.
use Rattle.std.proofs.Common.{◌≡◌, ℕ, zero, suc, pred, ◌<◌, ◌≤◌, true, List, ◌∷◌, length, get_or, Some, Ok, Err, Result, sym, refl, ap, ap₂, ◌∙◌, subst, inl, inr, arith}
use Rattle.std.proofs.lemmas.Bool.{both_ways, ne_eqb, cases_lt, cases_order}
use Rattle.book.specs.Rules.{Rules, Reply, apply_reply}
use Rattle.model.specs.Machine.{done_at, Machine, no_update, highest_flag, has_identity, telling, reply_given}
use Rattle.model.specs.History.{Moment, Came, ledger, updates, found_count, Made, newest}
use Rattle.model.specs.History.Moment.{stepped, told}
use Rattle.model.specs.History.Tells.{by_reply, by_done}
use Rattle.model.specs.Law.{state_at, update_at, reply_of, holds_number, identity}
use Rattle.model.specs.declared.types.Update.{Update}
use Rattle.model.specs.declared.types.Refusal.{Refusal}
use Rattle.model.specs.declared.types.Outcome.{Outcome}
use Rattle.model.specs.declared.types.Outcome.TheVariants.{Done, Open, Never}
use Rattle.model.proofs.Sound.{own_update}
use Rattle.model.proofs.Steps.{order_length}
use Rattle.model.proofs.Timed.{peak, came_peak}
use Rattle.model.proofs.Outcomes.{top_above, identity_is, identity_has, First}
use Rattle.model.proofs.Replies.{update_same, Missing, RightDone, RightOutcome, RightTold, tell_says}
use Rattle.model.proofs.Past.{FreshTold, FreshOutcome, Past, past_more, made_is}
use Rattle.model.proofs.Live.{Live, told_inside, live_tell}

first_same : (us : List Update) (i j run s n : ℕ) → First us i run s n → First us j run s n → i ≡ j
first_same us i j run s n a b = elim (cases_order i j) [
  | inl e ↦ e
  | inr d ↦ elim d [ inl h ↦ absurd (both_ways _ (b.first i h) a.is) | inr h ↦ absurd (both_ways _ (a.first j h) b.is) ]
]

-- what an outcome is, taken along an equation
abbrev DoneRight : {S : Type 0} → Rules S → List Update → ℕ → ℕ → ℕ → Outcome → Type 0
DoneRight R us run s n (Done x) = RightDone R us x.place x.reply run s n
DoneRight R us run s n Open = Unit
DoneRight R us run s n Never = Unit

abbrev DoneFound : List Moment → ℕ → ℕ → ℕ → Outcome → Type 0
DoneFound h run s n (Done x) = (1 ≤ x.place) × (x.place ≤ found_count h) × (identity (update_at (updates h) x.place) ≡ (run, s, n))
DoneFound h run s n Open = Unit
DoneFound h run s n Never = Unit

-- what a right reply to an update says of its place
answered_number : {S : Type 0} (R : Rules S) (us : List Update) (s : ℕ) (c : Made) (p g : ℕ) (v : Reply) → 1 ≤ g → holds_number us s c p g →
    v ≡ reply_of R us g c.op p →
    (1 ≤ p) × (p ≤ length us) × (update_at us p ≡ own_update c.run s g c.op) × (v ≡ apply_reply R (state_at R us (pred p)) c.op)
answered_number R us s c p zero v e h w = absurd (omega arith)
answered_number R us s c p (suc g) v e h w = (h.0, h.1, h.2, w)

module _ {S : Type 0} (R : Rules S) (h : List Moment) (r : Machine S) (run s n : ℕ) (z : Live R h r) (past : Past R h) where
  -- no flagged update has the identity
  abbrev Unflagged : Type 0
  Unflagged = Missing (updates h) (highest_flag r.order) run s n

  -- station s has replied at place p with v to the update of this identity
  abbrev RepliedBefore : ℕ → Reply → Type 0
  RepliedBefore p v = (b : ℕ) × (c : Made) × (e : List Moment) × Came h (stepped s (Ok (reply_given p v)) b) e × (newest e s ≡ Some c) ×
      (c.run ≡ run) × (c.number ≡ n) × (1 ≤ n)

  -- all that was told, and all that the start found, is at or below the highest flag
  told_flagged : (p : ℕ) → p ≤ peak h → p ≤ highest_flag r.order
  told_flagged p k = let t = top_above r.order z.timed.told.top z.timed.told.inside z.timed.told.flag in
      omega (arith, z.timed.told.over)

  found_flagged : (p : ℕ) → p ≤ found_count h → p ≤ highest_flag r.order
  found_flagged zero m = omega arith
  found_flagged (suc p) m = top_above r.order (suc p) (omega (arith, z.inside)) (z.old p m)

  -- so where no flagged update has the identity, it was never told done, and the start has not found it
  never_done : Unflagged → (p : ℕ) (v : Reply) (e : List Moment) → Came h (told run s n (Ok (done_at p v))) e → ⊥
  never_done miss p v e c =
      let f = past.outcomes run s n p v e c in
      let k = told_flagged p (came_peak h e _ p c by_done) in both_ways _ (miss (pred p) (omega (arith, f.low))) f.first.is

  never_found : Unflagged → (p : ℕ) → 1 ≤ p → p ≤ found_count h → identity (update_at (updates h) p) ≡ (run, s, n) → ⊥
  never_found miss p l m e = let k = found_flagged p m in both_ways _ (miss (pred p) (omega arith)) (identity_has (update_at (updates h) p) run s n e)

  -- updates that the start has not found are of this run
  run_at : (i : ℕ) → found_count h ≤ i → i < length (updates h) → (get_or (updates h) i no_update).run ≡ r.number
  run_at i a b =
      let k = order_length r (ledger h) z.sound in
      ap (λ (u : Update). u.run) (update_same r.order (updates h) i z.sound.same (omega arith)) ∙ z.new i a (omega arith)

  found_of : (p : ℕ) (v : Reply) → RightDone R (updates h) p v run s n → run < (ledger h).run → DoneFound h run s n (done_at p v)
  found_of p v t k = let i = identity_is (update_at (updates h) p) run s n t.first.is in (t.low, old i, i)
    where
      old : identity (update_at (updates h) p) ≡ (run, s, n) → p ≤ found_count h
      old i = elim (cases_lt (found_count h) p) [
        | inl l ↦ (let a = run_at (pred p) (omega arith) t.first.inside in let b = ap (λ (t : ℕ × ℕ × ℕ). t.0) i in
            absurd (omega (arith, z.run)))
        | inr l ↦ l
      ]

  missing_all : (run ≡ r.number → ⊥) → Unflagged → Missing (updates h) (length (updates h)) run s n
  missing_all d miss i l = elim (cases_lt i (highest_flag r.order)) [
    | inl k ↦ miss i k
    | inr k ↦ (let w = found_flagged (found_count h) (omega arith) in
        let a = run_at i (omega arith) l in rw (ne_eqb (get_or (updates h) i no_update).run run (omega arith)))
  ]

  -- What was told before

  steady_done : (p : ℕ) (v : Reply) → RightDone R (updates h) p v run s n → (b : Outcome) (e : List Moment) → Came h (told run s n (Ok b)) e →
      (b ≡ Open → ⊥) → done_at p v ≡ b
  steady_done p v t (Done x) e c d =
      let f = past.outcomes run s n x.place x.reply e c in
      let i = first_same (updates h) (pred p) (pred x.place) run s n t.first f.first in
      let k : p ≡ x.place = omega (arith, t.low, f.low) in
      let e : v ≡ x.reply = let a = t.value in let b = f.value in cc in
      ap₂ done_at k e
  steady_done p v t Open e c d = absurd (d refl)
  steady_done p v t Never e c d = absurd (both_ways _ ((past.nevers run s n e c).1 (pred p) t.first.inside) t.first.is)

  steady_open : run ≡ r.number → Unflagged → (b : Outcome) (e : List Moment) → Came h (told run s n (Ok b)) e → (b ≡ Open → ⊥) → Open ≡ b
  steady_open q miss (Done x) e c d = absurd (never_done miss x.place x.reply e c)
  steady_open q miss Open e c d = refl
  steady_open q miss Never e c d = let k = z.nevers run s n e c in absurd (omega arith)

  steady_never : Unflagged → (b : Outcome) (e : List Moment) → Came h (told run s n (Ok b)) e → (b ≡ Open → ⊥) → Never ≡ b
  steady_never miss (Done x) e c d = absurd (never_done miss x.place x.reply e c)
  steady_never miss Open e c d = absurd (d refl)
  steady_never miss Never e c d = refl

  -- What was replied before

  -- where an update that was replied to stands
  answered_at : (p : ℕ) (v : Reply) → RepliedBefore p v →
      (1 ≤ p) × (p ≤ length (updates h)) × (has_identity (update_at (updates h) p) run s n ≡ true) ×
      (v ≡ apply_reply R (state_at R (updates h) (pred p)) (update_at (updates h) p).op)
  answered_at p v f =
      let y = past.replies s p v f.0 f.2 f.3 in
      let i : y.made ≡ f.1 = made_is y.made f.1 (sym y.still ∙ f.4) in
      let g : y.made.number ≡ n = ap (λ (x : Made). x.number) i ∙ f.6 in
      let l = f.7 in
      let a = answered_number R (updates h) s y.made p y.made.number v (omega arith) y.holds y.value in
      let t : ◌≡◌ {A = ℕ × ℕ × ℕ} (y.made.run, s, y.made.number) (run, s, n) = cc (ap (λ (x : Made). x.run) i ∙ f.5, g) in (
        a.0,
        a.1,
        identity_has (update_at (updates h) p) run s n (ap identity a.2 ∙ t),
        a.3 ∙ ap (λ (u : Update). apply_reply R (state_at R (updates h) (pred p)) u.op) (sym a.2),
      )

  answered_done : (q : ℕ) (w : Reply) → RightDone R (updates h) q w run s n → (p : ℕ) (v : Reply) → RepliedBefore p v → done_at q w ≡ done_at p v
  answered_done q w t p v f =
      let a = answered_at p v f in let l = a.0 in let y = a.3 in let x = t.value in
      let eq : q ≡ p = same (pred q) (pred p) t.first a.2 (omega (arith, a.1)) (omega (arith, t.low)) in cc
    where
      same : (i j : ℕ) → First (updates h) i run s n → has_identity (get_or (updates h) j no_update) run s n ≡ true → j < length (updates h) →
          (i ≡ j → q ≡ p) → q ≡ p
      same i j a b l k = elim (cases_order i j) [
        | inl e ↦ k e
        | inr d ↦ elim d [
          | inl m ↦ absurd (past.distinct.unique i j m l
              (identity_is (get_or (updates h) i no_update) run s n a.is ∙ sym (identity_is (get_or (updates h) j no_update) run s n b)))
          | inr m ↦ absurd (both_ways _ (a.first j m) b)
        ]
      ]

  answered_flagged : Unflagged → (p : ℕ) (v : Reply) → RepliedBefore p v → ⊥
  answered_flagged miss p v f =
      let w = answered_at p v f in
      let k = told_flagged p (came_peak h f.2 _ p f.3 by_reply) in both_ways _ (miss (pred p) (omega (arith, w.0))) w.2

  -- The new outcome

  fresh_told : (a : Outcome) → RightOutcome R r.number r.order (updates h) run s n a → run ≤ r.number → FreshTold R h (updates h) run s n a
  fresh_told (Done x) t l = record {
    earlier = λ k. (
      (λ q b c d. (x.place, x.reply, refl)),
      (λ q w e. subst (λ (a : Outcome). DoneFound h run s n a) e (found_of x.place x.reply t.0 k)),
      λ e. let y : ◌≡◌ {A = ℕ} 0 1 = cc in omega arith,
    );
    steady = steady_done x.place x.reply t.0;
    answered = λ q w b c e k d i g m. answered_done x.place x.reply t.0 q w (b, c, e, k, d, i, g, m);
    done = λ q w e. subst (λ (a : Outcome). DoneRight R (updates h) run s n a) e t.0;
    never = λ e. let y : ◌≡◌ {A = ℕ} 0 1 = cc in absurd (omega arith);
  }
  fresh_told Open t l = record {
    earlier = λ k. absurd (omega (arith, z.run, t.0));
    steady = steady_open t.0 t.1;
    answered = λ q w b c e k d i g m. absurd (answered_flagged t.1 q w (b, c, e, k, d, i, g, m));
    done = λ q w e. let y : ◌≡◌ {A = ℕ} 0 1 = cc in absurd (omega arith);
    never = λ e. let y : ◌≡◌ {A = ℕ} 0 1 = cc in absurd (omega arith);
  }
  fresh_told Never t l = record {
    earlier = λ k. (
      (λ q b c d. absurd (never_found t.1 q b c d)),
      (λ q w e. let y : ◌≡◌ {A = ℕ} 0 1 = cc in absurd (omega arith)),
      λ e. let y : ◌≡◌ {A = ℕ} 0 1 = cc in omega arith,
    );
    steady = steady_never t.1;
    answered = λ q w b c e k d i g m. absurd (answered_flagged t.1 q w (b, c, e, k, d, i, g, m));
    done = λ q w e. let y : ◌≡◌ {A = ℕ} 0 1 = cc in absurd (omega arith);
    never = λ e. ((let k = t.0 in omega (arith, z.run)), missing_all t.0 t.1);
  }

  fresh_outcome : (a : Result Outcome Refusal) → RightTold R r.number r.order (updates h) run s n a → FreshOutcome R h (updates h) run s n a
  fresh_outcome (Ok a) t = fresh_told a t.0 t.1
  fresh_outcome (Err q) t = tt

  pub past_tell : Past R (told run s n (telling r run s n).answer ∷ h)
  past_tell = past_more R h (told run s n (telling r run s n).answer) past (record { inside = past.inside; same = refl })
      (told_inside (live_tell R h r run s n z)) past.distinct (λ i l. inl (l, refl))
      (fresh_outcome (telling r run s n).answer
      (subst (λ (Q : Rules S). RightTold Q r.number r.order (updates h) run s n (telling r run s n).answer) z.rules
      (tell_says r run s n (updates h) z.sound.same)))
