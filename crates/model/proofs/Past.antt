-- What a history has promised, and what a new moment must bring so that it stays so.
use Rattle.std.proofs.Common.{◌≡◌, ℕ, pred, ◌<◌, ◌≤◌, false, ◌⊎◌, List, [], ◌∷◌, length, get_or, take, Some, Ok, Err, Result, sym, refl, ap, ◌∙◌, subst₂, inl, inr, arith}
use Rattle.std.proofs.lemmas.List.{length-take, length-append, get_or-take, take-take}
use Rattle.std.proofs.lemmas.Bool.{ne_eqb}
use Rattle.book.specs.declared.types.Op.{Op}
use Rattle.book.specs.Rules.{Rules, Reply}
use Rattle.model.specs.Journal.{max_place}
use Rattle.model.specs.Machine.{done_at, no_update, has_identity, reply_given}
use Rattle.model.specs.History.{Moment, Came, ledger, updates, found_count, Made, newest}
use Rattle.model.specs.History.Moment.{started, risen, called, stepped, told, cut}
use Rattle.model.specs.History.Tells.{by_reply, by_done}
use Rattle.model.specs.Law.{update_at, identity, Linearizable, Identified, OneFence}
use Rattle.model.specs.declared.types.Update.{Update}
use Rattle.model.specs.declared.types.Refusal.{Refusal}
use Rattle.model.specs.declared.types.Outcome.{Outcome}
use Rattle.model.specs.declared.types.Outcome.TheVariants.{Open, Never}
use Rattle.model.proofs.Timed.{told_place, peak, came_peak}
use Rattle.model.proofs.Outcomes.{identity_is}
use Rattle.model.proofs.Replies.{RightReply, RightStep, Missing, RightDone}
use Rattle.model.proofs.History.{came_cases, Keeps, kept_less, kept_reply, kept_done}

-- no identity stands twice, and the places fit
pub record Distinct (us : List Update) : Type 0 where
  pub short : length us ≤ max_place
  pub unique : (i j : ℕ) → i < j → j < length us → identity (get_or us i no_update) ≡ identity (get_or us j no_update) → ⊥

distinct_take : (k : ℕ) (us : List Update) → Distinct us → Distinct (take k us)
distinct_take k us d = let e = length-take k us in record {
  short = omega (arith, d.short);
  unique = λ i j l m. rw (get_or-take k us i no_update (omega arith), get_or-take k us j no_update (omega arith)) (d.unique i j l (omega arith));
}

-- what is told of an earlier run
abbrev pub Earlier : List Moment → ℕ → ℕ → ℕ → Outcome → Type 0
Earlier e run s n a = run < (ledger e).run →
    ((p : ℕ) → 1 ≤ p → p ≤ found_count e → identity (update_at (updates e) p) ≡ (run, s, n) → (q : ℕ) × (v : Reply) × (a ≡ done_at q v))
    × ((q : ℕ) (v : Reply) → a ≡ done_at q v → (1 ≤ q) × (q ≤ found_count e) × (identity (update_at (updates e) q) ≡ (run, s, n)))
    × (a ≡ Open → ⊥)

-- What the newest moment of x ∷ h brings, where us are the updates then

-- an outcome that is told
pub record FreshTold {S : Type 0} (R : Rules S) (h : List Moment) (us : List Update) (run s n : ℕ) (a : Outcome) : Type 0 where
  pub earlier : Earlier h run s n a
  pub steady : (b : Outcome) (e : List Moment) → Came h (told run s n (Ok b)) e → (b ≡ Open → ⊥) → a ≡ b
  pub answered : (p : ℕ) (v : Reply) (b : ℕ) (c : Made) (e : List Moment) →
      Came h (stepped s (Ok (reply_given p v)) b) e → newest e s ≡ Some c → c.run ≡ run → c.number ≡ n → 1 ≤ n → a ≡ done_at p v
  pub done : (p : ℕ) (v : Reply) → a ≡ done_at p v → RightDone R us p v run s n
  pub never : a ≡ Never → (run < (ledger h).run) × Missing us (length us) run s n

abbrev pub FreshOutcome : {S : Type 0} → Rules S → List Moment → List Update → ℕ → ℕ → ℕ → Result Outcome Refusal → Type 0
FreshOutcome R h us run s n (Ok a) = FreshTold R h us run s n a
FreshOutcome R h us run s n (Err q) = Unit

-- a call number that was not given in this run
abbrev pub FreshCall : List Moment → ℕ → Result ℕ Refusal → Type 0
FreshCall h s (Ok n) = 1 ≤ n → (o : Op) (e : List Moment) → Came h (called s o (Ok n)) e → (ledger e).run ≡ (ledger h).run → ⊥
FreshCall h s (Err q) = Unit

abbrev pub Fresh : {S : Type 0} → Rules S → List Moment → List Update → Moment → Type 0
Fresh R h us (started a) = Unit
Fresh R h us (risen a) = Unit
Fresh R h us (called s o a) = FreshCall h s a
Fresh R h us (stepped s a b) = RightStep R h us s a b
Fresh R h us (told run s n a) = FreshOutcome R h us run s n a
Fresh R h us (cut k) = Unit

-- each update of us' is one of us, or of a run of which nothing was told never to come
abbrev pub Adds : List Moment → List Update → List Update → Type 0
Adds h us us' = (i : ℕ) → i < length us' →
    ((i < length us) × (get_or us' i no_update ≡ get_or us i no_update))
    ⊎ ((run s n : ℕ) (e : List Moment) → Came h (told run s n (Ok Never)) e → (get_or us' i no_update).run ≡ run → ⊥)

-- The promises so far

-- what every moment that came has promised holds of the ledger as it is now
pub record Past {S : Type 0} (R : Rules S) (h : List Moment) : Type 0 where
  pub inside : peak h ≤ length (updates h)
  pub distinct : Distinct (updates h)
  pub replies : (s p : ℕ) (v : Reply) (b : ℕ) (e : List Moment) → Came h (stepped s (Ok (reply_given p v)) b) e → RightReply R e (updates h) s p v b
  pub outcomes : (run s n p : ℕ) (v : Reply) (e : List Moment) → Came h (told run s n (Ok (done_at p v))) e → RightDone R (updates h) p v run s n
  pub nevers : (run s n : ℕ) (e : List Moment) → Came h (told run s n (Ok Never)) e →
      (run < (ledger e).run) × Missing (updates h) (length (updates h)) run s n
  pub once : (s n : ℕ) (o₁ o₂ : Op) (e₁ e₂ : List Moment) →
      Came h (called s o₂ (Ok n)) e₂ → Came e₂ (called s o₁ (Ok n)) e₁ → 1 ≤ n → (ledger e₁).run ≡ (ledger e₂).run → ⊥
  pub earlier : (run s n : ℕ) (a : Outcome) (e : List Moment) → Came h (told run s n (Ok a)) e → Earlier e run s n a
  pub steady : (run s n : ℕ) (a b : Outcome) (e₁ e₂ : List Moment) →
      Came h (told run s n (Ok b)) e₂ → Came e₂ (told run s n (Ok a)) e₁ → (a ≡ Open → ⊥) → b ≡ a
  pub answered : (s p : ℕ) (v : Reply) (b : ℕ) (a : Outcome) (c : Made) (e f : List Moment) →
      Came h (told c.run s c.number (Ok a)) e → Came e (stepped s (Ok (reply_given p v)) b) f → newest f s ≡ Some c → 1 ≤ c.number → a ≡ done_at p v

-- one moment more: the updates up to the highest place told are kept, and the moment brings what it must
pub past_more : {S : Type 0} (R : Rules S) (h : List Moment) (x : Moment) → Past R h → Keeps (peak h) (updates h) (updates (x ∷ h)) →
    told_place x ≤ length (updates (x ∷ h)) → Distinct (updates (x ∷ h)) → Adds h (updates h) (updates (x ∷ h)) → Fresh R h (updates (x ∷ h)) x →
    Past R (x ∷ h)
past_more {S} R h x past k low dis adds fresh = record {
  inside = omega (arith, low, k.inside);
  distinct = dis;
  replies = λ s p v b e c. elim (came_cases x (stepped s (Ok (reply_given p v)) b) h e c) [
    | inl q ↦ now (stepped s (Ok (reply_given p v)) b) e q
    | inr w ↦ kept_reply R (kept_less (came_peak h e _ p w by_reply) k) (past.replies s p v b e w)
  ];
  outcomes = λ run s n p v e c. elim (came_cases x (told run s n (Ok (done_at p v))) h e c) [
    | inl q ↦ (now_told run s n (done_at p v) e q).done p v refl
    | inr w ↦ kept_done R (kept_less (came_peak h e _ p w by_done) k) (past.outcomes run s n p v e w)
  ];
  nevers = λ run s n e c. elim (came_cases x (told run s n (Ok Never)) h e c) [
    | inl q ↦ (now_told run s n Never e q).never refl
    | inr w ↦ (
      (past.nevers run s n e w).0,
      λ i l. elim (adds i l) [
        | inl a ↦ rw a.1 ((past.nevers run s n e w).1 i a.0)
        | inr a ↦ other (get_or (updates (x ∷ h)) i no_update) run s n (a run s n e w)
      ],
    )
  ];
  once = λ s n o₁ o₂ e₁ e₂ c d. elim (came_cases x (called s o₂ (Ok n)) h e₂ c) [
    | inl q ↦ (let f : FreshCall e₂ s (Ok n) = now (called s o₂ (Ok n)) e₂ q in λ l. f l o₁ e₁ d)
    | inr w ↦ past.once s n o₁ o₂ e₁ e₂ w d
  ];
  earlier = λ run s n a e c. elim (came_cases x (told run s n (Ok a)) h e c) [
    | inl q ↦ (now_told run s n a e q).earlier
    | inr w ↦ past.earlier run s n a e w
  ];
  steady = λ run s n a b e₁ e₂ c d. elim (came_cases x (told run s n (Ok b)) h e₂ c) [
    | inl q ↦ (now_told run s n b e₂ q).steady a e₁ d
    | inr w ↦ past.steady run s n a b e₁ e₂ w d
  ];
  answered = λ s p v b a c e f t d i. elim (came_cases x (told c.run s c.number (Ok a)) h e t) [
    | inl q ↦ (now_told c.run s c.number a e q).answered p v b c f d i refl refl
    | inr w ↦ past.answered s p v b a c e f w d i
  ];
}
  where
    now : (y : Moment) (e : List Moment) → (x ≡ y) × (h ≡ e) → Fresh R e (updates (x ∷ h)) y
    now y e q = subst₂ (λ (y : Moment) (e : List Moment). Fresh R e (updates (x ∷ h)) y) q.0 q.1 fresh

    now_told : (run s n : ℕ) (a : Outcome) (e : List Moment) → (x ≡ told run s n (Ok a)) × (h ≡ e) → FreshTold R e (updates (x ∷ h)) run s n a
    now_told run s n a e q = now (told run s n (Ok a)) e q

    other : (u : Update) (run s n : ℕ) → (u.run ≡ run → ⊥) → has_identity u run s n ≡ false
    other u run s n d = rw (ne_eqb u.run run d)

-- a moment that tells nothing and leaves the updates
pub past_quiet : {S : Type 0} (R : Rules S) (h : List Moment) (x : Moment) → Past R h → updates (x ∷ h) ≡ updates h → told_place x ≡ 0 →
    Fresh R h (updates (x ∷ h)) x → Past R (x ∷ h)
past_quiet R h x past e t f = past_more R h x past (record { inside = rw e past.inside; same = rw e }) (omega arith) (rw e past.distinct)
    (λ i l. inl (rw e at l, ap (λ (us : List Update). get_or us i no_update) e)) f

-- a cut that leaves the first k updates, and so all that were told
pub past_cut : {S : Type 0} (R : Rules S) (h : List Moment) (k : ℕ) → Past R h → peak h ≤ k → Past R (cut k ∷ h)
past_cut R h k past l = let e = length-take k (updates h) in past_more R h (cut k) past
    (record { inside = omega (arith, past.inside); same = sym (take-take (peak h) k (updates h) l) }) (omega arith)
    (distinct_take k (updates h) past.distinct) (λ i m. inl (omega arith, get_or-take k (updates h) i no_update (omega arith))) tt

pub past_none : {S : Type 0} (R : Rules S) → Past R []
past_none R = record {
  inside = omega arith;
  distinct = record { short = omega arith; unique = λ i j l m. absurd (omega arith) };
  replies = λ s p v b e c. absurd (never c);
  outcomes = λ run s n p v e c. absurd (never c);
  nevers = λ run s n e c. absurd (never c);
  once = λ s n o₁ o₂ e₁ e₂ c d. absurd (never c);
  earlier = λ run s n a e c. absurd (never c);
  steady = λ run s n a b e₁ e₂ c d. absurd (never c);
  answered = λ s p v b a c e f t. absurd (never t);
}
  where
    never : {y : Moment} {e : List Moment} → Came [] y e → ⊥
    never {y} {e} c = let k = ap length c.1 in let n = length-append c.0 (y ∷ e) in omega arith

-- What the law says of them

pub made_is : (a b : Made) → Some a ≡ Some b → a ≡ b
made_is a b e = cc

pub past_linearizable : {S : Type 0} (R : Rules S) (h : List Moment) → Past R h → Linearizable R h
past_linearizable R h past = record {
  replied = λ s p v b e c. let f = past.replies s p v b e c in (f.made, f.still, f.holds, f.value);
  outcomes = λ run s n p v e c. let f = past.outcomes run s n p v e c in
      (f.low, omega (arith, f.low, f.first.inside), identity_is (update_at (updates h) p) run s n f.first.is, f.value);
  ordered = λ s p v b e c x q g a d k t. let f = past.replies s p v b e a in let i : c ≡ f.made = made_is c f.made (sym d ∙ f.still) in
      let l : q ≤ peak f.made.before = rw i at (came_peak c.before g x q k t) in
      (omega (arith, f.over), λ o. let o' : 1 ≤ f.made.number = rw i at o in omega (arith, f.strictly o'));
}

pub past_one_fence : {S : Type 0} (R : Rules S) (h : List Moment) → Past R h → OneFence h
past_one_fence R h past s p v b e c a d =
    let f = past.replies s p v b e a in
    let i : c ≡ f.made = made_is c f.made (sym d ∙ f.still) in rw i f.cost

pub past_identified : {S : Type 0} (R : Rules S) (h : List Moment) → Past R h → Identified h
past_identified R h past = record {
  once = past.once;
  distinct = λ i j a l b q. past.distinct.unique (pred i) (pred j) (omega arith) (omega arith) q;
  earlier = past.earlier;
  steady = past.steady;
  answered = past.answered;
}
