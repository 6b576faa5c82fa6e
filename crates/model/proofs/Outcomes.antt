-- What an outcome finds: the highest flagged place, and the first place with an identity.
use Rattle.std.proofs.Common.{◌≡◌, ℕ, zero, suc, ◌+◌, ◌<◌, ◌≤◌, Bool, true, false, cond, ◌&&◌, eqb, ◌⊎◌, List, [], ◌∷◌, length, get_or, take, Some, None, Ok, Err, Option, Result, refl, ap, ◌∙◌, inl, inr, arith}
use Rattle.std.proofs.lemmas.List.{length-take, length-map}
use Rattle.std.proofs.lemmas.Bool.{both_ways, eqb-true, eq-eqb, and_parts, cases_Bool, and_from, cond-true, cond-false, cond_both}
use Rattle.model.specs.Journal.{station_count}
use Rattle.model.specs.Machine as machine
use Rattle.model.specs.Machine.{done_at, Machine, ask, first_of, Doing, refused, no_update, is_station, flag_at, reply_at, highest_from, highest_flag, has_identity, place_of, known, telling_by, telling}
use Rattle.model.specs.History.{Moment}
use Rattle.model.specs.History.Moment.{told}
use Rattle.model.specs.Law.{identity}
use Rattle.model.specs.declared.types.Update.{Update}
use Rattle.model.specs.declared.types.Node.{Node}
use Rattle.model.specs.declared.types.Refusal.{Refusal}
use Rattle.model.specs.declared.types.Refusal.TheVariants.{NoIdentity}
use Rattle.model.specs.declared.types.Status.TheVariants.{Up}
use Rattle.model.specs.declared.types.Outcome.{Outcome}
use Rattle.model.specs.declared.types.Outcome.TheVariants.{Open, Never}
use Rattle.model.proofs.Sound.{updates_of, update_of, flag_of}
use Rattle.model.proofs.Steps.{opening, station_bounds}
use Rattle.model.proofs.Timed.{outcome_place, Flagged, Timed, flagged_zero, timed_quiet, TimedAt}

-- The highest flagged place

-- it is the best so far, or that of a flagged node
top_is : (o : List Node) (best p : ℕ) →
    (highest_from best p o ≡ best) ⊎ ((i : ℕ) × (i < length o) × (flag_of o i ≡ true) × (highest_from best p o ≡ p + i))
top_is [] best p = inl refl
top_is (n ∷ o) best p = elim (top_is o (cond n.flagged p best) (p + 1)) [
  | inl k ↦ elim (cases_Bool n.flagged) [
    | inl t ↦ inr (0, omega arith, t, (let e = cond-true n.flagged p best t in omega arith))
    | inr f ↦ inl (k ∙ cond-false n.flagged p best f)
  ]
  | inr k ↦ inr (suc k.0, omega arith, k.2, omega arith)
]

top_over : (o : List Node) (best p : ℕ) → best ≤ p →
    (best ≤ highest_from best p o) × ((i : ℕ) → i < length o → flag_of o i ≡ true → p + i ≤ highest_from best p o)
top_over [] best p h = (omega arith, λ i l. absurd (omega arith))
top_over (n ∷ o) best p h = elim (cases_Bool n.flagged) [
  | inl t ↦ (let e = cond-true n.flagged p best t in
      let k = top_over o (cond n.flagged p best) (p + 1) (omega arith) in
      (omega arith, elim [ zero ↦ λ l f. omega arith | suc i ↦ λ l f. (let q = k.1 i (omega arith) f in omega arith) ]))
  | inr t ↦ (let e = cond-false n.flagged p best t in
      let k = top_over o (cond n.flagged p best) (p + 1) (omega arith) in
      (omega arith, elim [ zero ↦ λ l f. absurd (both_ways n.flagged t f) | suc i ↦ λ l f. (let q = k.1 i (omega arith) f in omega arith) ]))
]

-- it is flagged, and no flagged place is above it
pub top_flagged : (o : List Node) → (flag_at o (highest_flag o) ≡ true) × (highest_flag o ≤ length o)
top_flagged o = elim (top_is o 0 1) [
  | inl e ↦ rw e (refl, omega arith)
  | inr k ↦ (at_place (highest_flag o) k.0 k.3 k.2, omega arith)
]
  where
    at_place : (f i : ℕ) → f ≡ 1 + i → flag_of o i ≡ true → flag_at o f ≡ true
    at_place zero i e t = refl
    at_place (suc f) i e t = let q : f ≡ i = omega arith in rw q t

pub top_above : (o : List Node) (f : ℕ) → f ≤ length o → flag_at o f ≡ true → f ≤ highest_flag o
top_above o zero l t = omega arith
top_above o (suc f) l t = let k = (top_over o 0 1 (omega arith)).1 f l t in omega arith

-- Identities

pub identity_is : (u : Update) (run s n : ℕ) → has_identity u run s n ≡ true → identity u ≡ (run, s, n)
identity_is u run s n e =
    let a = and_parts (eqb u.run run) (eqb u.station s && eqb u.call n) e in
    let b = and_parts (eqb u.station s) (eqb u.call n) a.1 in
    cc (eqb-true u.run run a.0, eqb-true u.station s b.0, eqb-true u.call n b.1)

pub identity_has : (u : Update) (run s n : ℕ) → identity u ≡ (run, s, n) → has_identity u run s n ≡ true
identity_has u run s n e =
    and_from (eqb u.run run) (eqb u.station s && eqb u.call n) (eq-eqb u.run run (ap (λ (t : ℕ × ℕ × ℕ). t.0) e))
    (and_from (eqb u.station s) (eqb u.call n) (eq-eqb u.station s (ap (λ (t : ℕ × ℕ × ℕ). t.1) e))
    (eq-eqb u.call n (ap (λ (t : ℕ × ℕ × ℕ). t.2) e)))

-- i is the first index with this identity
pub record First (us : List Update) (i run s n : ℕ) : Type 0 where
  pub inside : i < length us
  pub is : has_identity (get_or us i no_update) run s n ≡ true
  pub first : (j : ℕ) → j < i → has_identity (get_or us j no_update) run s n ≡ false

-- the search finds the first place, or there is none
pub place_found : (o : List Node) (p run s n : ℕ) →
    ((i : ℕ) × (place_of o p run s n ≡ Some (p + i)) × First (updates_of o) i run s n)
    ⊎ ((place_of o p run s n ≡ None) × ((i : ℕ) → i < length o → has_identity (update_of o i) run s n ≡ false))
place_found [] p run s n = inr (refl, λ i h. absurd (omega arith))
place_found (x ∷ o) p run s n = elim (cases_Bool (has_identity x.update run s n)) [
  | inl t ↦ (let e : p + 0 ≡ p = omega arith in inl (0, rw (t, e), record { inside = omega arith; is = t; first = λ j h. absurd (omega arith) }))
  | inr f ↦ elim (place_found o (p + 1) run s n) [
    | inl k ↦ (let e : p + suc k.0 ≡ p + 1 + k.0 = omega arith in inl (
      suc k.0,
      rw (f, e) k.1,
      record {
        inside = omega (arith, k.2.inside);
        is = k.2.is;
        first = elim [ zero ↦ λ h. f | suc j ↦ λ h. k.2.first j (omega arith) ];
      },
    ))
    | inr k ↦ inr (rw f k.0, elim [ zero ↦ λ h. f | suc i ↦ λ h. k.1 i (omega arith) ])
  ]
]

-- Outcomes

-- an outcome is refused, or is told in a run that is up
pub telling_cases : {S : Type 0} (r : Machine S) (run s n : ℕ) (P : Doing S (Result Outcome Refusal) → Type 0) → ((q : Refusal) → P (refused r q)) →
    (r.status ≡ Up → 1 ≤ s → s ≤ station_count → known r run s n ≡ true →
    P (machine.told r run (place_of (take (highest_flag r.order) r.order) 1 run s n))) →
    P (telling r run s n)
telling_cases r run s n P refuse accept =
    opening r.status (is_station s) (λ q. first_of q (ask (known r run s n) NoIdentity)) by refuse refuse (λ u b. last (known r run s n) refl u b)
  where
    by : Option Refusal → Type 0
    by q = P (telling_by q r run s n)

    last : (k : Bool) → known r run s n ≡ k → r.status ≡ Up → is_station s ≡ true → by (ask k NoIdentity)
    last true e u b = let k = station_bounds s b in accept u k.0 k.1 e
    last false e u b = refuse NoIdentity

abbrev pub TimedTold : {S : Type 0} → ℕ → List Moment → ℕ → ℕ → ℕ → Doing S (Result Outcome Refusal) → Type 0
TimedTold num h run s n d = Timed num (told run s n d.answer ∷ h) d.machine.order d.machine.stations

-- an outcome tells no place above the highest flag
pub tell_timed : {S : Type 0} (r : Machine S) (run s n : ℕ) (h : List Moment) → TimedAt h r →
    TimedTold r.number h run s n (telling r run s n)
tell_timed {S} r run s n h y = telling_cases r run s n (TimedTold r.number h run s n) (λ q. quiet (Err q) (flagged_zero r.order))
    (λ u a m k. elim (place_found (take (highest_flag r.order) r.order) 1 run s n) [
      | inl w ↦ rw w.1 (quiet (Ok (done_at (1 + w.0) (reply_at r.rules r.order (1 + w.0)))) (below w.0 w.2))
      | inr w ↦ rw w.0 (cond_both (eqb run r.number) Open Never
          (λ (x : Outcome). Timed r.number (told run s n (Ok x) ∷ h) r.order r.stations)
          (λ e. quiet (Ok Open) (flagged_zero r.order)) (λ e. quiet (Ok Never) (flagged_zero r.order)))
    ])
  where
    quiet : (a : Result Outcome Refusal) → Flagged r.order (outcome_place a) → Timed r.number (told run s n a ∷ h) r.order r.stations
    quiet a f = timed_quiet (told run s n a) f (λ t. refl) (λ t. refl) y

    below : (i : ℕ) → First (updates_of (take (highest_flag r.order) r.order)) i run s n → Flagged r.order (1 + i)
    below i f =
        let t = top_flagged r.order in
        let e = length-map (take (highest_flag r.order) r.order) (λ n. n.update) in
        let g = length-take (highest_flag r.order) r.order in
        record { top = highest_flag r.order; over = omega (arith, f.inside); inside = t.1; flag = t.0 }
