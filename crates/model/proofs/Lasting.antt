-- The law holds: what is known of the memory is kept by every moment, and gives what the law's other half needs.
use Rattle.std.proofs.Common.{◌≡◌, ℕ, ◌⊎◌, List, ◌∷◌, Some, None, Err, Option, refl, ap, subst, inl, inr}
use Rattle.memory.specs.Model as memory
use Rattle.memory.specs.Model.{Mem}
use Rattle.book.specs.Rules.{Rules}
use Rattle.model.specs.Journal.{Entry, tops}
use Rattle.model.specs.Machine.{Machine, found, updates_from, start_question, started_by, start_answer}
use Rattle.model.specs.History.{Moment, World, Happens, paid, updates}
use Rattle.model.specs.History.Moment.{started, risen, called, stepped, told}
use Rattle.model.specs.History.World.{resting, running}
use Rattle.model.specs.Law as law
use Rattle.model.specs.declared.types.Refusal.{Refusal}
use Rattle.model.specs.declared.types.Status.{Status}
use Rattle.model.specs.declared.types.Status.TheVariants.{Shut}
use Rattle.model.proofs.Live.{Live}
use Rattle.model.proofs.Final.{Half, Standing, shut_rise, shut_call, shut_step, shut_tell, joined}
use Rattle.model.proofs.Rest.{Rest, rest_numbered, rest_refusals, blank_rest}
use Rattle.model.proofs.Runs.{rest_at, Runs}
use Rattle.model.proofs.Turns.{runs_step, runs_call, runs_tell}
use Rattle.model.proofs.Rises.{runs_rise}
use Rattle.model.proofs.Cuts.{rest_cut, rest_cut_logs, runs_cut, runs_cuts, rest_silent, runs_start}

-- what is known of the memory: a shut run leaves it at rest
abbrev Stays : {S : Type 0} → Rules S → List Moment → World S → Type 0
Stays R h (resting m) = Rest R h m
Stays R h (running r) = Runs R h r ⊎ ((q : Refusal) × (r.status ≡ Shut q) × Rest R h r.memory)

module _ {S : Type 0} (R : Rules S) where
  not_shut : (h : List Moment) (r : Machine S) (z : Runs R h r) (q : Refusal) → r.status ≡ Shut q → ⊥
  not_shut h r z q e = subst (λ (k : Status). rest_at k z.ps) e z.rests

  runs_live : (h : List Moment) (r : Machine S) → Runs R h r → Standing R h (running r) → Live R h r
  runs_live h r z t = elim t [ inl y ↦ y.0 | inr y ↦ absurd (not_shut h r z y.0 y.1) ]

  start_stays : (h : List Moment) (m : Mem) → Rest R h m → found m ≡ updates h → (q : Option Refusal) → start_question R m ≡ q →
      Stays R (started (start_answer (started_by q R m) (started_by q R m).status) ∷ h) (running (started_by q R m))
  start_stays h m z f None e = inl (runs_start R h m z f e)
  start_stays h m z f (Some q) e = inr (q, refl, rest_silent R h m (started (Err q)) tt refl z)

  live_stays : {r : Machine S} {x : Moment} {w : World S} (h : List Moment) → Runs R h r → Live R h r → Happens R (running r) x w → Stays R (x ∷ h) w
  live_stays h z y (Happens.rise r ns) = inl (runs_rise R h r z ns r.status refl)
  live_stays h z y (Happens.call r s o) = inl (runs_call R h r z y s o)
  live_stays h z y (Happens.step r s ns) = inl (runs_step R h r z y s ns)
  live_stays h z y (Happens.outcome r run s n) = inl (runs_tell R h r z y run s n)
  live_stays h z y (Happens.cut r ns) = runs_cut R h r ns z y r.status refl

  shut_stays : {r : Machine S} {x : Moment} {w : World S} (h : List Moment) → (q : Refusal) → r.status ≡ Shut q → Rest R h r.memory →
      Happens R (running r) x w → Stays R (x ∷ h) w
  shut_stays h q e z (Happens.rise r ns) = rw (shut_rise r q e) (inr (q, e, rest_silent R h r.memory (risen (Err q)) tt refl z))
  shut_stays h q e z (Happens.call r s o) = rw (shut_call r s o q e) (inr (q, e, rest_silent R h r.memory (called s o (Err q)) tt refl z))
  shut_stays h q e z (Happens.step r s ns) =
      rw (shut_step r s q e) (inr (q, e, rest_silent R h r.memory (stepped s (Err q) (paid r.memory r.memory)) tt refl z))
  shut_stays h q e z (Happens.outcome r run s n) =
      rw (shut_tell r run s n q e) (inr (q, e, rest_silent R h r.memory (told run s n (Err q)) tt refl z))
  shut_stays h q e z (Happens.cut r ns) = rest_cut R h r.memory ns z

  world_stays : (v : World S) {x : Moment} {w : World S} (h : List Moment) → Standing R h v → Stays R h v → Happens R v x w → Stays R (x ∷ h) w
  world_stays (resting m) h t z (Happens.start m') = start_stays h m z t.0 (start_question R m) refl
  world_stays (running r) h t z hap = elim z [ inl y ↦ live_stays h y (runs_live h r y t) hap | inr y ↦ shut_stays h y.0 y.1 y.2 hap ]

  same_found : (h : List Moment) (m : Mem) (ns : List ℕ) → Rest R h m → found (memory.cut ns m) ≡ found m
  same_found h m ns z = ap (λ (fss : List (List Entry)). updates_from fss 1 (tops 0 fss)) (rest_cut_logs R h m ns z)

  half : Half R (Stays R)
  half = record {
    blank = λ L low high. blank_rest R L low high;
    next = λ {v} {w} {x} h past t z hap past' t'. world_stays v h t z hap;
    numbered = λ h m z f. rest_numbered R h m z;
    cuts = λ h r ns z t. elim z [ inl y ↦ runs_cuts R h r ns y t.0 | inr y ↦ absurd (t.1 y.0 y.1) ];
    shut_cuts = λ h r ns q z e. elim z [ inl y ↦ absurd (not_shut h r y q e) | inr y ↦ same_found h r.memory ns y.2 ];
    refusals = λ h m q z f e. rest_refusals R h m q z e;
  }

-- the law
pub lasting : {S : Type 0} (R : Rules S) → law.Lasting R
lasting R = joined R (Stays R) (half R)
