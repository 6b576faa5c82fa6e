-- The promises on reservation numbers, over whole lists of operations.
use Rattle.std.proofs.Common.{◌≡◌, ℕ, zero, suc, ◌+◌, ◌<◌, ◌≤◌, false, List, [], ◌∷◌, ◌++◌, length, get_or, None, sym, refl, ap, ◌∙◌, subst, inl, inr, arith}
use Rattle.std.proofs.lemmas.List.{get_or-replicate, get_or_past}
use Rattle.std.proofs.lemmas.Bool.{cases_lt, both_ways}
use Rattle.book.specs.Rules.{Rules, applied, after}
use Rattle.book.specs.Slots.{Plan, empty_plan, slots_rules, slots_request, slot_at, holds}
use Rattle.book.specs.Numbers.{Numbered, plan_after, numbers_given, given_from, counted_from, Unheld}
use Rattle.book.specs.declared.types.Op.{Op}
use Rattle.book.proofs.Plans.{Sound, Gives, made_by, onward, gives, sound_onward, unheld_onward, request_within, booked_by, stands_by, cancels_by, cancels_nothing_by}

after_append : {S : Type 0} (R : Rules S) (s : S) (os more : List Op) → after R s (os ++ more) ≡ after R (after R s os) more
after_append R s [] more = refl
after_append R s (o ∷ os) more = after_append R (applied R s o) os more

empty_holds_none : (n i : ℕ) → holds n (slot_at empty_plan i) ≡ false
empty_holds_none n i =
    elim (cases_lt i 64) [
      | inl within ↦ ap (holds n) (get_or-replicate 64 i None None within)
      | inr past ↦ ap (holds n) (get_or_past empty_plan.slots i None past)
    ]

empty_sound : Sound empty_plan
empty_sound = record {
  sized = refl;
  apart = λ n i j h _. absurd (both_ways (holds n (slot_at empty_plan i)) (empty_holds_none n i) h);
  known = λ n i h. absurd (both_ways (holds n (slot_at empty_plan i)) (empty_holds_none n i) h);
}

sound_after : (os : List Op) (p : Plan) → Sound p → Sound (after slots_rules p os)
sound_after [] p s = s
sound_after (o ∷ os) p s = sound_after os _ (sound_onward p _ s (onward p (slots_request o)))

unheld_after : (os : List Op) (p : Plan) (n : ℕ) → n ≤ p.last → Unheld p n → Unheld (after slots_rules p os) n
unheld_after [] p n given none = none
unheld_after (o ∷ os) p n given none =
    let on = onward p (slots_request o) in
    let up = on.rises in
    unheld_after os (made_by p (slots_request o)) n (omega arith) (unheld_onward p _ on n given none)

-- the numbers given from a plan on begin behind its last, and end at the new last
pub record Counted (p q : Plan) (ns : List ℕ) : Type 0 where
  pub rises : p.last + length ns ≡ q.last
  pub counts : ns ≡ counted_from (p.last + 1) (length ns)

counted_step : (p q r : Plan) (ns ms : List ℕ) → Gives p q ns → Counted q r ms → Counted p r (ns ++ ms)
counted_step p q r ns ms (inl g) c = record {
  rises = rw g.0 (let e = c.rises in omega (arith, g.1));
  counts = rw (g.0, ← g.1) c.counts;
}
counted_step p q r ns ms (inr g) c = record {
  rises = rw g.0 (let e = c.rises in omega (arith, g.1));
  counts = rw (g.0, ← g.1) (ap (λ (l : List ℕ). q.last ∷ l) c.counts);
}

counted_after : (os : List Op) (p : Plan) → Counted p (after slots_rules p os) (given_from p os)
counted_after [] p = record { rises = omega arith; counts = refl }
counted_after (o ∷ os) p = counted_step p (made_by p (slots_request o)) _ _ _ (gives p (slots_request o)) (counted_after os _)

counted_at : (k n i : ℕ) → i < n → get_or (counted_from k n) i 0 ≡ k + i
counted_at k zero i h = absurd (omega arith)
counted_at k (suc n) zero h = omega arith
counted_at k (suc n) (suc i) h = let e = counted_at (k + 1) n i (omega arith) in omega arith

counted_once : (k : ℕ) (ns : List ℕ) → ns ≡ counted_from k (length ns) → (i j : ℕ) → i < length ns → j < length ns → get_or ns i 0 ≡ get_or ns j 0 → i ≡ j
counted_once k ns counts i j hi hj e =
    let at : (i : ℕ) → i < length ns → get_or ns i 0 ≡ k + i = λ i h. ap (λ (l : List ℕ). get_or l i 0) counts ∙ counted_at k (length ns) i h in
    let a = at i hi in let b = at j hj in
    omega arith

pub numbered : (os : List Op) → Numbered os
numbered os =
    let p = plan_after os in
    let sound : Sound p = sound_after os empty_plan empty_sound in
    let counted : Counted empty_plan p (numbers_given os) = counted_after os empty_plan in
    let last : length (numbers_given os) ≡ p.last = let e = counted.rises in omega arith in
    let one_more : (o : Op) → plan_after (os ++ (o ∷ [])) ≡ made_by p (slots_request o) = λ o. after_append slots_rules empty_plan os (o ∷ []) in
    let slot-then : (o : Op) (i : ℕ) → slot_at (plan_after (os ++ (o ∷ []))) i ≡ slot_at (made_by p (slots_request o)) i = λ o i. ap (λ (q : Plan). slot_at q i) (one_more o) in
    record {
      in_order = counted.counts ∙ ap (counted_from 1) last;
      once = counted_once 1 (numbers_given os) counted.counts;
      apart = sound.apart;
      known = sound.known;
      booked = λ o i b n e told. let booked = booked_by p sound (slots_request o) (request_within o) i b n e told in (booked.0, slot-then o i ∙ booked.1);
      stands = λ o i r e other. slot-then o i ∙ stands_by p (slots_request o) i r e other;
      cancels = λ o n i e. slot-then o i ∙ cancels_by p sound (slots_request o) n i e;
      cancels_nothing = λ o n e none. one_more o ∙ cancels_nothing_by p (slots_request o) n e none;
      late = λ more n given none. subst (λ (q : Plan). Unheld q n) (sym (after_append slots_rules empty_plan os more)) (unheld_after more p n given none);
    }
