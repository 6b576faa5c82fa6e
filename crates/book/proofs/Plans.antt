-- What one request makes of a plan.
use Rattle.std.proofs.Common.{◌≡◌, ℕ, zero, suc, ◌+◌, ◌<◌, ◌≤◌, true, false, cond, ◌⊎◌, List, [], ◌∷◌, length, get_or, set, Some, None, Option, sym, refl, ap, ◌∙◌, subst, inl, inr, arith, length-set}
use Rattle.std.proofs.lemmas.List.{get_or-set_same, get_or-set_other, set_past}
use Rattle.std.proofs.lemmas.Bool.{cases_eq, cases_lt, cases_Bool, cond_both, both_ways, and_parts, ltb-true, eqb-true}
use Rattle.book.specs.Rules.{Reply, is_update, wrong_sort}
use Rattle.book.specs.Slots.{Plan, slot_count, asks_reserve, asks_cancel, asks_holder, number_left, taken, slots_request, slots_sort, slots_next, slots_reply, slot_at, slot_of, holds, reserved, reserve_reply, cancelled}
use Rattle.book.specs.Numbers.{Held, Unheld, given_by}
use Rattle.book.specs.declared.types.Op.{Op}
use Rattle.book.specs.declared.types.Reservation.{Reservation}
use Rattle.book.specs.declared.types.SlotsRequest.{SlotsRequest}
use Rattle.book.specs.declared.types.SlotsRequest.TheVariants.{Reserve, Cancel, Holder}
use Rattle.book.proofs.Finding.{Finds, slot_of_finds}

-- what apply makes of a plan, and replies, by the request
abbrev pub made_by : Plan → Option SlotsRequest → Plan
made_by p q = cond (is_update (slots_sort q)) (slots_next p q) p

abbrev pub replied_by : Plan → Option SlotsRequest → Reply
replied_by p q = cond (is_update (slots_sort q)) (slots_reply p q) wrong_sort

-- after a write to slot i, slot j holds what was written, or what it held
set_reads : (xs : List (Option Reservation)) (i j : ℕ) (x : Option Reservation) →
    ((j ≡ i) × (get_or (set xs i x) j None ≡ x)) ⊎ (get_or (set xs i x) j None ≡ get_or xs j None)
set_reads xs i j x =
    elim (cases_eq j i) [
      | inl e ↦ elim (cases_lt i (length xs)) [
        | inl within ↦ inl (e, ap (λ k. get_or (set xs i x) k None) e ∙ get_or-set_same xs i x None within)
        | inr past ↦ inr (ap (λ (ys : List (Option Reservation)). get_or ys j None) (set_past xs i x past))
      ]
      | inr e ↦ inr (get_or-set_other xs i j x None e)
    ]

-- from p to q at most one slot came to hold a number, and that a new one
pub record Onward (p q : Plan) : Type 0 where
  pub sized : length q.slots ≡ length p.slots
  pub rises : p.last ≤ q.last
  pub fresh : ℕ
  pub reads : (n j : ℕ) → Held q n j → ((j ≡ fresh) × (n ≡ q.last) × (p.last < q.last)) ⊎ Held p n j

stays : (p : Plan) → Onward p p
stays p = record { sized = refl; rises = omega arith; fresh = 0; reads = λ n j h. inr h }

reserves : (p : Plan) (i b : ℕ) (x : Option Reservation) → Onward p (reserved p i b x)
reserves p i b (Some r) = stays p
reserves p i b None =
    cond_both (number_left p) _ _ (Onward p)
    (λ _. record {
      sized = length-set p.slots i _;
      rises = omega arith;
      fresh = i;
      reads = λ n j h. elim (set_reads p.slots i j (Some (record { number = p.last + 1; container = b }))) [
        | inl e ↦ inl (e.0, sym (eqb-true (p.last + 1) n (sym (ap (holds n) e.1) ∙ h)), omega arith)
        | inr e ↦ inr (sym (ap (holds n) e) ∙ h)
      ];
    })
    (λ _. stays p)

empties : (p : Plan) (q : Option ℕ) → Onward p (cancelled p q)
empties p (Some i) = record {
  sized = length-set p.slots i None;
  rises = omega arith;
  fresh = 0;
  reads = λ n j h. elim (set_reads p.slots i j None) [
    | inl e ↦ absurd (both_ways (holds n (get_or (set p.slots i None) j None)) (ap (holds n) e.1) h)
    | inr e ↦ inr (sym (ap (holds n) e) ∙ h)
  ];
}
empties p None = stays p

pub onward : (p : Plan) (q : Option SlotsRequest) → Onward p (made_by p q)
onward p (Some (Reserve i b)) = reserves p i b (slot_at p i)
onward p (Some (Cancel n)) = empties p (slot_of n p.slots)
onward p (Some (Holder i)) = stays p
onward p None = stays p

-- a reply gives no number, or the next one
abbrev pub Gives : Plan → Plan → List ℕ → Type 0
Gives p q ns = ((ns ≡ []) × (q.last ≡ p.last)) ⊎ ((ns ≡ (p.last + 1) ∷ []) × (q.last ≡ p.last + 1))

reserve_gives : (p : Plan) (i b : ℕ) (x : Option Reservation) → Gives p (reserved p i b x) (given_by (Some (Reserve i b)) (reserve_reply p x))
reserve_gives p i b (Some r) = inl (refl, refl)
reserve_gives p i b None =
    elim (number_left p) as (λ t. Gives p (cond t (taken p i b) p) (given_by (Some (Reserve i b)) (cond t (0, p.last + 1) (4, 0)))) [
      | true ↦ inr (refl, refl)
      | false ↦ inl (refl, refl)
    ]

empties_gives : (p : Plan) (q : Option ℕ) → Gives p (cancelled p q) []
empties_gives p (Some i) = inl (refl, refl)
empties_gives p None = inl (refl, refl)

pub gives : (p : Plan) (q : Option SlotsRequest) → Gives p (made_by p q) (given_by q (replied_by p q))
gives p (Some (Reserve i b)) = reserve_gives p i b (slot_at p i)
gives p (Some (Cancel n)) = empties_gives p (slot_of n p.slots)
gives p (Some (Holder i)) = inl (refl, refl)
gives p None = inl (refl, refl)

-- a plan that requests led to
pub record Sound (p : Plan) : Type 0 where
  pub sized : length p.slots ≡ slot_count
  pub apart : (n i j : ℕ) → Held p n i → Held p n j → i ≡ j
  pub known : (n i : ℕ) → Held p n i → (1 ≤ n) × (n ≤ p.last)

pub sound_onward : (p q : Plan) → Sound p → Onward p q → Sound q
sound_onward p q s o = record {
  sized = o.sized ∙ s.sized;
  apart = λ n i j hi hj. elim (o.reads n i hi) [
    | inl e ↦ elim (o.reads n j hj) [ inl f ↦ e.0 ∙ sym f.0 | inr f ↦ absurd (let k = s.known n j f in omega arith) ]
    | inr e ↦ elim (o.reads n j hj) [ inl f ↦ absurd (let k = s.known n i e in omega arith) | inr f ↦ s.apart n i j e f ]
  ];
  known = λ n i h. elim (o.reads n i h) [ inl e ↦ (omega arith, omega arith) | inr e ↦ ((s.known n i e).0, let k = s.known n i e in let r = o.rises in omega arith) ];
}

-- a number that was given and is not held stays so
pub unheld_onward : (p q : Plan) → Onward p q → (n : ℕ) → n ≤ p.last → Unheld p n → Unheld q n
unheld_onward p q o n given none i =
    elim (cases_Bool (holds n (slot_at q i))) [
      | inl h ↦ elim (o.reads n i h) [ inl e ↦ absurd (omega arith) | inr e ↦ absurd (both_ways (holds n (slot_at p i)) (none i) e) ]
      | inr h ↦ h
    ]

-- a request to reserve names a slot that there is
abbrev Within : Option SlotsRequest → Type 0
Within (Some (Reserve i b)) = i < slot_count
Within (Some (Cancel n)) = Unit
Within (Some (Holder i)) = Unit
Within None = Unit

pub request_within : (o : Op) → Within (slots_request o)
request_within o =
    cond_both (asks_reserve o) _ _ Within
    (λ t. ltb-true _ _ (and_parts _ _ (and_parts _ _ t).1).0)
    (λ _. cond_both (asks_cancel o) _ _ Within (λ _. tt) (λ _. cond_both (asks_holder o) _ _ Within (λ _. tt) (λ _. tt)))

-- a reservation that is told a number has the slot, which was empty
abbrev Booked : Plan → ℕ → ℕ → ℕ → Plan → Type 0
Booked p i b n q = (slot_at p i ≡ None) × (slot_at q i ≡ Some (record { number = n; container = b }))

books : (p : Plan) (i b n : ℕ) → i < length p.slots → (x : Option Reservation) → slot_at p i ≡ x → reserve_reply p x ≡ (0, n) → Booked p i b n (reserved p i b x)
books p i b n within (Some r) e = λ told. absurd (let z : ◌≡◌ {A = ℕ} 1 0 = ap (λ (x : Reply). x.0) told in omega arith)
books p i b n within None e =
    elim (number_left p) as (λ t. ◌≡◌ {A = Reply} (cond t (0, p.last + 1) (4, 0)) (0, n) → Booked p i b n (cond t (taken p i b) p)) [
      | true ↦ λ told. (e, get_or-set_same p.slots i _ None within ∙ ap (λ k. Some (record { number = k; container = b })) (ap (λ (x : Reply). x.1) told))
      | false ↦ λ told. absurd (let z : ◌≡◌ {A = ℕ} 4 0 = ap (λ (x : Reply). x.0) told in omega arith)
    ]

pub booked_by : (p : Plan) → Sound p → (q : Option SlotsRequest) → Within q → (i b n : ℕ) → q ≡ Some (Reserve i b) → replied_by p q ≡ (0, n) → Booked p i b n (made_by p q)
booked_by p s q within i b n e =
    let P : Option SlotsRequest → Type 0 = λ q. Within q → replied_by p q ≡ (0, n) → Booked p i b n (made_by p q) in
    subst P (sym e) (λ w. books p i b n (let z = s.sized in omega arith) (slot_at p i) refl) within

-- a booking stands until its own number is cancelled
stands_reserve : (p : Plan) (j b i : ℕ) (r : Reservation) → slot_at p i ≡ Some r → (x : Option Reservation) → slot_at p j ≡ x → slot_at (reserved p j b x) i ≡ Some r
stands_reserve p j b i r e (Some q) f = e
stands_reserve p j b i r e None f =
    cond_both (number_left p) _ _ (λ (q : Plan). slot_at q i ≡ Some r)
    (λ _. elim (set_reads p.slots j i (Some (record { number = p.last + 1; container = b }))) [
      | inl w ↦ absurd (let g = ap (slot_at p) w.0 in let z : ◌≡◌ {A = ℕ} 0 1 = cc in omega arith)
      | inr w ↦ w ∙ e
    ])
    (λ _. e)

stands_cancel : (p : Plan) (n i : ℕ) (r : Reservation) → slot_at p i ≡ Some r → (Cancel n ≡ Cancel r.number → ⊥) → (q : Option ℕ) → Finds n p.slots q → slot_at (cancelled p q) i ≡ Some r
stands_cancel p n i r e other (Some j) f =
    elim (set_reads p.slots j i None) [
      | inl w ↦ absurd (other (ap Cancel (sym (eqb-true r.number n (sym (ap (holds n) e) ∙ ap (λ k. holds n (slot_at p k)) w.0 ∙ f)))))
      | inr w ↦ w ∙ e
    ]
stands_cancel p n i r e other None f = e

pub stands_by : (p : Plan) (q : Option SlotsRequest) (i : ℕ) (r : Reservation) → slot_at p i ≡ Some r → (q ≡ Some (Cancel r.number) → ⊥) → slot_at (made_by p q) i ≡ Some r
stands_by p (Some (Reserve j b)) i r e other = stands_reserve p j b i r e (slot_at p j) refl
stands_by p (Some (Cancel n)) i r e other = stands_cancel p n i r e (λ g. other (ap Some g)) (slot_of n p.slots) (slot_of_finds n p.slots)
stands_by p (Some (Holder j)) i r e other = e
stands_by p None i r e other = e

-- a cancellation empties the slot that holds its number, and alters no other
emptied : (xs : List (Option Reservation)) (i : ℕ) → get_or (set xs i None) i None ≡ None
emptied [] i = refl
emptied (x ∷ xs) zero = refl
emptied (x ∷ xs) (suc i) = emptied xs i

-- only the one slot holds n
holds_not : (p : Plan) → Sound p → (n i j : ℕ) → Held p n j → (i ≡ j → ⊥) → holds n (slot_at p i) ≡ false
holds_not p s n i j h other = elim (cases_Bool (holds n (slot_at p i))) [ inl e ↦ absurd (other (s.apart n i j e h)) | inr e ↦ e ]

cancels_found : (p : Plan) → Sound p → (n i : ℕ) (q : Option ℕ) → Finds n p.slots q → slot_at (cancelled p q) i ≡ cond (holds n (slot_at p i)) None (slot_at p i)
cancels_found p s n i (Some j) f =
    elim (cases_eq i j) [
      | inl e ↦ rw (e, f) (emptied p.slots j)
      | inr e ↦ rw (holds_not p s n i j f e) (get_or-set_other p.slots j i None None e)
    ]
cancels_found p s n i None f = rw (f i)

pub cancels_by : (p : Plan) → Sound p → (q : Option SlotsRequest) (n i : ℕ) → q ≡ Some (Cancel n) → slot_at (made_by p q) i ≡ cond (holds n (slot_at p i)) None (slot_at p i)
cancels_by p s q n i e =
    let P : Option SlotsRequest → Type 0 = λ q. slot_at (made_by p q) i ≡ cond (holds n (slot_at p i)) None (slot_at p i) in
    subst P (sym e) (cancels_found p s n i (slot_of n p.slots) (slot_of_finds n p.slots))

cancels_none : (p : Plan) (n : ℕ) → Unheld p n → (q : Option ℕ) → Finds n p.slots q → cancelled p q ≡ p
cancels_none p n none (Some i) f = absurd (both_ways (holds n (slot_at p i)) (none i) f)
cancels_none p n none None f = refl

pub cancels_nothing_by : (p : Plan) (q : Option SlotsRequest) (n : ℕ) → q ≡ Some (Cancel n) → Unheld p n → made_by p q ≡ p
cancels_nothing_by p q n e none = ap (made_by p) e ∙ cancels_none p n none (slot_of n p.slots) (slot_of_finds n p.slots)
