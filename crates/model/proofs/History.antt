-- Histories that grow by a moment: what came before, and what stays right of it while the ledger keeps its first updates.
use Rattle.std.proofs.Common.{◌≡◌, ℕ, zero, suc, pred, ◌<◌, ◌≤◌, eqb, ◌⊎◌, List, [], ◌∷◌, ◌++◌, length, get_or, take, Some, None, Ok, Err, Option, Result, sym, refl, ap, ◌∙◌, inl, inr, arith}
use Rattle.std.proofs.lemmas.List.{get_or-take, take-take, take-append-le, length_push}
use Rattle.std.proofs.lemmas.Bool.{cond_both}
use Rattle.book.specs.declared.types.Op.{Op}
use Rattle.book.specs.Rules.{Rules, Reply, apply_reply, ask_reply, after}
use Rattle.model.specs.Machine.{no_update}
use Rattle.model.specs.History.{Moment, Came, Waiting, Ledger, called_ledger, noting, stepped_ledger, fed, Made}
use Rattle.model.specs.History.Moment.{started, risen, called, stepped, told, cut}
use Rattle.model.specs.Law as law
use Rattle.model.specs.Law.{state_at, update_at, reply_of, holds_number}
use Rattle.model.specs.declared.types.Update.{Update}
use Rattle.model.specs.declared.types.Refusal.{Refusal}
use Rattle.model.specs.declared.types.Replied.{Replied}
use Rattle.model.proofs.Replies.{RightReply, RightDone}

-- Moments that came

abbrev tail : List Moment → List Moment
tail [] = []
tail (x ∷ h) = h

-- what came is the newest moment or came before it
pub came_cases : (x y : Moment) (h e : List Moment) → Came (x ∷ h) y e → ((x ≡ y) × (h ≡ e)) ⊎ Came h y e
came_cases x y h e c = go c.0 c.1
  where
    go : (l : List Moment) → x ∷ h ≡ l ++ y ∷ e → ((x ≡ y) × (h ≡ e)) ⊎ Came h y e
    go [] q = inl (cc, ap tail q)
    go (z ∷ l) q = inr (l, ap tail q)

-- moments of different kinds are apart
abbrev pub kind : Moment → ℕ
kind (started a) = 0
kind (risen a) = 1
kind (called s o a) = 2
kind (stepped s a b) = 3
kind (told run s n a) = 4
kind (cut k) = 5

pub came_other : (x y : Moment) (h e : List Moment) → (kind x ≡ kind y → ⊥) → Came (x ∷ h) y e → Came h y e
came_other x y h e d c = elim (came_cases x y h e c) [ inl q ↦ absurd (d (ap kind q.0)) | inr w ↦ w ]

-- Updates that are kept

-- the first k updates of us are those of us'
pub record Keeps (k : ℕ) (us us' : List Update) : Type 0 where
  pub inside : k ≤ length us'
  pub same : take k us ≡ take k us'

pub kept_less : {j k : ℕ} {us us' : List Update} → j ≤ k → Keeps k us us' → Keeps j us us'
kept_less {j} {k} {us} {us'} h q = record {
  inside = omega (arith, q.inside);
  same = sym (take-take j k us h) ∙ ap (take j) q.same ∙ take-take j k us' h;
}

kept_at : {k : ℕ} {us us' : List Update} → Keeps k us us' → (i : ℕ) → i < k → get_or us i no_update ≡ get_or us' i no_update
kept_at {k} {us} {us'} q i h = sym (get_or-take k us i no_update h) ∙ ap (λ (vs : List Update). get_or vs i no_update) q.same
    ∙ get_or-take k us' i no_update h

module _ {S : Type 0} (R : Rules S) {us us' : List Update} {p : ℕ} (q : Keeps p us us') where
  -- the book's state at p, and just below it
  kept_state : state_at R us p ≡ state_at R us' p
  kept_state = ap (λ (vs : List Update). after R R.first (law.ops vs)) q.same

  kept_below : state_at R us (pred p) ≡ state_at R us' (pred p)
  kept_below = ap (λ (vs : List Update). after R R.first (law.ops vs)) (kept_less {us = us} {us' = us'} (omega arith) q).same

  kept_holds : (s : ℕ) (c : Made) (g : ℕ) → holds_number us s c p g → holds_number us' s c p g
  kept_holds s c zero h = q.inside
  kept_holds s c (suc g) h = (h.0, q.inside, sym (kept_at q (pred p) (omega (arith, h.0))) ∙ h.2)

  kept_value : (op : Op) (g : ℕ) → reply_of R us g op p ≡ reply_of R us' g op p
  kept_value op zero = ap (λ (x : S). ask_reply R x op) kept_state
  kept_value op (suc g) = ap (λ (x : S). apply_reply R x op) kept_below

  -- a right reply at p stays right, and a right outcome
  pub kept_reply : {e : List Moment} {s : ℕ} {v : Reply} {b : ℕ} → RightReply R e us s p v b → RightReply R e us' s p v b
  kept_reply {e} {s} f = record {
    made = f.made;
    still = f.still;
    holds = kept_holds s f.made f.made.number f.holds;
    value = f.value ∙ kept_value f.made.op f.made.number;
    over = f.over;
    strictly = f.strictly;
    cost = f.cost;
  }

  pub kept_done : {v : Reply} {run s n : ℕ} → RightDone R us p v run s n → RightDone R us' p v run s n
  kept_done {v} {run} {s} {n} f = record {
    low = f.low;
    first = record {
      inside = omega (arith, f.low, q.inside);
      is = rw (← kept_at q (pred p) (omega (arith, f.low))) f.first.is;
      first = λ j h. rw (← kept_at q j (omega arith)) (f.first.first j h);
    };
    value = f.value ∙ ap (λ (x : S). apply_reply R x (update_at us p).op) kept_below
        ∙ ap (λ (u : Update). apply_reply R (state_at R us' (pred p)) u.op) (kept_at q (pred p) (omega (arith, f.low)));
  }

-- Ledgers that go on

-- the run's number stays, and all updates
pub record Continues (l l' : Ledger) : Type 0 where
  pub run : l'.run ≡ l.run
  pub keeps : Keeps (length l.updates) l.updates l'.updates

goes_same : {l l' : Ledger} → l'.run ≡ l.run → l'.updates ≡ l.updates → Continues l l'
goes_same e f = record { run = e; keeps = record { inside = rw f (omega arith); same = rw f } }

goes_noting : (l : Ledger) (s : ℕ) (u : Update) (n : Option ℕ) → Continues l (noting l s u n)
goes_noting l s u None = goes_same refl refl
goes_noting l s u (Some n) = cond_both (eqb n (length l.updates)) _ _ (Continues l)
    (λ e. let k = length_push l.updates u in record {
      run = refl;
      keeps = record { inside = omega arith; same = sym (take-append-le (length l.updates) l.updates (u ∷ []) (omega arith)) };
    })
    (λ e. goes_same refl refl)

goes_waiting : (l : Ledger) (s : ℕ) (w : Option Waiting) → Continues l (stepped_ledger l s w)
goes_waiting l s None = goes_same refl refl
goes_waiting l s (Some w) = goes_noting l s w.update w.noted

pub goes_step : (l : Ledger) (s : ℕ) (a : Result (Option Replied) Refusal) (b : ℕ) → Continues l (fed l (stepped s a b))
goes_step l s (Ok a) b = goes_waiting l s (get_or l.waiting (pred s) None)
goes_step l s (Err q) b = goes_same refl refl

goes_number : (l : Ledger) (s : ℕ) (o : Op) (n : ℕ) → Continues l (called_ledger l s o n)
goes_number l s o zero = goes_same refl refl
goes_number l s o (suc n) = goes_same refl refl

pub goes_call : (l : Ledger) (s : ℕ) (o : Op) (a : Result ℕ Refusal) → Continues l (fed l (called s o a))
goes_call l s o (Ok n) = goes_number l s o n
goes_call l s o (Err q) = goes_same refl refl
