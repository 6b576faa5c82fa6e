-- How many: places, calls and identities.
use Rattle.std.proofs.Common.{◌≡◌, ℕ, zero, suc, pred, ◌+◌, ◌*◌, ◌<◌, ◌≤◌, eqb, List, [], ◌∷◌, ◌++◌, length, get_or, set, Result, sym, refl, ap, ◌∙◌, inl, inr, arith, Option}
use Rattle.std.proofs.lemmas.List.{length-set, length_push, get_or_push}
use Rattle.std.proofs.lemmas.Bool.{cases_lt, cases_eq, cond_both}
use Rattle.book.specs.declared.types.Op.{Op}
use Rattle.book.specs.declared.types.Sort.TheVariants as sorts
use Rattle.model.specs.Journal.{max_place, station_count, top}
use Rattle.model.specs.Machine.{Machine, Doing, idle_station, station_at, unplaced_call, unplaced, called_station, calling, no_node, flag_at, with_call, update_step, query_step, station_step, stepping}
use Rattle.model.specs.History.{Ledger}
use Rattle.model.specs.Law.{identity}
use Rattle.model.specs.declared.types.Update.{Update}
use Rattle.model.specs.declared.types.Node.{Node}
use Rattle.model.specs.declared.types.Phase.{Phase}
use Rattle.model.specs.declared.types.Phase.TheVariants.{Look, Place, Walk, Write, Fence, Flag, Answer}
use Rattle.model.specs.declared.types.QueryPhase.{QueryPhase}
use Rattle.model.specs.declared.types.QueryPhase.TheVariants as query
use Rattle.model.specs.declared.types.Call.{Call}
use Rattle.model.specs.declared.types.Call.TheVariants as calls
use Rattle.model.specs.declared.types.Station.{Station}
use Rattle.model.specs.declared.types.Refusal.{Refusal}
use Rattle.model.specs.declared.types.Replied.{Replied}
use Rattle.model.proofs.Sound.{station_of, station_here, station_other, each_station, own_update, update_of}
use Rattle.model.proofs.Moves.{grown_push, unflagged, grown_flag}
use Rattle.model.proofs.Steps.{SoundAt, StandsAt, stands_at, stepping_cases}
use Rattle.model.proofs.Calls.{calling_cases}

-- an update of this run: its call is one that its station was given and has placed
pub record Counted (xs : List Station) (u : Update) : Type 0 where
  pub low : 1 ≤ u.station
  pub high : u.station ≤ station_count
  pub count : u.call + unplaced_call (station_of xs u.station).call ≤ (station_of xs u.station).given

-- the places fit, no station was given more calls than there are places, and no identity stands twice
pub record Counts (num : ℕ) (o : List Node) (xs : List Station) : Type 0 where
  pub fits : length o + unplaced xs ≤ max_place
  pub given : (t : ℕ) → 1 ≤ t → t ≤ station_count → (station_of xs t).given ≤ length o + unplaced_call (station_of xs t).call
  pub counted : (i : ℕ) → i < length o → (update_of o i).run ≡ num → Counted xs (update_of o i)
  pub unique : (i j : ℕ) → i < j → j < length o → identity (update_of o i) ≡ identity (update_of o j) → ⊥

unplaced_set : (xs : List Station) (i : ℕ) (x : Station) → i < length xs →
    unplaced (set xs i x) + unplaced_call (get_or xs i (idle_station 0)).call ≡ unplaced xs + unplaced_call x.call
unplaced_set [] i x h = absurd (omega arith)
unplaced_set (y ∷ xs) zero x h = omega arith
unplaced_set (y ∷ xs) (suc i) x h = let k = unplaced_set xs i x (omega arith) in omega arith

-- station s becomes x'
module _ {num s : ℕ} {o : List Node} {xs : List Station} (x' : Station) (a : 1 ≤ s) (m : s ≤ station_count) (many : length xs ≡ station_count)
    (z : Counts num o xs) where
  counted_set : (u : Update) → (station_of xs s).given + unplaced_call x'.call ≤ x'.given + unplaced_call (station_of xs s).call →
      Counted xs u → Counted (set xs (pred s) x') u
  counted_set u up k = record {
    low = k.low;
    high = k.high;
    count = elim (cases_eq u.station s) [
      | inl e ↦ rw (e, station_here s xs x' a m many)
          (let q : u.call + unplaced_call (station_of xs s).call ≤ (station_of xs s).given = rw e at k.count in omega arith)
      | inr n ↦ rw (station_other s u.station xs x' a k.low n) k.count
    ];
  }

  -- the updates stay
  counts_kept : (o' : List Node) → length o' ≡ length o → ((i : ℕ) → i < length o → update_of o' i ≡ update_of o i) →
      (station_of xs s).given + unplaced_call x'.call ≤ x'.given + unplaced_call (station_of xs s).call →
      x'.given ≤ length o + unplaced_call x'.call →
      length o + unplaced xs + unplaced_call x'.call ≤ max_place + unplaced_call (station_of xs s).call → Counts num o' (set xs (pred s) x')
  counts_kept o' long keeps up top room = record {
    fits = (let k = unplaced_set xs (pred s) x' (omega arith) in omega arith);
    given = each_station s xs x' (λ (t : ℕ) (x : Station). x.given ≤ length o' + unplaced_call x.call) a m many (omega arith)
        (λ t b c n. omega (arith, z.given t b c));
    counted = λ i l e. rw (keeps i (omega arith)) (counted_set (update_of o i) up (z.counted i (omega arith) (rw (keeps i (omega arith)) at e)));
    unique = λ i j l k. rw (keeps i (omega arith), keeps j (omega arith)) (z.unique i j l (omega arith));
  }

  -- the update of station s that waits is placed
  counts_placed : (op : Op) → unplaced_call (station_of xs s).call ≡ 1 → unplaced_call x'.call ≡ 0 → x'.given ≡ (station_of xs s).given →
      Counts num (o ++ unflagged (own_update num s (station_of xs s).given op) ∷ []) (set xs (pred s) x')
  counts_placed op w w' g = record {
    fits = (let k = unplaced_set xs (pred s) x' (omega arith) in let f = z.fits in omega (arith, long));
    given = each_station s xs x' (λ (t : ℕ) (x : Station). x.given ≤ length o' + unplaced_call x.call) a m many
        (let k = z.given s a m in omega (arith, long)) (λ t b c n. omega (arith, z.given t b c, long));
    counted = counted;
    unique = unique;
  }
    where
      node : Node
      node = unflagged (own_update num s (station_of xs s).given op)

      o' : List Node
      o' = o ++ node ∷ []

      long : length o' ≡ length o + 1
      long = length_push o node

      front : (i : ℕ) → i < length o → update_of o' i ≡ update_of o i
      front i h = (grown_push s o node).keeps i h

      end : (i : ℕ) → length o ≡ i → update_of o' i ≡ node.update
      end i e = ap (λ (n : Node). n.update) (get_or_push o node no_node i e)

      counted : (i : ℕ) → i < length o' → (update_of o' i).run ≡ num → Counted (set xs (pred s) x') (update_of o' i)
      counted i l e = elim (cases_lt i (length o)) [
        | inl h ↦ rw (front i h) (counted_set (update_of o i) (omega arith) (z.counted i h (rw (front i h) at e)))
        | inr h ↦ rw (end i (omega (arith, long))) (record { low = a; high = m; count = rw (station_here s xs x' a m many) (omega arith) })
      ]

      -- an older update with the new identity would have been counted below it
      fresh : (u : Update) → (u.run ≡ num → Counted xs u) → identity u ≡ identity node.update → ⊥
      fresh u c e =
          let k = c (ap (λ (t : ℕ × ℕ × ℕ). t.0) e) in
          let p : u.station ≡ s = ap (λ (t : ℕ × ℕ × ℕ). t.1) e in
          let q = ap (λ (t : ℕ × ℕ × ℕ). t.2) e in
          let n : u.call + unplaced_call (station_of xs s).call ≤ (station_of xs s).given = rw p at k.count in omega arith

      unique : (i j : ℕ) → i < j → j < length o' → identity (update_of o' i) ≡ identity (update_of o' j) → ⊥
      unique i j l k e = elim (cases_lt j (length o)) [
        | inl h ↦ z.unique i j l h (sym (ap identity (front i (omega arith))) ∙ e ∙ ap identity (front j h))
        | inr h ↦ (let b : i < length o = omega (arith, long) in
            fresh (update_of o i) (z.counted i b) (sym (ap identity (front i b)) ∙ e ∙ ap identity (end j (omega (arith, long)))))
      ]

-- steps and calls keep the counts

abbrev pub CountsAt : {S : Type 0} → ℕ → Machine S → Type 0
CountsAt num r = Counts num r.order r.stations

pub step_counts : {S : Type 0} (r : Machine S) (s : ℕ) (l : Ledger) → SoundAt r l → CountsAt r.number r →
    CountsAt r.number (stepping r s).machine
step_counts {S} r s l z y = stepping_cases r s P (λ q. y) (λ u a m. go a m (station_at r s).call refl)
  where
    P : Doing S (Result (Option Replied) Refusal) → Type 0
    P d = CountsAt r.number d.machine

    kept : 1 ≤ s → s ≤ station_count → (o' : List Node) (x' : Station) → length o' ≡ length r.order →
        ((i : ℕ) → i < length r.order → update_of o' i ≡ update_of r.order i) → (station_at r s).given ≡ x'.given →
        unplaced_call x'.call ≡ unplaced_call (station_at r s).call → Counts r.number o' (set r.stations (pred s) x')
    kept a m o' x' long keeps e f = counts_kept x' a m z.many y o' long keeps (omega arith) (omega (arith, y.given s a m))
        (omega (arith, y.fits))

    -- the order stays, and the station waits no more and no less
    same : 1 ≤ s → s ≤ station_count → {c : Call} → (station_at r s).call ≡ c → (x' : Station) → (station_at r s).given ≡ x'.given →
        unplaced_call x'.call ≡ unplaced_call c → Counts r.number r.order (set r.stations (pred s) x')
    same a m e x' g f = kept a m r.order x' refl (λ i h. refl) g (f ∙ sym (ap unplaced_call e))

    update_counts : 1 ≤ s → s ≤ station_count → (op : Op) (p : Phase) → (station_at r s).call ≡ calls.Update op p → StandsAt r s (calls.Update op p) →
        P (update_step r s (station_at r s) op p)
    update_counts a m op Look e t = same a m e _ refl refl
    update_counts a m op (Place n) e t = cond_both (eqb (length r.order) n) _ _ P
        (λ f. counts_placed (with_call (station_at r s) (calls.Update op (Walk (n + 1) 0))) a m z.many y op (ap unplaced_call e) refl refl)
        (λ f. same a m e _ refl refl)
    update_counts a m op (Walk p u) e t = cond_both (flag_at r.order p) _ _ P (λ f. same a m e _ refl refl) (λ f. same a m e _ refl refl)
    update_counts a m op (Write own k i) e t = cond_both (eqb (i + 1) (10 * k)) (Fence own k) (Write own k (i + 1))
        (λ (q : Phase). Counts r.number r.order (set r.stations (pred s) (with_call (station_at r s) (calls.Update op q))))
        (λ f. same a m e _ refl refl) (λ f. same a m e _ refl refl)
    update_counts a m op (Fence own k) e t = same a m e _ refl refl
    update_counts a m op (Flag own) e t = kept a m _ _ (length-set r.order (pred own) _)
        (grown_flag r.number s (station_at r s).given own op r.order t.1).keeps refl (sym (ap unplaced_call e))
    update_counts a m op (Answer own) e t = same a m e _ refl refl

    query_counts : 1 ≤ s → s ≤ station_count → (op : Op) (p : QueryPhase) → (station_at r s).call ≡ calls.Query op p →
        P (query_step r s (station_at r s) op p)
    query_counts a m op query.Look e = same a m e _ refl refl
    query_counts a m op (query.Walk p u) e = cond_both (flag_at r.order p) _ _ P (λ f. same a m e _ refl refl) (λ f. same a m e _ refl refl)
    query_counts a m op (query.Answer p) e = same a m e _ refl refl

    go : 1 ≤ s → s ≤ station_count → (c : Call) → (station_at r s).call ≡ c → P (station_step r s (station_at r s) c)
    go a m calls.Idle e = y
    go a m (calls.Update op p) e = update_counts a m op p e (stands_at r l z s a m e)
    go a m (calls.Query op p) e = query_counts a m op p e

pub call_counts : {S : Type 0} (r : Machine S) (s : ℕ) (o : Op) (l : Ledger) → SoundAt r l → CountsAt r.number r →
    CountsAt r.number (calling r s o).machine
call_counts {S} r s o l z y = calling_cases r s o (λ (d : Doing S (Result ℕ Refusal)). CountsAt r.number d.machine) (λ q. y)
    (λ u a m i k. let w = ap unplaced_call i in
    counts_kept (called_station (station_at r s) o sorts.Query) a m z.many y r.order refl (λ i h. refl) (omega arith)
    (omega (arith, y.given s a m)) (omega (arith, y.fits)))
    (λ u a m i k q. let w = ap unplaced_call i in
    counts_kept (called_station (station_at r s) o sorts.Update) a m z.many y r.order refl (λ i h. refl) (omega arith)
    (omega (arith, y.given s a m)) (omega (arith, q.places)))
