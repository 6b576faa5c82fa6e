-- What a reply and an outcome say is what the ledger says.
use Rattle.std.proofs.Common.{◌≡◌, ℕ, zero, suc, pred, ◌+◌, ◌^◌, ◌<◌, ◌≤◌, min, true, false, eqb, leb, List, [], ◌∷◌, length, get_or, take, Some, Ok, Err, Result, sym, refl, ap, ◌∙◌, inl, inr, arith, Option, None}
use Rattle.std.proofs.lemmas.List.{length-take, length-map, length-take-le, get_or-take, get_or-map, take-map}
use Rattle.std.proofs.lemmas.Bool.{leb-true, eqb-true, eqb-false, eq-eqb, and_parts, cond_both}
use Rattle.book.specs.declared.types.Op.{Op}
use Rattle.book.specs.Rules.{Rules, Reply, apply_reply, ask_reply, after}
use Rattle.model.specs.Journal.{station_count, within}
use Rattle.model.specs.Machine as machine
use Rattle.model.specs.Machine.{Machine, Doing, left, no_update, station_at, no_node, flag_at, state_after, reply_at, update_step, query_step, station_step, stepping, highest_flag, has_identity, known, telling, reply_given}
use Rattle.model.specs.Machine.Touch.{nothing}
use Rattle.model.specs.History.{Moment, paid, ledger, updates, Made, newest, fences_since}
use Rattle.model.specs.History.Moment.{stepped}
use Rattle.model.specs.Law as law
use Rattle.model.specs.Law.{state_at, update_at, reply_of, holds_number, holds_call}
use Rattle.model.specs.declared.types.Update.{Update}
use Rattle.model.specs.declared.types.Node.{Node}
use Rattle.model.specs.declared.types.Phase.{Phase}
use Rattle.model.specs.declared.types.Phase.TheVariants.{Look, Place, Walk, Write, Fence, Flag, Answer}
use Rattle.model.specs.declared.types.QueryPhase.{QueryPhase}
use Rattle.model.specs.declared.types.QueryPhase.TheVariants as query
use Rattle.model.specs.declared.types.Call.{Call}
use Rattle.model.specs.declared.types.Call.TheVariants as calls
use Rattle.model.specs.declared.types.Refusal.{Refusal}
use Rattle.model.specs.declared.types.Replied.{Replied}
use Rattle.model.specs.declared.types.Outcome.{Outcome}
use Rattle.model.specs.declared.types.Outcome.TheVariants.{Done, Open, Never}
use Rattle.model.proofs.Sound.{own_update, updates_of, update_of}
use Rattle.model.proofs.Steps.{SoundAt, StandsAt, stands_at, order_length, stepping_cases}
use Rattle.model.proofs.Timed.{peak, paid_touch, TimedAt, FloorAt, floor_at}
use Rattle.model.proofs.Outcomes.{top_flagged, First, place_found, telling_cases}

-- The order's replies are the ledger's

ops_same : (o : List Node) → machine.ops o ≡ law.ops (updates_of o)
ops_same [] = refl
ops_same (n ∷ o) = ap (λ (os : List Op). n.update.op ∷ os) (ops_same o)

state_same : {S : Type 0} (R : Rules S) (o : List Node) (us : List Update) (p : ℕ) → updates_of o ≡ us → state_after R o p ≡ state_at R us p
state_same R o us p e = ap (after R R.first) (ops_same (take p o) ∙ ap law.ops (sym (take-map (λ n. n.update) p o) ∙ ap (take p) e))

pub update_same : (o : List Node) (us : List Update) (i : ℕ) → updates_of o ≡ us → i < length o → get_or us i no_update ≡ update_of o i
update_same o us i e h = sym (ap (λ (vs : List Update). get_or vs i no_update) e) ∙ get_or-map (λ n. n.update) o i no_node no_update h

reply_same : {S : Type 0} (R : Rules S) (o : List Node) (us : List Update) (p : ℕ) → updates_of o ≡ us → 1 ≤ p → p ≤ length o →
    reply_at R o p ≡ apply_reply R (state_at R us (pred p)) (update_at us p).op
reply_same R o us p e a b = rw (state_same R o us (pred p) e, update_same o us (pred p) e (omega arith))

-- Replies

-- the reply v at place p to the open call of station s, which has cost b fences more, is right
pub record RightReply {S : Type 0} (R : Rules S) (h : List Moment) (us : List Update) (s p : ℕ) (v : Reply) (b : ℕ) : Type 0 where
  pub made : Made
  pub still : newest h s ≡ Some made
  pub holds : holds_call us s made p
  pub value : v ≡ reply_of R us made.number made.op p
  pub over : peak made.before ≤ p
  pub strictly : 1 ≤ made.number → peak made.before < p
  pub cost : fences_since (stepped s (Ok (reply_given p v)) b ∷ h) s ≡ min 1 made.number

abbrev pub RightStep : {S : Type 0} → Rules S → List Moment → List Update → ℕ → Result (Option Replied) Refusal → ℕ → Type 0
RightStep R h us s (Ok None) b = Unit
RightStep R h us s (Ok (Some x)) b = RightReply R h us s x.place x.reply b
RightStep R h us s (Err q) b = Unit

number_holds : (us : List Update) (s : ℕ) (c : Made) (p g : ℕ) → 1 ≤ g → 1 ≤ p → p ≤ length us →
    update_at us p ≡ own_update c.run s g c.op → holds_number us s c p g
number_holds us s c p zero a b d e = absurd (omega arith)
number_holds us s c p (suc g) a b d e = (b, d, e)

number_reply : {S : Type 0} (R : Rules S) (us : List Update) (op : Op) (p g : ℕ) → 1 ≤ g →
    apply_reply R (state_at R us (pred p)) op ≡ reply_of R us g op p
number_reply R us op p zero a = absurd (omega arith)
number_reply R us op p (suc g) a = refl

-- every reply that a step gives is right
pub step_says : {S : Type 0} (r : Machine S) (s : ℕ) (h : List Moment) (ns : List ℕ) → r.memory.fences < 2 ^ 32 → SoundAt r (ledger h) →
    TimedAt h r →
    RightStep r.rules h (updates h) s (stepping r s).answer (paid r.memory (left (stepping r s) ns).memory)
step_says {S} r s h ns clock z y = stepping_cases r s Right (λ q. tt) (λ u a m. go a m (station_at r s).call refl)
  where
    Right : Doing S (Result (Option Replied) Refusal) → Type 0
    Right d = RightStep r.rules h (updates h) s d.answer (paid r.memory (left d ns).memory)

    long : length r.order ≡ length (updates h)
    long = order_length r (ledger h) z

    spent : (p : ℕ) (v : Reply) (n : ℕ) → fences_since h s ≡ n → fences_since (stepped s (Ok (reply_given p v)) (paid r.memory r.memory) ∷ h) s ≡ n
    spent p v n e = rw (eq-eqb s s refl, paid_touch nothing ns r.memory clock) (omega arith)

    update_says : (op : Op) (p : Phase) → StandsAt r s (calls.Update op p) → FloorAt h r s (calls.Update op p) →
        Right (update_step r s (station_at r s) op p)
    update_says op Look t w = tt
    update_says op (Place n) t w = cond_both (eqb (length r.order) n) _ _ Right (λ e. tt) (λ e. tt)
    update_says op (Walk p u) t w = cond_both (flag_at r.order p) _ _ Right (λ e. tt) (λ e. tt)
    update_says op (Write own m i) t w = tt
    update_says op (Fence own m) t w = tt
    update_says op (Flag own) t w = tt
    update_says op (Answer own) t w =
        let g = (station_at r s).given in
        let c : Made = record { run = r.number; number = g; op = op; before = w.before } in
        let placed : update_at (updates h) own ≡ own_update r.number s g op =
        update_same r.order (updates h) (pred own) z.same (omega (arith, t.1.low, t.1.high)) ∙ t.1.is in
        record {
          made = c;
          still = w.still;
          holds = number_holds (updates h) s c own g t.0 t.1.low (omega (arith, t.1.high, long)) placed;
          value = reply_same r.rules r.order (updates h) own z.same t.1.low t.1.high
              ∙ ap (λ (u : Update). apply_reply r.rules (state_at r.rules (updates h) (pred own)) u.op) placed
              ∙ number_reply r.rules (updates h) op own g t.0;
          over = omega (arith, w.told, w.reach);
          strictly = λ k. omega (arith, w.told, w.reach);
          cost = spent own (0, 0) (min 1 g) (w.fences ∙ omega (arith, t.0));
        }

    query_says : (op : Op) (p : QueryPhase) → StandsAt r s (calls.Query op p) → FloorAt h r s (calls.Query op p) →
        Right (query_step r s (station_at r s) op p)
    query_says op query.Look t w = tt
    query_says op (query.Walk p u) t w = cond_both (flag_at r.order p) _ _ Right (λ e. tt) (λ e. tt)
    query_says op (query.Answer p) t w = record {
      made = record { run = r.number; number = 0; op = op; before = w.before };
      still = w.still;
      holds = omega (arith, t.0, long);
      value = ap (λ (x : S). ask_reply r.rules x op) (state_same r.rules r.order (updates h) p z.same);
      over = omega (arith, w.told, w.reach);
      strictly = λ k. absurd (omega arith);
      cost = spent p (0, 0) 0 w.fences;
    }

    go : 1 ≤ s → s ≤ station_count → (c : Call) → (station_at r s).call ≡ c → Right (station_step r s (station_at r s) c)
    go a m calls.Idle e = tt
    go a m (calls.Update op p) e = update_says op p (stands_at r (ledger h) z s a m e) (floor_at h r y s a m e)
    go a m (calls.Query op p) e = query_says op p (stands_at r (ledger h) z s a m e) (floor_at h r y s a m e)

-- Outcomes

-- none of the first k updates has this identity
abbrev pub Missing : List Update → ℕ → ℕ → ℕ → ℕ → Type 0
Missing us k run s n = (i : ℕ) → i < k → has_identity (get_or us i no_update) run s n ≡ false

-- the place p is the first with this identity, and v its reply
pub record RightDone {S : Type 0} (R : Rules S) (us : List Update) (p : ℕ) (v : Reply) (run s n : ℕ) : Type 0 where
  pub low : 1 ≤ p
  pub first : First us (pred p) run s n
  pub value : v ≡ apply_reply R (state_at R us (pred p)) (update_at us p).op

-- done at or below the highest flag; or missing up to there, in this run or in an earlier one
abbrev pub RightOutcome : {S : Type 0} → Rules S → ℕ → List Node → List Update → ℕ → ℕ → ℕ → Outcome → Type 0
RightOutcome R num o us run s n (Done x) = RightDone R us x.place x.reply run s n × (x.place ≤ highest_flag o)
RightOutcome R num o us run s n Open = (run ≡ num) × Missing us (highest_flag o) run s n
RightOutcome R num o us run s n Never = (run ≡ num → ⊥) × Missing us (highest_flag o) run s n

abbrev pub RightTold : {S : Type 0} → Rules S → ℕ → List Node → List Update → ℕ → ℕ → ℕ → Result Outcome Refusal → Type 0
RightTold R num o us run s n (Ok a) = RightOutcome R num o us run s n a × (run ≤ num)
RightTold R num o us run s n (Err q) = Unit

first_longer : (us vs : List Update) (k i run s n : ℕ) → vs ≡ take k us → First vs i run s n → First us i run s n
first_longer us vs k i run s n e f =
    let g : i < length (take k us) = rw e at f.inside in
    let l = length-take k us in
    record {
      inside = omega arith;
      is = rw (← get_or-take k us i no_update (omega arith), ← e) f.is;
      first = λ j h. rw (← get_or-take k us j no_update (omega arith), ← e) (f.first j h);
    }

-- every outcome that is told is right
pub tell_says : {S : Type 0} (r : Machine S) (run s n : ℕ) (us : List Update) → updates_of r.order ≡ us →
    RightTold r.rules r.number r.order us run s n (telling r run s n).answer
tell_says {S} r run s n us same =
    telling_cases r run s n (λ (d : Doing S (Result Outcome Refusal)). RightTold r.rules r.number r.order us run s n d.answer) (λ q. tt)
    (λ u a m k. elim (place_found (take top r.order) 1 run s n) [
      | inl w ↦ rw w.1 (done w.0 w.2, bound k)
      | inr w ↦ rw w.0 (cond_both (eqb run r.number) Open Never
          (λ (x : Outcome). RightOutcome r.rules r.number r.order us run s n x × (run ≤ r.number))
          (λ e. ((eqb-true run r.number e, missing w.1), bound k)) (λ e. ((eqb-false run r.number e, missing w.1), bound k)))
    ])
  where
    top : ℕ
    top = highest_flag r.order

    bound : known r run s n ≡ true → run ≤ r.number
    bound e = leb-true run r.number (and_parts (leb 1 run) (leb run r.number) (and_parts (within 1 run r.number) _ e).0).1

    front : updates_of (take top r.order) ≡ take top us
    front = sym (take-map (λ n. n.update) top r.order) ∙ ap (take top) same

    long : length (take top r.order) ≡ top
    long = length-take-le top r.order (top_flagged r.order).1

    done : (i : ℕ) → First (updates_of (take top r.order)) i run s n →
        RightDone r.rules us (1 + i) (reply_at r.rules r.order (1 + i)) run s n × (1 + i ≤ top)
    done i f =
        let e = length-map (take top r.order) (λ n. n.update) in
        let b : i < top = omega (arith, f.inside, long) in
        let c = (top_flagged r.order).1 in
        let p : pred (1 + i) ≡ i = omega arith in (
          record {
            low = omega arith;
            first = rw p (first_longer us (updates_of (take top r.order)) top i run s n front f);
            value = reply_same r.rules r.order us (1 + i) same (omega arith) (omega arith);
          },
          omega arith,
        )

    missing : ((i : ℕ) → i < length (take top r.order) → has_identity (update_of (take top r.order) i) run s n ≡ false) → Missing us top run s n
    missing f i h =
        let c = (top_flagged r.order).1 in
        ap (λ (u : Update). has_identity u run s n)
        (update_same r.order us i same (omega arith) ∙ ap (λ (y : Node). y.update) (sym (get_or-take top r.order i no_node h)))
        ∙ f i (omega (arith, long))
