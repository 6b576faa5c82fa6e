-- What a call or a step leaves as it was.
use Rattle.std.proofs.Common.{◌≡◌, ℕ, pred, ◌<◌, ◌≤◌, true, eqb, List, length, set, Result, refl, ap, inl, inr, arith, Option}
use Rattle.std.proofs.lemmas.List.{length-set, get_or-set_same, get_or-set_other, length_push, get_or_push}
use Rattle.std.proofs.lemmas.Bool.{cases_eq, cond_both}
use Rattle.book.specs.declared.types.Op.{Op}
use Rattle.book.specs.declared.types.Sort.TheVariants as sorts
use Rattle.model.specs.Journal.{station_count}
use Rattle.model.specs.Machine.{Machine, Doing, with_station, with_order, with_state, flagged, idle_station, station_at, called_station, calling, no_node, node_at, flag_at, update_step, query_step, station_step, stepping}
use Rattle.model.specs.History.{Ledger}
use Rattle.model.specs.declared.types.Node.{Node}
use Rattle.model.specs.declared.types.Phase.{Phase}
use Rattle.model.specs.declared.types.Phase.TheVariants.{Look, Place, Walk, Write, Fence, Flag, Answer}
use Rattle.model.specs.declared.types.QueryPhase.{QueryPhase}
use Rattle.model.specs.declared.types.QueryPhase.TheVariants as query
use Rattle.model.specs.declared.types.Call.{Call}
use Rattle.model.specs.declared.types.Call.TheVariants as calls
use Rattle.model.specs.declared.types.Station.{Station}
use Rattle.model.specs.declared.types.Refusal.{Refusal}
use Rattle.model.specs.declared.types.Replied.{Replied}
use Rattle.model.proofs.Sound.{station_of, own_update, update_of, flag_of, Grown, grown_same}
use Rattle.model.proofs.Moves.{grown_push, unflagged, grown_flag}
use Rattle.model.proofs.Steps.{SoundAt, StandsAt, stands_at, stepping_cases}
use Rattle.model.proofs.Calls.{calling_cases}

-- the run r has become r': only later call numbers, more places, more flags
pub record Onward {S : Type 0} (r r' : Machine S) : Type 0 where
  pub number : r'.number ≡ r.number
  pub rules : r'.rules ≡ r.rules
  pub memory : r'.memory ≡ r.memory
  pub status : r'.status ≡ r.status
  pub given : (t : ℕ) → (station_at r t).given ≤ (station_at r' t).given
  pub longer : length r.order ≤ length r'.order
  pub keeps : (i : ℕ) → i < length r.order → update_of r'.order i ≡ update_of r.order i
  pub flags : (i : ℕ) → i < length r.order → flag_of r.order i ≡ true → flag_of r'.order i ≡ true
  pub new : (i : ℕ) → length r.order ≤ i → i < length r'.order → (update_of r'.order i).run ≡ r.number

onward_none : {S : Type 0} (r : Machine S) → Onward r r
onward_none r = record {
  number = refl;
  rules = refl;
  memory = refl;
  status = refl;
  given = λ t. omega arith;
  longer = omega arith;
  keeps = λ i h. refl;
  flags = λ i h e. e;
  new = λ i a b. absurd (omega arith);
}

-- station s becomes x'
onward_moved : {S : Type 0} (r : Machine S) (s : ℕ) (o' : List Node) (x' : Station) (st : S) → pred s < length r.stations → Grown s r.order o' →
    (station_at r s).given ≤ x'.given → ((i : ℕ) → length r.order ≤ i → i < length o' → (update_of o' i).run ≡ r.number) →
    Onward r (with_state (with_station (with_order r o') s x') st)
onward_moved r s o' x' st room gr le new = record {
  number = refl;
  rules = refl;
  memory = refl;
  status = refl;
  given = given;
  longer = gr.longer;
  keeps = gr.keeps;
  flags = gr.stays;
  new = new;
}
  where
    given : (t : ℕ) → (station_of r.stations t).given ≤ (station_of (set r.stations (pred s) x') t).given
    given t = elim (cases_eq (pred t) (pred s)) [
      | inl e ↦ rw (e, get_or-set_same r.stations (pred s) x' (idle_station 0) room) le
      | inr n ↦ rw (get_or-set_other r.stations (pred s) (pred t) x' (idle_station 0) n) (omega arith)
    ]

-- steps and calls lead onward
pub step_onward : {S : Type 0} (r : Machine S) (s : ℕ) (l : Ledger) → SoundAt r l → Onward r (stepping r s).machine
step_onward {S} r s l z = stepping_cases r s P (λ q. onward_none r) (λ u a m. go a m (station_at r s).call refl)
  where
    P : Doing S (Result (Option Replied) Refusal) → Type 0
    P d = Onward r d.machine

    same : 1 ≤ s → s ≤ station_count → (x' : Station) (st : S) → (station_at r s).given ≡ x'.given → Onward r (with_state (with_station r s x') st)
    same a m x' st e = onward_moved r s r.order x' st (omega (arith, z.many)) (grown_same s r.order) (omega (arith, e))
        (λ i b c. absurd (omega arith))

    update_onward : 1 ≤ s → s ≤ station_count → (op : Op) (p : Phase) → StandsAt r s (calls.Update op p) → P (update_step r s (station_at r s) op p)
    update_onward a m op Look t = same a m _ _ refl
    update_onward a m op (Place n) t = cond_both (eqb (length r.order) n) _ _ P
        (λ f. let node = unflagged (own_update r.number s (station_at r s).given op) in let k = length_push r.order node in
        onward_moved r s _ _ _ (omega (arith, z.many)) (grown_push s r.order node) (omega arith)
        (λ i b c. ap (λ (y : Node). y.update.run) (get_or_push r.order node no_node i (omega arith))))
        (λ f. same a m _ _ refl)
    update_onward a m op (Walk p u) t = cond_both (flag_at r.order p) _ _ P (λ f. same a m _ _ refl) (λ f. same a m _ _ refl)
    update_onward a m op (Write own k i) t = same a m _ _ refl
    update_onward a m op (Fence own k) t = same a m _ _ refl
    update_onward a m op (Flag own) t = onward_moved r s _ _ _ (omega (arith, z.many))
        (grown_flag r.number s (station_at r s).given own op r.order t.1) (omega arith)
        (λ i b c. let k = length-set r.order (pred own) (flagged (node_at r.order own).update) in absurd (omega arith))
    update_onward a m op (Answer own) t = same a m _ _ refl

    query_onward : 1 ≤ s → s ≤ station_count → (op : Op) (p : QueryPhase) → P (query_step r s (station_at r s) op p)
    query_onward a m op query.Look = same a m _ _ refl
    query_onward a m op (query.Walk p u) = cond_both (flag_at r.order p) _ _ P (λ f. same a m _ _ refl) (λ f. same a m _ _ refl)
    query_onward a m op (query.Answer p) = same a m _ _ refl

    go : 1 ≤ s → s ≤ station_count → (c : Call) → (station_at r s).call ≡ c → P (station_step r s (station_at r s) c)
    go a m calls.Idle e = onward_none r
    go a m (calls.Update op p) e = update_onward a m op p (stands_at r l z s a m e)
    go a m (calls.Query op p) e = query_onward a m op p

pub call_onward : {S : Type 0} (r : Machine S) (s : ℕ) (o : Op) (l : Ledger) → SoundAt r l → Onward r (calling r s o).machine
call_onward {S} r s o l z = calling_cases r s o (λ (d : Doing S (Result ℕ Refusal)). Onward r d.machine) (λ q. onward_none r)
    (λ u a m i k. moved a m (called_station (station_at r s) o sorts.Query) (omega arith))
    (λ u a m i k w. moved a m (called_station (station_at r s) o sorts.Update) (omega arith))
  where
    moved : 1 ≤ s → s ≤ station_count → (x' : Station) → (station_at r s).given ≤ x'.given → Onward r (with_station r s x')
    moved a m x' le = onward_moved r s r.order x' r.state (omega (arith, z.many)) (grown_same s r.order) le (λ i b c. absurd (omega arith))
