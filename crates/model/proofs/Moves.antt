-- The three kinds of moves: the order stays, an update is placed, a place is flagged.
use Rattle.std.proofs.Common.{◌≡◌, ℕ, zero, suc, pred, ◌+◌, ◌<◌, ◌≤◌, false, List, [], ◌∷◌, ◌++◌, length, get_or, set, None, Option, sym, refl, ap, ◌∙◌, inl, inr, arith}
use Rattle.std.proofs.lemmas.List.{length-set, get_or_append_left, get_or-set_same, get_or-set_other, set-get_or, map-set, length_push, get_or_push, map_push, get_or-map}
use Rattle.std.proofs.lemmas.Bool.{both_ways, cases_lt, cases_eq}
use Rattle.book.specs.declared.types.Op.{Op}
use Rattle.model.specs.Journal.{station_count}
use Rattle.model.specs.Machine.{no_update, flagged, no_node, node_at, flag_at, with_call, set_flag}
use Rattle.model.specs.History.{Waiting}
use Rattle.model.specs.declared.types.Update.{Update}
use Rattle.model.specs.declared.types.Node.{Node}
use Rattle.model.specs.declared.types.Phase.TheVariants.{Walk, Answer}
use Rattle.model.specs.declared.types.Call.TheVariants as calls
use Rattle.model.specs.declared.types.Station.{Station}
use Rattle.model.proofs.Sound.{station_of, own_update, awaits_call, own_call, updates_of, update_of, flag_of, Holds, stand_call, Sound, Grown, grown_same, Slots, changed}

-- the order stays, and the own place of station s
pub keep : {num s : ℕ} {o : List Node} {xs : List Station} {us : List Update} {ws ws' : List (Option Waiting)} (x' : Station) →
    1 ≤ s → s ≤ station_count → Sound num o xs us ws → Slots s ws ws' (awaits_call num s x'.given x'.call) →
    stand_call num s o x'.given x'.call → own_call x'.call ≡ own_call (station_of xs s).call → Sound num o (set xs (pred s) x') us ws'
keep {num} {s} {o} x' l h z w st e = changed x' l h z (record {
  grown = grown_same s o;
  slots = w;
  same = z.same;
  stands = st;
  one = omega arith;
  new = λ j a b. absurd (omega arith);
  mine = λ i a f q. e ∙ (rw q at (z.owned i a f).own);
})

-- An update is placed

node_front : (o : List Node) (n : Node) (i : ℕ) → i < length o → get_or (o ++ n ∷ []) i no_node ≡ get_or o i no_node
node_front o n i h = get_or_append_left o (n ∷ []) no_node i h

pub grown_push : (s : ℕ) (o : List Node) (node : Node) → Grown s o (o ++ node ∷ [])
grown_push s o node = record {
  longer = (let long = length_push o node in omega arith);
  keeps = λ i b. ap (λ (n : Node). n.update) (node_front o node i b);
  stays = λ i b f. ap (λ (n : Node). n.flagged) (node_front o node i b) ∙ f;
  others = λ i b f. ap (λ (n : Node). n.flagged) (node_front o node i b);
}

-- a node that is not flagged yet
abbrev pub unflagged : Update → Node
unflagged v = record { update = v; flagged = false }

-- station s, which has no place of its own, places its update
pub placed : {num s : ℕ} {o : List Node} {xs : List Station} {us : List Update} {ws ws' : List (Option Waiting)} (op : Op) (n : ℕ) →
    1 ≤ s → s ≤ station_count → Sound num o xs us ws → n ≡ length o → 1 ≤ (station_of xs s).given → Slots s ws ws' None →
    own_call (station_of xs s).call ≡ 0 →
    Sound num (o ++ unflagged (own_update num s (station_of xs s).given op) ∷ [])
    (set xs (pred s) (with_call (station_of xs s) (calls.Update op (Walk (n + 1) 0)))) (us ++ own_update num s (station_of xs s).given op ∷ []) ws'
placed {num} {s} {o} {xs} {us} {ws} {ws'} op n l h z en g w e =
    changed (with_call (station_of xs s) (calls.Update op (Walk (n + 1) 0))) l h z (record {
      grown = grown_push s o node;
      slots = w;
      same = map_push (λ n. n.update) o node ∙ ap (λ (vs : List Update). vs ++ v ∷ []) z.same;
      stands = (
        g,
        (
          record {
            low = omega arith;
            high = omega (arith, long);
            is = ap (λ (n : Node). n.update) at_end;
            flag = ap (λ (n : Node). n.flagged) at_end;
          },
          record { named = λ i a b. absurd (omega arith); apart = λ i j a b c. absurd (omega arith) },
        ),
      );
      one = omega (arith, long);
      new = λ j a b. (ap (λ (n : Node). n.update.station) (get_or_push o node no_node j (omega (arith, long))), e);
      mine = mine;
    })
  where
    v : Update
    v = own_update num s (station_of xs s).given op

    node : Node
    node = unflagged (own_update num s (station_of xs s).given op)

    long : length (o ++ node ∷ []) ≡ length o + 1
    long = length_push o node

    at_end : get_or (o ++ node ∷ []) (pred (n + 1 + 0)) no_node ≡ node
    at_end = get_or_push o node no_node (pred (n + 1 + 0)) (omega arith)

    mine : (i : ℕ) → i < length (o ++ node ∷ []) → flag_of (o ++ node ∷ []) i ≡ false → (update_of (o ++ node ∷ []) i).station ≡ s → n + 1 + 0 ≡ i + 1
    mine i a f q = elim (cases_lt i (length o)) [
      | inl b ↦ (let q' : (update_of o i).station ≡ s = sym (ap (λ (n : Node). n.update.station) (node_front o node i b)) ∙ q in
          let f' : flag_of o i ≡ false = sym (ap (λ (n : Node). n.flagged) (node_front o node i b)) ∙ f in
          let w : own_call (station_of xs s).call ≡ i + 1 = rw q' at (z.owned i b f').own in absurd (omega (arith, w, e)))
      | inr b ↦ omega (arith, long)
    ]

-- A place is flagged

pub flag_set : (o : List Node) (p : ℕ) → 1 ≤ p → flag_at o p ≡ flag_of o (pred p)
flag_set o zero h = absurd (omega arith)
flag_set o (suc p) h = refl

module _ (o : List Node) (own : ℕ) where
  length_flag : length (set_flag o own) ≡ length o
  length_flag = length-set o (pred own) (flagged (node_at o own).update)

  flag_here : 1 ≤ own → own ≤ length o → get_or (set_flag o own) (pred own) no_node ≡ flagged (node_at o own).update
  flag_here a b = get_or-set_same o (pred own) (flagged (node_at o own).update) no_node (omega arith)

  flag_away : (i : ℕ) → (i ≡ pred own → ⊥) → get_or (set_flag o own) i no_node ≡ get_or o i no_node
  flag_away i d = get_or-set_other o (pred own) i (flagged (node_at o own).update) no_node d

pub grown_flag : (num s g own : ℕ) (op : Op) (o : List Node) → Holds o own (own_update num s g op) false → Grown s o (set_flag o own)
grown_flag num s g own op o k = record {
  longer = omega (arith, length_flag o own);
  keeps = λ i b. elim (cases_eq i (pred own)) [
    | inl d ↦ rw d (ap (λ (n : Node). n.update) here)
    | inr d ↦ ap (λ (n : Node). n.update) (flag_away o own i d)
  ];
  stays = λ i b f. elim (cases_eq i (pred own)) [
    | inl d ↦ rw d (ap (λ (n : Node). n.flagged) here)
    | inr d ↦ ap (λ (n : Node). n.flagged) (flag_away o own i d) ∙ f
  ];
  others = λ i b f. elim (cases_eq i (pred own)) [
    | inl d ↦ absurd (f (rw d (ap (λ (v : Update). v.station) k.is)))
    | inr d ↦ ap (λ (n : Node). n.flagged) (flag_away o own i d)
  ];
}
  where
    here : get_or (set_flag o own) (pred own) no_node ≡ flagged (node_at o own).update
    here = flag_here o own k.low k.high

-- station s flags its own place
pub flagged_now : {num s : ℕ} {o : List Node} {xs : List Station} {us : List Update} {ws : List (Option Waiting)} (op : Op) (own : ℕ) →
    1 ≤ s → s ≤ station_count → Sound num o xs us ws → 1 ≤ (station_of xs s).given → Slots s ws ws None → own_call (station_of xs s).call ≡ own →
    Holds o own (own_update num s (station_of xs s).given op) false →
    Sound num (set_flag o own) (set xs (pred s) (with_call (station_of xs s) (calls.Update op (Answer own)))) us ws
flagged_now {num} {s} {o} {xs} {us} op own l h z g w e k = changed (with_call (station_of xs s) (calls.Update op (Answer own))) l h z (record {
  grown = grown_flag num s (station_of xs s).given own op o k;
  slots = w;
  same = map-set (λ n. n.update) o (pred own) (flagged (node_at o own).update)
      ∙ ap (λ (v : Update). set (updates_of o) (pred own) v)
      (sym (get_or-map (λ n. n.update) o (pred own) no_node no_update (omega (arith, k.low, k.high))))
      ∙ set-get_or (updates_of o) (pred own) no_update ∙ z.same;
  stands = (
    g,
    record {
      low = k.low;
      high = omega (arith, length_flag o own, k.high);
      is = ap (λ (n : Node). n.update) here ∙ k.is;
      flag = ap (λ (n : Node). n.flagged) here;
    },
  );
  one = omega (arith, length_flag o own);
  new = λ j a b. absurd (omega (arith, length_flag o own));
  mine = mine;
})
  where
    here : get_or (set_flag o own) (pred own) no_node ≡ flagged (node_at o own).update
    here = flag_here o own k.low k.high

    mine : (i : ℕ) → i < length (set_flag o own) → flag_of (set_flag o own) i ≡ false → (update_of (set_flag o own) i).station ≡ s → 0 ≡ i + 1
    mine i a f q = elim (cases_eq i (pred own)) [
      | inl d ↦ absurd (both_ways (flag_of (set_flag o own) i) f (rw d (ap (λ (n : Node). n.flagged) here)))
      | inr d ↦ (let q' : (update_of o i).station ≡ s = sym (ap (λ (n : Node). n.update.station) (flag_away o own i d)) ∙ q in
          let f' : flag_of o i ≡ false = sym (ap (λ (n : Node). n.flagged) (flag_away o own i d)) ∙ f in
          let w : own_call (station_of xs s).call ≡ i + 1 =
          rw q' at (z.owned i (omega (arith, length_flag o own)) f').own in absurd (omega (arith, w, e)))
    ]
