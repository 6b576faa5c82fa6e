-- What holds of the order, the stations and the ledger within a run, and what a step of one station leaves of it.
use Rattle.std.proofs.Common.{◌≡◌, ℕ, zero, suc, pred, ◌+◌, ◌*◌, ◌<◌, ◌≤◌, Bool, true, false, List, map, length, get_or, set, Some, None, Option, sym, refl, ap, ◌∙◌, inl, inr, arith}
use Rattle.std.proofs.lemmas.List.{length-set, get_or-set_same, get_or-set_other}
use Rattle.std.proofs.lemmas.Bool.{both_ways, cases_lt, cases_eq, cases_Bool}
use Rattle.book.specs.declared.types.Op.{Op}
use Rattle.model.specs.Journal.{station_count, max_lines}
use Rattle.model.specs.Machine.{idle_station, no_node, flag_at}
use Rattle.model.specs.History.{Waiting}
use Rattle.model.specs.declared.types.Update.{Update}
use Rattle.model.specs.declared.types.Node.{Node}
use Rattle.model.specs.declared.types.Phase.{Phase}
use Rattle.model.specs.declared.types.Phase.TheVariants.{Look, Place, Walk, Write, Fence, Flag, Answer}
use Rattle.model.specs.declared.types.QueryPhase.{QueryPhase}
use Rattle.model.specs.declared.types.QueryPhase.TheVariants as query
use Rattle.model.specs.declared.types.Call.{Call}
use Rattle.model.specs.declared.types.Call.TheVariants as calls
use Rattle.model.specs.declared.types.Station.{Station}

-- Stations

-- station s of a list of stations
abbrev pub station_of : List Station → ℕ → Station
station_of xs s = get_or xs (pred s) (idle_station 0)

pub station_here : (s : ℕ) (xs : List Station) (x : Station) → 1 ≤ s → s ≤ station_count → length xs ≡ station_count →
    station_of (set xs (pred s) x) s ≡ x
station_here s xs x l h many = get_or-set_same xs (pred s) x (idle_station 0) (omega arith)

pub station_other : (s t : ℕ) (xs : List Station) (x : Station) → 1 ≤ s → 1 ≤ t → (t ≡ s → ⊥) → station_of (set xs (pred s) x) t ≡ station_of xs t
station_other s t xs x l a n = get_or-set_other xs (pred s) (pred t) x (idle_station 0) (omega arith)

-- where station s is changed to x, what holds of x and of every other station holds of each
pub each_station : (s : ℕ) (xs : List Station) (x : Station) (P : ℕ → Station → Type 0) → 1 ≤ s → s ≤ station_count → length xs ≡ station_count →
    P s x → ((t : ℕ) → 1 ≤ t → t ≤ station_count → (t ≡ s → ⊥) → P t (station_of xs t)) →
    (t : ℕ) → 1 ≤ t → t ≤ station_count → P t (station_of (set xs (pred s) x) t)
each_station s xs x P l h many here other t a b = elim (cases_eq t s) [
  | inl e ↦ rw (e, station_here s xs x l h many) here
  | inr n ↦ rw (station_other s t xs x l a n) (other t a b n)
]

-- the update that station s makes in run `num` as its call g
abbrev pub own_update : ℕ → ℕ → ℕ → Op → Update
own_update num s g op = record { run = num; station = s; call = g; op = op }

-- what the ledger awaits of a station
abbrev pub awaits_phase : Update → Phase → Option Waiting
awaits_phase v Look = Some (record { update = v; noted = None })
awaits_phase v (Place n) = Some (record { update = v; noted = Some n })
awaits_phase v (Walk p u) = None
awaits_phase v (Write own m t) = None
awaits_phase v (Fence own m) = None
awaits_phase v (Flag own) = None
awaits_phase v (Answer own) = None

abbrev pub awaits_call : ℕ → ℕ → ℕ → Call → Option Waiting
awaits_call num s g calls.Idle = None
awaits_call num s g (calls.Update op p) = awaits_phase (own_update num s g op) p
awaits_call num s g (calls.Query op p) = None

-- the place of a station's update that is not flagged yet; 0 if it has none
abbrev pub own_phase : Phase → ℕ
own_phase Look = 0
own_phase (Place n) = 0
own_phase (Walk p u) = p + u
own_phase (Write own m t) = own
own_phase (Fence own m) = own
own_phase (Flag own) = own
own_phase (Answer own) = 0

abbrev pub own_call : Call → ℕ
own_call calls.Idle = 0
own_call (calls.Update op p) = own_phase p
own_call (calls.Query op p) = 0

-- The order

abbrev pub updates_of : List Node → List Update
updates_of o = map (λ n. n.update) o

-- update and flag at index i, that is at the place i + 1
abbrev pub update_of : List Node → ℕ → Update
update_of o i = (get_or o i no_node).update

abbrev pub flag_of : List Node → ℕ → Bool
flag_of o i = (get_or o i no_node).flagged

-- the place p holds this update, and this flag
pub record Holds (o : List Node) (p : ℕ) (v : Update) (b : Bool) : Type 0 where
  pub low : 1 ≤ p
  pub high : p ≤ length o
  pub is : update_of o (pred p) ≡ v
  pub flag : flag_of o (pred p) ≡ b

-- the places p + 1 to p + u are of different stations
pub record Apart (o : List Node) (p u : ℕ) : Type 0 where
  pub named : (i : ℕ) → p ≤ i → i < p + u → (1 ≤ (update_of o i).station) × ((update_of o i).station ≤ station_count)
  pub apart : (i j : ℕ) → p ≤ i → i < j → j < p + u → (update_of o i).station ≡ (update_of o j).station → ⊥

-- none of these places is of station s
abbrev pub Away : List Node → ℕ → ℕ → ℕ → Type 0
Away o s p u = (i : ℕ) → p ≤ i → i < p + u → (update_of o i).station ≡ s → ⊥

-- What holds of a station's call

abbrev pub stand_phase : List Node → Update → Phase → Type 0
stand_phase o v Look = Unit
stand_phase o v (Place n) = n ≤ length o
stand_phase o v (Walk p u) = Holds o (p + u) v false × Apart o p u
stand_phase o v (Write own m t) = Holds o own v false × (1 ≤ m) × (m ≤ max_lines) × (m ≤ own) × (t < 10 * m)
stand_phase o v (Fence own m) = Holds o own v false × (1 ≤ m) × (m ≤ max_lines) × (m ≤ own)
stand_phase o v (Flag own) = Holds o own v false
stand_phase o v (Answer own) = Holds o own v true

abbrev pub stand_query : List Node → ℕ → QueryPhase → Type 0
stand_query o s query.Look = Unit
stand_query o s (query.Walk p u) = (p + u ≤ length o) × Apart o p u × Away o s p u
stand_query o s (query.Answer p) = (p ≤ length o) × (flag_at o p ≡ true)

abbrev pub stand_call : ℕ → ℕ → List Node → ℕ → Call → Type 0
stand_call num s o g calls.Idle = Unit
stand_call num s o g (calls.Update op p) = (1 ≤ g) × stand_phase o (own_update num s g op) p
stand_call num s o g (calls.Query op p) = stand_query o s p

-- the place at index i is not flagged, and station s is still writing it
pub record Owned (xs : List Station) (s i : ℕ) : Type 0 where
  pub low : 1 ≤ s
  pub high : s ≤ station_count
  pub own : own_call (station_of xs s).call ≡ i + 1

-- the order is the ledger, what waits is what the stations have not placed, an unflagged place is its station's own, and
-- of two places of one station the lower is flagged
pub record Sound (num : ℕ) (o : List Node) (xs : List Station) (us : List Update) (ws : List (Option Waiting)) : Type 0 where
  pub many : length xs ≡ station_count
  pub slots : length ws ≡ station_count
  pub same : updates_of o ≡ us
  pub waits : (t : ℕ) → 1 ≤ t → t ≤ station_count → get_or ws (pred t) None ≡ awaits_call num t (station_of xs t).given (station_of xs t).call
  pub stands : (t : ℕ) → 1 ≤ t → t ≤ station_count → stand_call num t o (station_of xs t).given (station_of xs t).call
  pub owned : (i : ℕ) → i < length o → flag_of o i ≡ false → Owned xs (update_of o i).station i
  pub last : (i j : ℕ) → i < j → j < length o → flag_of o i ≡ false → (update_of o i).station ≡ (update_of o j).station → ⊥

-- What a step of station s can make of the order, and what stays of the other stations

pub record Grown (s : ℕ) (o o' : List Node) : Type 0 where
  pub longer : length o ≤ length o'
  pub keeps : (i : ℕ) → i < length o → update_of o' i ≡ update_of o i
  pub stays : (i : ℕ) → i < length o → flag_of o i ≡ true → flag_of o' i ≡ true
  pub others : (i : ℕ) → i < length o → ((update_of o i).station ≡ s → ⊥) → flag_of o' i ≡ flag_of o i

pub grown_same : (s : ℕ) (o : List Node) → Grown s o o
grown_same s o = record { longer = omega arith; keeps = λ i h. refl; stays = λ i h e. e; others = λ i h n. refl }

pub flag_other : {s : ℕ} {o o' : List Node} → Grown s o o' → (p : ℕ) → p ≤ length o → flag_at o p ≡ true → flag_at o' p ≡ true
flag_other gr zero b h = refl
flag_other gr (suc p) b h = gr.stays p b h

holds_other : {s : ℕ} {o o' : List Node} → Grown s o o' → {p : ℕ} {v : Update} {b : Bool} → (v.station ≡ s → ⊥) → Holds o p v b → Holds o' p v b
holds_other gr {p} n h = record {
  low = h.low;
  high = omega (arith, gr.longer);
  is = gr.keeps (pred p) (omega arith) ∙ h.is;
  flag = gr.others (pred p) (omega arith) (λ e. n (sym (ap (λ (v : Update). v.station) h.is) ∙ e)) ∙ h.flag;
}

apart_other : {s : ℕ} {o o' : List Node} → Grown s o o' → {p u : ℕ} → p + u ≤ length o → Apart o p u → Apart o' p u
apart_other gr b h = record {
  named = λ i l m. rw (gr.keeps i (omega arith)) (h.named i l m);
  apart = λ i j l m n. rw (gr.keeps i (omega arith), gr.keeps j (omega arith)) (h.apart i j l m n);
}

stand_phase_other : {s : ℕ} {o o' : List Node} → Grown s o o' → (v : Update) → (v.station ≡ s → ⊥) → (p : Phase) → stand_phase o v p →
    stand_phase o' v p
stand_phase_other gr v n Look h = tt
stand_phase_other gr v n (Place k) h = omega (arith, gr.longer)
stand_phase_other gr v n (Walk p u) h = (holds_other gr n h.0, apart_other gr h.0.high h.1)
stand_phase_other gr v n (Write own m t) h = (holds_other gr n h.0, h.1, h.2, h.3, h.4)
stand_phase_other gr v n (Fence own m) h = (holds_other gr n h.0, h.1, h.2, h.3)
stand_phase_other gr v n (Flag own) h = holds_other gr n h
stand_phase_other gr v n (Answer own) h = holds_other gr n h

stand_query_other : {s : ℕ} {o o' : List Node} → Grown s o o' → (t : ℕ) (p : QueryPhase) → stand_query o t p → stand_query o' t p
stand_query_other gr t query.Look h = tt
stand_query_other gr t (query.Walk p u) h =
    (omega (arith, gr.longer), apart_other gr h.0 h.1, λ i l m. rw (gr.keeps i (omega arith)) (h.2 i l m))
stand_query_other gr t (query.Answer p) h = (omega (arith, gr.longer), flag_other gr p h.0 h.1)

stand_other : {s : ℕ} {o o' : List Node} → Grown s o o' → (num t : ℕ) → (t ≡ s → ⊥) → (g : ℕ) (c : Call) → stand_call num t o g c →
    stand_call num t o' g c
stand_other gr num t n g calls.Idle h = tt
stand_other gr num t n g (calls.Update op p) h = (h.0, stand_phase_other gr (own_update num t g op) n p h.1)
stand_other gr num t n g (calls.Query op p) h = stand_query_other gr t p h

-- what waits is as it was but for station s
pub record Slots (s : ℕ) (ws ws' : List (Option Waiting)) (w : Option Waiting) : Type 0 where
  pub size : length ws' ≡ length ws
  pub here : get_or ws' (pred s) None ≡ w
  pub others : (t : ℕ) → (pred t ≡ pred s → ⊥) → get_or ws' (pred t) None ≡ get_or ws (pred t) None

pub slots_set : (s : ℕ) (ws : List (Option Waiting)) (w : Option Waiting) → pred s < length ws → Slots s ws (set ws (pred s) w) w
slots_set s ws w h = record {
  size = length-set ws (pred s) w;
  here = get_or-set_same ws (pred s) w None h;
  others = λ t n. get_or-set_other ws (pred s) (pred t) w None n;
}

pub slots_same : (s : ℕ) (ws : List (Option Waiting)) (w : Option Waiting) → get_or ws (pred s) None ≡ w → Slots s ws ws w
slots_same s ws w h = record { size = refl; here = h; others = λ t n. refl }

-- a step that makes x' of station s, which was x
pub record Change (num s : ℕ) (o : List Node) (x : Station) (ws : List (Option Waiting)) (o' : List Node) (x' : Station) (us' : List Update)
    (ws' : List (Option Waiting)) : Type 0 where
  pub grown : Grown s o o'
  pub slots : Slots s ws ws' (awaits_call num s x'.given x'.call)
  pub same : updates_of o' ≡ us'
  pub stands : stand_call num s o' x'.given x'.call
  pub one : length o' ≤ length o + 1
  pub new : (j : ℕ) → length o ≤ j → j < length o' → ((update_of o' j).station ≡ s) × (own_call x.call ≡ 0)
  pub mine : (i : ℕ) → i < length o' → flag_of o' i ≡ false → (update_of o' i).station ≡ s → own_call x'.call ≡ i + 1

-- such a step keeps a run sound
pub changed : {num s : ℕ} {o o' : List Node} {xs : List Station} {us us' : List Update} {ws ws' : List (Option Waiting)} (x' : Station) →
    1 ≤ s → s ≤ station_count → Sound num o xs us ws →
    Change num s o (station_of xs s) ws o' x' us' ws' → Sound num o' (set xs (pred s) x') us' ws'
changed {num} {s} {o} {o'} {xs} {us} {us'} {ws} {ws'} x' l h z c = record {
  many = length-set xs (pred s) x' ∙ z.many;
  slots = c.slots.size ∙ z.slots;
  same = c.same;
  waits = each_station s xs x' (λ (t : ℕ) (x : Station). get_or ws' (pred t) None ≡ awaits_call num t x.given x.call) l h z.many
      c.slots.here
      (λ t a b n. c.slots.others t (omega arith) ∙ z.waits t a b);
  stands = each_station s xs x' (λ (t : ℕ) (x : Station). stand_call num t o' x.given x.call) l h z.many c.stands
      (λ t a b n. stand_other c.grown num t n (station_of xs t).given (station_of xs t).call (z.stands t a b));
  owned = owned;
  last = last;
}
  where
    before : (i : ℕ) → i < length o → flag_of o' i ≡ false → flag_of o i ≡ false
    before i a e = elim (cases_Bool (flag_of o i)) [ inl t ↦ absurd (both_ways (flag_of o' i) e (c.grown.stays i a t)) | inr f ↦ f ]

    station_kept : (i : ℕ) → i < length o → (update_of o' i).station ≡ (update_of o i).station
    station_kept i a = ap (λ (v : Update). v.station) (c.grown.keeps i a)

    owned : (i : ℕ) → i < length o' → flag_of o' i ≡ false → Owned (set xs (pred s) x') (update_of o' i).station i
    owned i a e = elim (cases_eq (update_of o' i).station s) [
      | inl q ↦ rw q (record { low = l; high = h; own = rw (station_here s xs x' l h z.many) (c.mine i a e q) })
      | inr n ↦ elim (cases_lt i (length o)) [
        | inl b ↦ (let w : Owned xs (update_of o' i).station i = rw (c.grown.keeps i b) (z.owned i b (before i b e)) in
            record { low = w.low; high = w.high; own = rw (station_other s (update_of o' i).station xs x' l w.low n) w.own })
        | inr b ↦ absurd (n (c.new i b a).0)
      ]
    ]

    last : (i j : ℕ) → i < j → j < length o' → flag_of o' i ≡ false → (update_of o' i).station ≡ (update_of o' j).station → ⊥
    last i j a b e q = elim (cases_lt j (length o)) [
      | inl k ↦ z.last i j a k (before i (omega arith) e) (sym (station_kept i (omega arith)) ∙ q ∙ station_kept j k)
      | inr k ↦ (let m : i < length o = omega (arith, c.one) in
          let d : (update_of o i).station ≡ s = sym (station_kept i m) ∙ q ∙ (c.new j k b).0 in
          let w : own_call (station_of xs s).call ≡ i + 1 = rw d at (z.owned i m (before i m e)).own in
          omega (arith, w, (c.new j k b).1))
    ]
