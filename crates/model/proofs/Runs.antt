-- What is known of the memory in a run, and that a move of one station keeps it.
use Rattle.std.proofs.Common.{◌≡◌, ℕ, pred, ◌+◌, ◌*◌, ◌<◌, ◌≤◌, true, List, ◌∷◌, length, get_or, Some, None, sym, refl, ap, ◌∙◌, subst, arith}
use Rattle.std.proofs.lemmas.List.{length-map, get_or-map}
use Rattle.memory.specs.Model.{Mem, Line, line_at}
use Rattle.book.specs.Rules.{Rules, is_update}
use Rattle.model.specs.Journal.{station_count, min_log, max_log, max_run, max_lines, Entry, used_lines}
use Rattle.model.specs.Machine.{Machine, no_update, no_node, with_memory, with_state, with_station, with_order}
use Rattle.model.specs.History.{Moment, found_count}
use Rattle.model.specs.declared.types.Update.{Update}
use Rattle.model.specs.declared.types.Node.{Node}
use Rattle.model.specs.declared.types.Phase.{Phase}
use Rattle.model.specs.declared.types.Phase.TheVariants.{Look, Place, Walk, Write, Fence, Flag, Answer}
use Rattle.model.specs.declared.types.Call.{Call}
use Rattle.model.specs.declared.types.Call.TheVariants as calls
use Rattle.model.specs.declared.types.Station.{Station}
use Rattle.model.specs.declared.types.Rise.TheVariants as rises
use Rattle.model.specs.declared.types.Status.{Status}
use Rattle.model.specs.declared.types.Status.TheVariants.{Rising, Up, Shut}
use Rattle.model.proofs.Logs.{Part, stands_of, no_part, AllRest}
use Rattle.model.proofs.Memory.{Memory}
use Rattle.model.proofs.Finding.{Covers, Reach, More, reach_more}
use Rattle.model.proofs.Target.{target_entry, target_same}
use Rattle.model.proofs.Step.{order_at}
use Rattle.model.proofs.Cover.{more_same, covers_longer}
use Rattle.model.proofs.Number.{Number, Storing}
use Rattle.model.proofs.Sound.{Grown, grown_same, station_of, each_station, updates_of, update_of, flag_of, stand_phase, stand_call}
use Rattle.model.proofs.Live.{Live}
use Rattle.model.proofs.Rest.{Proper, RunsUpTo}

-- How the call of a station and its log go together

-- by the run number num, the order o, the entries G that stand, the lines L of a log, the c updates that the start found, and the
-- station's u used lines and its log p
abbrev pub match_phase : ℕ → List Node → List (List Entry) → ℕ → ℕ → ℕ → Part → Phase → Type 0
match_phase num o G L c u p Look = (p.begun ≡ None) × (u + max_lines ≤ L)
match_phase num o G L c u p (Place n) = (p.begun ≡ None) × (u + max_lines ≤ L)
match_phase num o G L c u p (Walk q k) = (p.begun ≡ None) × (u + max_lines ≤ L) × (c ≤ q)
match_phase num o G L c u p (Write own m z) = (p.begun ≡ Some (target_entry num (order_at o) own m)) × (p.stage ≡ z) × (u + m ≤ L)
match_phase num o G L c u p (Fence own m) = (p.begun ≡ Some (target_entry num (order_at o) own m)) × (10 * m ≤ p.stage)
match_phase num o G L c u p (Flag own) = (p.begun ≡ None) × Reach G own
match_phase num o G L c u p (Answer q) = p.begun ≡ None

abbrev pub match_call : {S : Type 0} → Rules S → ℕ → List Node → List (List Entry) → ℕ → ℕ → ℕ → Part → Call → Type 0
match_call R num o G L c u p calls.Idle = p.begun ≡ None
match_call R num o G L c u p (calls.Update op x) = match_phase num o G L c u p x × (is_update (R.sort op) ≡ true)
match_call R num o G L c u p (calls.Query op x) = p.begun ≡ None

-- By the status

-- line 0
abbrev pub head_at : Status → ℕ → Line → Type 0
head_at (Rising rises.Store) num x = Number (pred num) x
head_at (Rising rises.WriteBack) num x = Storing num x
head_at (Rising rises.Fence) num x = Storing num x × (x.asked ≡ length x.pending)
head_at Up num x = Number num x
head_at (Shut q) num x = ⊥

-- a run that is not up writes no entry
abbrev pub rest_at : Status → List Part → Type 0
rest_at (Rising x) ps = AllRest ps
rest_at Up ps = Unit {0}
rest_at (Shut q) ps = ⊥

-- the run number that a cut keeps at least
abbrev pub bound : Status → ℕ → ℕ
bound (Rising x) num = pred num
bound Up num = num
bound (Shut q) num = num

-- In a run

-- what is known of the memory of a run that is not shut
pub record Runs {S : Type 0} (R : Rules S) (h : List Moment) (r : Machine S) : Type 0 where
  -- the lines of a log, the logs, and how many updates the start found
  pub L : ℕ
  pub ps : List Part
  pub count : ℕ
  pub low : min_log ≤ L
  pub high : L ≤ max_log
  pub some : 1 ≤ r.number
  pub few : r.number ≤ max_run
  pub counts : found_count h ≡ count
  pub memory : Memory r.number L ps r.memory
  pub rests : rest_at r.status ps
  pub head : head_at r.status r.number (line_at r.memory 0)
  pub covers : Covers (updates_of r.order) ps
  pub used : (t : ℕ) → 1 ≤ t → t ≤ station_count → (station_of r.stations t).used ≡ used_lines (get_or ps (pred t) no_part).standing
  pub matches : (t : ℕ) → 1 ≤ t → t ≤ station_count →
      match_call R r.number r.order (stands_of ps) L count (station_of r.stations t).used (get_or ps (pred t) no_part)
      (station_of r.stations t).call
  -- a flag is set only where the entries reach
  pub flags : (i : ℕ) → i < length r.order → flag_of r.order i ≡ true → Reach (stands_of ps) (i + 1)
  pub proper : (i : ℕ) → i < length r.order → Proper R (bound r.status r.number) (update_of r.order i)
  pub up_to : RunsUpTo (bound r.status r.number) h

-- A move of station s

-- it makes o', x', m' and ps' of the order, the station, the memory and the logs
pub record Move {S : Type 0} (R : Rules S) (r : Machine S) (s : ℕ) (o' : List Node) (x' : Station) (m' : Mem)
    (count L : ℕ) (ps ps' : List Part) : Type 0 where
  pub grown : Grown s r.order o'
  pub memory : Memory r.number L ps' m'
  pub head : Number r.number (line_at m' 0)
  pub covers : Covers (updates_of o') ps'
  pub more : More (stands_of ps) (stands_of ps')
  pub others : (t : ℕ) → 1 ≤ t → (t ≡ s → ⊥) → get_or ps' (pred t) no_part ≡ get_or ps (pred t) no_part
  pub used : x'.used ≡ used_lines (get_or ps' (pred s) no_part).standing
  pub matches : match_call R r.number o' (stands_of ps') L count x'.used (get_or ps' (pred s) no_part) x'.call
  pub flags : (i : ℕ) → i < length o' → flag_of o' i ≡ true → Reach (stands_of ps') (i + 1)
  pub proper : (i : ℕ) → i < length o' → Proper R r.number (update_of o' i)

-- what the other stations see

entry_same : (num s : ℕ) (o o' : List Node) (own m : ℕ) → Grown s o o' → m ≤ own → own ≤ length o →
    target_entry num (order_at o) own m ≡ target_entry num (order_at o') own m
entry_same num s o o' own m gr a b =
    ap (λ (ls : List (List ℕ)). record { place = own; lines = ls })
    (target_same num (order_at o) (order_at o') own m 0 m (omega arith) (λ i low high. sym (gr.keeps (pred i) (omega arith))))

module _ (num s : ℕ) (o o' : List Node) (G H : List (List Entry)) (L c u : ℕ) (p : Part) (gr : Grown s o o') (mo : More G H) where
  match_phase_other : (v : Update) (x : Phase) → stand_phase o v x → match_phase num o G L c u p x → match_phase num o' H L c u p x
  match_phase_other v Look t k = k
  match_phase_other v (Place n) t k = k
  match_phase_other v (Walk q n) t k = k
  match_phase_other v (Write own m z) t k = (k.0 ∙ ap Some (entry_same num s o o' own m gr t.3 t.0.high), k.1, k.2)
  match_phase_other v (Fence own m) t k = (k.0 ∙ ap Some (entry_same num s o o' own m gr t.3 t.0.high), k.1)
  match_phase_other v (Flag own) t k = (k.0, reach_more G H mo own k.1)
  match_phase_other v (Answer q) t k = k

  match_other : {S : Type 0} (R : Rules S) (t g : ℕ) (x : Call) → stand_call num t o g x → match_call R num o G L c u p x →
      match_call R num o' H L c u p x
  match_other R t g calls.Idle a b = b
  match_other R t g (calls.Update op x) a b = (match_phase_other _ x a.1 b.0, b.1)
  match_other R t g (calls.Query op x) a b = b

-- such a move keeps what is known
pub runs_move : {S : Type 0} (R : Rules S) (h : List Moment) (r : Machine S) (x : Moment) (s : ℕ) (o' : List Node) (x' : Station) (st : S) (m' : Mem)
    (ps' : List Part) (z : Runs R h r) → Live R h r → r.status ≡ Up → 1 ≤ s → s ≤ station_count → found_count (x ∷ h) ≡ found_count h →
    RunsUpTo r.number (x ∷ h) → Move R r s o' x' m' z.count z.L z.ps ps' →
    Runs R (x ∷ h) (with_memory (with_state (with_station (with_order r o') s x') st) m')
runs_move {S} R h r x s o' x' st m' ps' z live up a b fc be v = record {
  L = z.L;
  ps = ps';
  count = z.count;
  low = z.low;
  high = z.high;
  some = z.some;
  few = z.few;
  counts = fc ∙ z.counts;
  memory = v.memory;
  rests = subst (λ (k : Status). rest_at k ps') (sym up) tt;
  head = subst (λ (k : Status). head_at k r.number (line_at m' 0)) (sym up) v.head;
  covers = v.covers;
  used =
      each_station s r.stations x' (λ t y. y.used ≡ used_lines (get_or ps' (pred t) no_part).standing) a b live.sound.many v.used
      (λ t i j n. rw (v.others t i n) (z.used t i j));
  matches =
      each_station s r.stations x'
      (λ t y. match_call R r.number o' (stands_of ps') z.L z.count y.used (get_or ps' (pred t) no_part) y.call) a b
      live.sound.many v.matches other;
  flags = v.flags;
  proper = subst (λ (k : Status). (i : ℕ) → i < length o' → Proper R (bound k r.number) (update_of o' i)) (sym up) v.proper;
  up_to = subst (λ (k : Status). RunsUpTo (bound k r.number) (x ∷ h)) (sym up) be;
}
  where
    other : (t : ℕ) → 1 ≤ t → t ≤ station_count → (t ≡ s → ⊥) →
        match_call R r.number o' (stands_of ps') z.L z.count (station_of r.stations t).used (get_or ps' (pred t) no_part)
        (station_of r.stations t).call
    other t i j n =
        let y = station_of r.stations t in
        rw (v.others t i n)
        (match_other r.number s r.order o' (stands_of z.ps) (stands_of ps') z.L z.count y.used (get_or z.ps (pred t) no_part)
        v.grown v.more R t y.given y.call (live.sound.stands t i j) (z.matches t i j))

-- the order grows
pub grown_covers : (s : ℕ) (o o' : List Node) (ps : List Part) → Grown s o o' → Covers (updates_of o) ps → Covers (updates_of o') ps
grown_covers s o o' ps gr c =
    let a = length-map o (λ (y : Node). y.update) in let b = length-map o' (λ (y : Node). y.update) in
    covers_longer (updates_of o) (updates_of o') ps (omega (arith, gr.longer))
    (λ i l. get_or-map (λ (y : Node). y.update) o' i no_node no_update (omega (arith, gr.longer)) ∙ gr.keeps i (omega arith)
    ∙ sym (get_or-map (λ (y : Node). y.update) o i no_node no_update (omega arith))) c

module _ {S : Type 0} (R : Rules S) (h : List Moment) (r : Machine S) (z : Runs R h r) (up : r.status ≡ Up) where
  pub up_head : Number r.number (line_at r.memory 0)
  up_head = subst (λ (k : Status). head_at k r.number (line_at r.memory 0)) up z.head

  pub up_proper : (i : ℕ) → i < length r.order → Proper R r.number (update_of r.order i)
  up_proper = subst (λ (k : Status). (i : ℕ) → i < length r.order → Proper R (bound k r.number) (update_of r.order i)) up z.proper

  -- only the station changes
  pub move_stay : (s : ℕ) (x' : Station) → x'.used ≡ used_lines (get_or z.ps (pred s) no_part).standing →
      match_call R r.number r.order (stands_of z.ps) z.L z.count x'.used (get_or z.ps (pred s) no_part) x'.call →
      Move R r s r.order x' r.memory z.count z.L z.ps z.ps
  move_stay s x' u k = record {
    grown = grown_same s r.order;
    memory = z.memory;
    head = up_head;
    covers = z.covers;
    more = more_same (stands_of z.ps);
    others = λ t a n. refl;
    used = u;
    matches = k;
    flags = z.flags;
    proper = up_proper;
  }
