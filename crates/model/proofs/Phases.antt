-- The moves of an update, phase by phase: what each does to order, logs and memory.
use Rattle.std.proofs.Common.{◌≡◌, ℕ, zero, suc, pred, ◌+◌, ◌-◌, ◌*◌, ◌<◌, ◌≤◌, true, false, List, [], ◌∷◌, ◌++◌, length, get_or, set, Some, None, Option, sym, refl, ap, ◌∙◌, subst, subst₂, inl, inr, arith}
use Rattle.std.specs.List.{AllByRecursion}
use Rattle.std.proofs.lemmas.List.{length-set, length-map, length_push, get_or_append_left, get_or_push, get_or-set_same, get_or-set_other}
use Rattle.std.proofs.lemmas.Bool.{cases_eq, cases_lt, both_ways}
use Rattle.memory.specs.Model.{fenced}
use Rattle.book.specs.declared.types.Op.{Op}
use Rattle.book.specs.Rules.{Rules, is_update}
use Rattle.model.specs.Journal.{station_count, max_lines, Entry, used_lines, holding_lines}
use Rattle.model.specs.Machine.{Machine, touched, no_update, no_node, node_at, flag_at, station_at, with_call, set_flag, write_touch}
use Rattle.model.specs.Machine.Touch.{fence}
use Rattle.model.specs.History.{Moment}
use Rattle.model.specs.declared.types.Update.{Update}
use Rattle.model.specs.declared.types.Node.{Node}
use Rattle.model.specs.declared.types.Phase.{Phase}
use Rattle.model.specs.declared.types.Phase.TheVariants.{Walk, Write, Flag, Answer}
use Rattle.model.specs.declared.types.Call.TheVariants as calls
use Rattle.model.specs.declared.types.Status.TheVariants.{Up}
use Rattle.model.proofs.Reading.{Target}
use Rattle.model.proofs.Logs.{Part, no_part, beginning, at_stage, with_entry, stands_of}
use Rattle.model.proofs.Memory.{memory_lines, memory_begin, memory_written}
use Rattle.model.proofs.Finding.{Agrees, Reach, More, Owns, BegunOwns, reach_more}
use Rattle.model.proofs.Target.{InRange, target_lines, target_entry, target_count, is_target, target_same, target_agrees, target_holds}
use Rattle.model.proofs.Step.{order_at, write_step}
use Rattle.model.proofs.Cover.{more_same, stands_set, begun_at, covers_set, more_grown, reach_grown, covers_grown}
use Rattle.model.proofs.Number.{number_touched, write_behind}
use Rattle.model.proofs.Sound as sound
use Rattle.model.proofs.Sound.{Grown, grown_same, updates_of, update_of, flag_of, Apart}
use Rattle.model.proofs.Moves.{grown_push, grown_flag}
use Rattle.model.proofs.Steps.{walk_done}
use Rattle.model.proofs.Replies.{update_same}
use Rattle.model.proofs.Live.{Live}
use Rattle.model.proofs.Rest.{Proper}
use Rattle.model.proofs.Runs.{match_phase, Runs, Move, grown_covers, up_head, up_proper}

used_push : (fs : List Entry) (f : Entry) → used_lines (fs ++ (f ∷ [])) ≡ used_lines fs + length f.lines
used_push [] f = omega arith
used_push (g ∷ fs) f = let k = used_push fs f in omega arith

module _ {S : Type 0} (R : Rules S) (h : List Moment) (r : Machine S) (s : ℕ) (z : Runs R h r) (live : Live R h r) (up : r.status ≡ Up)
    (low : 1 ≤ s) (high : s ≤ station_count) where
  -- the log of station s
  abbrev own_log : Part
  own_log = get_or z.ps (pred s) no_part

  -- the update that station s makes
  abbrev own_update : Op → Update
  own_update op = record { run = r.number; station = s; call = (station_at r s).given; op = op }

  -- the entry for `own` with m lines
  abbrev entry : ℕ → ℕ → Entry
  entry own m = target_entry r.number (order_at r.order) own m

  eight : length z.ps ≡ station_count
  eight = z.memory.eight

  here : (q : Part) → get_or (set z.ps (pred s) q) (pred s) no_part ≡ q
  here q = get_or-set_same z.ps (pred s) q no_part (omega (arith, eight))

  other : (q : Part) (t : ℕ) → 1 ≤ t → (t ≡ s → ⊥) → get_or (set z.ps (pred s) q) (pred t) no_part ≡ get_or z.ps (pred t) no_part
  other q t b n = get_or-set_other z.ps (pred s) (pred t) q no_part (omega arith)

  some_lines : 1 ≤ length r.memory.lines
  some_lines = let k = memory_lines z.memory in omega arith

  lines_count : (own m : ℕ) → length (entry own m).lines ≡ m
  lines_count own m = target_count r.number (order_at r.order) own m 0 m

  -- the update takes its place
  pub move_place : (op : Op) → own_log.begun ≡ None → (station_at r s).used + max_lines ≤ z.L → is_update (R.sort op) ≡ true →
      1 ≤ (station_at r s).given → (n : ℕ) → length r.order ≡ n →
      Move R r s (r.order ++ (record { update = own_update op; flagged = false } ∷ []))
      (with_call (station_at r s) (calls.Update op (Walk (n + 1) 0)))
      r.memory z.count z.L z.ps z.ps
  move_place op d room so gi n e = record {
    grown = gr;
    memory = z.memory;
    head = up_head R h r z up;
    covers = grown_covers s r.order o' z.ps gr z.covers;
    more = more_same (stands_of z.ps);
    others = λ t a n. refl;
    used = z.used s low high;
    matches = ((d, room, omega (arith, live.inside, z.counts)), so);
    flags = λ i l f. elim (cases_lt i (length r.order)) [
      | inl k ↦ z.flags i k (sym (ap (λ (y : Node). y.flagged) (get_or_append_left r.order (node ∷ []) no_node i k)) ∙ f)
      | inr k ↦ absurd (both_ways _ (ap (λ (y : Node). y.flagged) (last i l k)) f)
    ];
    proper = λ i l. elim (cases_lt i (length r.order)) [
      | inl k ↦ subst (λ (u : Update). Proper R r.number u) (sym (gr.keeps i k)) (up_proper R h r z up i k)
      | inr k ↦ subst (λ (u : Update). Proper R r.number u) (sym (ap (λ (y : Node). y.update) (last i l k)))
          (record { sort = so; run = omega arith; call = gi })
    ];
  }
    where
      node : Node
      node = record { update = own_update op; flagged = false }

      o' : List Node
      o' = r.order ++ (node ∷ [])

      gr : Grown s r.order o'
      gr = grown_push s r.order node

      last : (i : ℕ) → i < length o' → length r.order ≤ i → get_or o' i no_node ≡ node
      last i l k = get_or_push r.order node no_node i (let q = length_push r.order node in omega arith)

  -- The walk has met a flag

  flag_reach : (q : ℕ) → q ≤ length r.order → flag_at r.order q ≡ true → Reach (stands_of z.ps) q
  flag_reach zero l f = λ i a b. absurd (omega arith)
  flag_reach (suc q) l f = λ i a b. z.flags q (omega arith) f i a (omega arith)

  module _ (op : Op) (q u : ℕ) (hold : sound.Holds r.order (q + u) (own_update op) false) (far : Apart r.order q u)
      (f : flag_at r.order q ≡ true) (c : z.count ≤ q) where
    few : (1 ≤ u) × (u ≤ max_lines)
    few = walk_done r.order _ q u hold far f

    -- the places of the entry are this run's
    new : (i : ℕ) → q < i → i ≤ q + u → (update_of r.order (pred i)).run ≡ r.number
    new i a b = live.new (pred i) (omega (arith, z.counts)) (omega (arith, hold.high))

    in_range : (i : ℕ) → q < i → i ≤ q + u → InRange (order_at r.order i)
    in_range i a b =
        let k = live.counts.counted (pred i) (omega (arith, hold.high)) (new i a b) in
        let g = live.counts.given (update_of r.order (pred i)).station k.low k.high in
        let y = up_proper R h r z up (pred i) (omega (arith, hold.high)) in
        (k.low, k.high, y.call, omega (arith, k.count, live.counts.fits))

    abbrev at : ℕ → Update
    at i = get_or (updates_of r.order) (pred i) no_update

    same : (entry (q + u) u).lines ≡ target_lines r.number at (q + u) u 0 u
    same =
        target_same r.number (order_at r.order) at (q + u) u 0 u (omega arith)
        (λ i a b. sym (update_same r.order (updates_of r.order) (pred i) refl (omega (arith, hold.high))))

    own_run : (i : ℕ) → q + u - u < i → i ≤ q + u → (at i).run ≡ r.number
    own_run i a b =
        ap (λ (v : Update). v.run) (update_same r.order (updates_of r.order) (pred i) refl (omega (arith, hold.high))) ∙ new i (omega arith) b

    inside : q + u ≤ length (updates_of r.order)
    inside = let k = length-map r.order (λ (y : Node). y.update) in omega (arith, hold.high)

    owns : Owns (updates_of r.order) (stands_of z.ps) (entry (q + u) u)
    owns = record {
      agrees =
          subst (λ (ls : List (List ℕ)). AllByRecursion (Agrees (updates_of r.order)) ls) (sym same)
          (target_agrees (updates_of r.order) r.number (q + u) u inside own_run 0 u (omega arith) (omega arith));
      before = λ i a b. flag_reach q (omega (arith, hold.high)) f i a (omega (arith, lines_count (q + u) u));
      own = λ i a b. subst (λ (ls : List (List ℕ)). 1 ≤ length (holding_lines i ls)) (sym same)
          (target_holds (updates_of r.order) r.number (q + u) u inside own_run 0 u i
          (omega arith) (omega (arith, lines_count (q + u) u)) (omega arith));
    }

    target : Target s r.number (entry (q + u) u)
    target =
        is_target s r.number (order_at r.order) (q + u) u few.0 few.1 (omega arith) (omega (arith, hold.high, live.counts.fits))
        z.some z.few
        (ap (λ (v : Update). v.station) hold.is) (λ i a b. in_range i (omega arith) b)

    -- the writing begins
    pub move_begin : own_log.begun ≡ None → (station_at r s).used + max_lines ≤ z.L → is_update (R.sort op) ≡ true →
        Move R r s r.order (with_call (station_at r s) (calls.Update op (Write (q + u) u 0))) r.memory z.count z.L z.ps
        (set z.ps (pred s) (beginning own_log (entry (q + u) u)))
    move_begin d room so = record {
      grown = grown_same s r.order;
      memory = memory_begin z.memory s (entry (q + u) u) low d target (omega (arith, lines_count (q + u) u, few, z.used s low high));
      head = up_head R h r z up;
      covers = covers_set (updates_of r.order) z.ps (pred s) log' refl owns z.covers;
      more = subst (λ (G : List (List Entry)). More (stands_of z.ps) G) (sym still) (more_same (stands_of z.ps));
      others = other log';
      used = z.used s low high ∙ sym (ap (λ (w : Part). used_lines w.standing) (here log'));
      matches = rw (here log') ((refl, refl, omega (arith, few)), so);
      flags =
          subst (λ (G : List (List Entry)). (i : ℕ) → i < length r.order → flag_of r.order i ≡ true → Reach G (i + 1)) (sym still) z.flags;
      proper = up_proper R h r z up;
    }
      where
        log' : Part
        log' = beginning own_log (entry (q + u) u)

        still : stands_of (set z.ps (pred s) (beginning own_log (entry (q + u) u))) ≡ stands_of z.ps
        still = stands_set z.ps (pred s) (beginning own_log (entry (q + u) u)) refl

  -- a stage of the writing
  pub move_write : (op : Op) (own m i : ℕ) (x : Phase) (ns : List ℕ) → own_log.begun ≡ Some (entry own m) → own_log.stage ≡ i →
      (station_at r s).used + m ≤ z.L → i < 10 * m → is_update (R.sort op) ≡ true →
      match_phase r.number r.order (stands_of z.ps) z.L z.count (station_at r s).used (at_stage own_log (suc i)) x →
      Move R r s r.order (with_call (station_at r s) (calls.Update op x)) (touched (write_touch r s own m i) ns r.memory)
      z.count z.L z.ps (set z.ps (pred s) (at_stage own_log (suc i)))
  move_write op own m i x ns d st room l so k = record {
    grown = grown_same s r.order;
    memory = write_step r s own m i z.L z.ps z.memory low high (z.used s low high) room d st l ns;
    head = number_touched r.memory (write_touch r s own m i) ns r.number some_lines (write_behind r s own m i) (up_head R h r z up);
    covers =
        covers_set (updates_of r.order) z.ps (pred s) log' refl
        (begun_at (updates_of r.order) (stands_of z.ps) z.ps (pred s) z.covers.begun) z.covers;
    more = subst (λ (G : List (List Entry)). More (stands_of z.ps) G) (sym still) (more_same (stands_of z.ps));
    others = other log';
    used = z.used s low high ∙ sym (ap (λ (w : Part). used_lines w.standing) (here log'));
    matches = (
      subst₂ (λ (G : List (List Entry)) (w : Part). match_phase r.number r.order G z.L z.count (station_at r s).used w x)
          (sym still) (sym (here log')) k,
      so,
    );
    flags = subst (λ (G : List (List Entry)). (i : ℕ) → i < length r.order → flag_of r.order i ≡ true → Reach G (i + 1)) (sym still) z.flags;
    proper = up_proper R h r z up;
  }
    where
      log' : Part
      log' = at_stage own_log (suc i)

      still : stands_of (set z.ps (pred s) (at_stage own_log (suc i))) ≡ stands_of z.ps
      still = stands_set z.ps (pred s) (at_stage own_log (suc i)) refl

  -- the fence
  pub move_fence : (op : Op) (own m : ℕ) (ns : List ℕ) → own_log.begun ≡ Some (entry own m) → 10 * m ≤ own_log.stage → is_update (R.sort op) ≡ true →
      Move R r s r.order (record { call = calls.Update op (Flag own); given = (station_at r s).given; used = (station_at r s).used + m })
      (fenced ns r.memory) z.count z.L z.ps (set z.ps (pred s) (with_entry own_log (entry own m)))
  move_fence op own m ns d st so = record {
    grown = grown_same s r.order;
    memory = memory_written z.memory s f d (omega (arith, lines_count own m)) ns;
    head = number_touched r.memory fence ns r.number some_lines tt (up_head R h r z up);
    covers = covers_grown (updates_of r.order) z.ps (pred s) f (omega (arith, eight)) owns z.covers;
    more = more_grown z.ps (pred s) f;
    others = other log';
    used =
        (let k = z.used s low high in let j = used_push own_log.standing f in omega (arith, lines_count own m))
        ∙ sym (ap (λ (w : Part). used_lines w.standing) (here log'));
    matches = ((ap (λ (w : Part). w.begun) (here log'), reach_grown (updates_of r.order) z.ps (pred s) f (omega (arith, eight)) owns), so);
    flags = λ i l e. reach_more (stands_of z.ps) (stands_of (set z.ps (pred s) log')) (more_grown z.ps (pred s) f) (i + 1) (z.flags i l e);
    proper = up_proper R h r z up;
  }
    where
      f : Entry
      f = entry own m

      log' : Part
      log' = with_entry own_log (entry own m)

      owns : Owns (updates_of r.order) (stands_of z.ps) (entry own m)
      owns =
          subst (λ (e : Option Entry). BegunOwns (updates_of r.order) (stands_of z.ps) e) d
          (begun_at (updates_of r.order) (stands_of z.ps) z.ps (pred s) z.covers.begun)

  -- the flag
  pub move_flag : (op : Op) (own : ℕ) → sound.Holds r.order own (own_update op) false → own_log.begun ≡ None → Reach (stands_of z.ps) own →
      is_update (R.sort op) ≡ true →
      Move R r s (set_flag r.order own) (with_call (station_at r s) (calls.Update op (Answer own))) r.memory z.count z.L z.ps z.ps
  move_flag op own hold d re so = record {
    grown = gr;
    memory = z.memory;
    head = up_head R h r z up;
    covers = grown_covers s r.order (set_flag r.order own) z.ps gr z.covers;
    more = more_same (stands_of z.ps);
    others = λ t a n. refl;
    used = z.used s low high;
    matches = (d, so);
    flags = λ i l f. elim (cases_eq i (pred own)) [
      | inl e ↦ (λ j a b. re j a (omega (arith, hold.low)))
      | inr n ↦ z.flags i (omega (arith, size)) (sym (ap (λ (y : Node). y.flagged) (get_or-set_other r.order (pred own) i node no_node n)) ∙ f)
    ];
    proper = λ i l. subst (λ (u : Update). Proper R r.number u) (sym (gr.keeps i (omega (arith, size))))
        (up_proper R h r z up i (omega (arith, size)));
  }
    where
      node : Node
      node = record { update = (node_at r.order own).update; flagged = true }

      gr : Grown s r.order (set_flag r.order own)
      gr = grown_flag r.number s (station_at r s).given own op r.order hold

      size : length (set_flag r.order own) ≡ length r.order
      size = length-set r.order (pred own) (record { update = (node_at r.order own).update; flagged = true })
