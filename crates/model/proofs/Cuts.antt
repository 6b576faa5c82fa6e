-- From a run to a memory at rest by a cut, and back by a start.
use Rattle.std.proofs.Common.{◌≡◌, ℕ, zero, suc, pred, ◌+◌, ◌≤◌, true, ◌⊎◌, List, [], ◌∷◌, map, length, get_or, take, None, Ok, sym, refl, ap, ◌∙◌, subst, subst₂, inl, inr, arith}
use Rattle.std.proofs.lemmas.List.{length-take, get_or-take, length-map}
use Rattle.memory.specs.Model as memory
use Rattle.memory.specs.Model.{Mem, cut_line, line_at, loaded}
use Rattle.memory.proofs.Each.{each_at}
use Rattle.book.specs.Rules.{Rules}
use Rattle.model.specs.Journal.{min_log, max_log, max_run, Entry, used_lines, logs, tops, last_place}
use Rattle.model.specs.Machine as machine
use Rattle.model.specs.Machine.{Machine, no_update, found, start_question, idle_station, fresh_station, started_by, flag_at}
use Rattle.model.specs.History.{Moment, Ledger, ledger, updates}
use Rattle.model.specs.History.Moment.{started, cut}
use Rattle.model.specs.declared.types.Update.{Update}
use Rattle.model.specs.declared.types.Node.{Node}
use Rattle.model.specs.declared.types.Rise.TheVariants as rises
use Rattle.model.specs.declared.types.Status.{Status}
use Rattle.model.specs.declared.types.Status.TheVariants.{Rising, Up, Shut}
use Rattle.model.proofs.Logs.{Part, no_part, stands_of, AllRest, afters_rest, rested, rested_stands, rested_rest}
use Rattle.model.proofs.Memory.{Memory, memory_lines, memory_reads, memory_idle, memory_later, memory_cut}
use Rattle.model.proofs.Finding.{Covers, Reach, tops_reach, afters_more, cut_found}
use Rattle.model.proofs.Cover.{covers_after, covers_same, covers_take, parts_within, found_length, reach_top}
use Rattle.model.proofs.Number.{Number, number_loaded, number_cut, storing_cut}
use Rattle.model.proofs.Replies.{update_same}
use Rattle.model.proofs.Live.{Live}
use Rattle.model.proofs.Final.{Cut, map_flagged, all_idle}
use Rattle.model.proofs.Rest.{Proper, AllProper, RunsUpTo, Silent, up_to_silent, up_to_more, Rest, rest_accepted}
use Rattle.model.proofs.Runs.{head_at, rest_at, bound, Runs}

-- the moment of a cut of m
abbrev cut_of : List ℕ → Mem → Moment
cut_of ns m = cut (length (found (memory.cut ns m)))

-- A cut

-- what a cut leaves is at rest, where line 0 holds n and the entries tell the updates
cut_rest : {S : Type 0} (R : Rules S) (h : List Moment) (m : Mem) (ns : List ℕ) (n L : ℕ) (qs : List Part) → min_log ≤ L → L ≤ max_log →
    Memory (n + 1) L qs (memory.cut ns m) → AllRest qs → 1 ≤ length m.lines → Number n (cut_line (get_or ns 0 0) (line_at m 0)) →
    Covers (updates h) qs → AllProper R n (updates h) → RunsUpTo n h → n ≤ (ledger h).run → (ledger h).run ≤ max_run →
    Rest R (cut_of ns m ∷ h) (memory.cut ns m)
cut_rest R h m ns n L qs low high x a some head c g b u f = record {
  number = n;
  L = L;
  ps = qs;
  low = low;
  high = high;
  memory = x;
  rests = a;
  head = subst (Number n) (sym (each_at cut_line ns m.lines 0 some)) head;
  covers = covers_take (updates h) qs k (omega (arith, size)) (parts_within x.parts) a c;
  proper = λ i l. (let e = length-take k (updates h) in
      subst (Proper R n) (sym (get_or-take k (updates h) i no_update (omega arith))) (g i (omega arith)));
  up_to = up_to_silent h n (cut k) tt b;
  under = u;
  few = f;
}
  where
    k : ℕ
    k = length (found (memory.cut ns m))

    size : length (found (memory.cut ns m)) ≡ tops 0 (stands_of qs)
    size = found_length (logs (memory.cut ns m)) 1 (last_place (memory.cut ns m)) ∙ ap (tops 0) (memory_reads x a)

-- a cut of a memory at rest
pub rest_cut : {S : Type 0} (R : Rules S) (h : List Moment) (m : Mem) (ns : List ℕ) → Rest R h m → Rest R (cut_of ns m ∷ h) (memory.cut ns m)
rest_cut R h m ns z =
    cut_rest R h m ns z.number z.L (rested z.ps) z.low z.high (memory_idle z.memory z.rests ns) (rested_rest z.ps)
    (let k = memory_lines z.memory in omega arith) (number_cut z.number (get_or ns 0 0) (line_at m 0) z.head)
    (covers_same (updates h) z.ps (rested z.ps) (rested_stands z.ps) (rested_rest z.ps) z.covers)
    z.proper z.up_to z.under z.few

-- it leaves the logs as they are
pub rest_cut_logs : {S : Type 0} (R : Rules S) (h : List Moment) (m : Mem) (ns : List ℕ) → Rest R h m → logs (memory.cut ns m) ≡ logs m
rest_cut_logs R h m ns z =
    memory_reads (memory_idle z.memory z.rests ns) (rested_rest z.ps) ∙ rested_stands z.ps ∙ sym (memory_reads z.memory z.rests)

-- a cut of a run
module _ {S : Type 0} (R : Rules S) (h : List Moment) (r : Machine S) (ns : List ℕ) (z : Runs R h r) (live : Live R h r) where
  -- what the cut leaves is at rest
  abbrev Rests : Type 0
  Rests = Rest R (cut_of ns r.memory ∷ h) (memory.cut ns r.memory)

  -- line 0 holds n after the cut
  abbrev CutNumber : ℕ → Type 0
  CutNumber n = Number n (cut_line (get_or ns 0 0) (line_at r.memory 0))

  us_covers : Covers (updates h) z.ps
  us_covers = subst (λ (us : List Update). Covers us z.ps) live.sound.same z.covers

  us_proper : AllProper R (bound r.status r.number) (updates h)
  us_proper i l =
      let n = length-map r.order (λ (y : Node). y.update) in let k = ap length live.sound.same in
      subst (Proper R (bound r.status r.number)) (sym (update_same r.order (updates h) i live.sound.same (omega arith)))
      (z.proper i (omega arith))

  proper_up : (n : ℕ) → bound r.status r.number ≤ n → AllProper R n (updates h)
  proper_up n k i l = let g = us_proper i l in record { sort = g.sort; run = omega (arith, g.run); call = g.call }

  some_lines : 1 ≤ length r.memory.lines
  some_lines = let k = memory_lines z.memory in omega arith

  head_was : (x : Status) → r.status ≡ x → head_at x r.number (line_at r.memory 0)
  head_was x e = subst (λ (k : Status). head_at k r.number (line_at r.memory 0)) e z.head

  rests_were : (x : Status) → r.status ≡ x → rest_at x z.ps
  rests_were x e = subst (λ (k : Status). rest_at k z.ps) e z.rests

  cut_up : r.status ≡ Up → Rests
  cut_up e =
      let y = memory_cut z.memory ns in
      let q = ap (λ (k : Status). bound k r.number) e in
      cut_rest R h r.memory ns r.number z.L y.0 z.low z.high y.2 (afters_rest y.1) some_lines
      (number_cut r.number (get_or ns 0 0) (line_at r.memory 0) (head_was Up e)) (covers_after (updates h) us_covers y.1 (afters_rest y.1))
      (subst (λ (n : ℕ). AllProper R n (updates h)) q us_proper) (subst (λ (n : ℕ). RunsUpTo n h) q z.up_to)
      (omega (arith, live.run)) (omega (arith, live.run, z.few))

  -- a cut of a run that was not up: line 0 holds the number before, or this run's
  idle_covers : AllRest z.ps → Covers (updates h) (rested z.ps)
  idle_covers a = covers_same (updates h) z.ps (rested z.ps) (rested_stands z.ps) (rested_rest z.ps) us_covers

  cut_old : bound r.status r.number ≡ pred r.number → AllRest z.ps → CutNumber (pred r.number) → Rests
  cut_old q a k =
      let n : r.number ≡ pred r.number + 1 = omega (arith, z.some) in
      cut_rest R h r.memory ns (pred r.number) z.L (rested z.ps) z.low z.high
      (subst (λ (i : ℕ). Memory i z.L (rested z.ps) (memory.cut ns r.memory)) n (memory_idle z.memory a ns))
      (rested_rest z.ps) some_lines k
      (idle_covers a) (subst (λ (n : ℕ). AllProper R n (updates h)) q us_proper) (subst (λ (n : ℕ). RunsUpTo n h) q z.up_to)
      (omega (arith, live.run)) (omega (arith, live.run, z.few))

  cut_new : bound r.status r.number ≡ pred r.number → AllRest z.ps → CutNumber r.number → Rests
  cut_new q a k =
      cut_rest R h r.memory ns r.number z.L (rested z.ps) z.low z.high
      (memory_later (memory_idle z.memory a ns) (rested_rest z.ps)) (rested_rest z.ps) some_lines k
      (idle_covers a) (proper_up r.number (omega arith)) (up_to_more h _ r.number (omega arith) z.up_to)
      (omega (arith, live.run)) (omega (arith, live.run, z.few))

  cut_either : bound r.status r.number ≡ pred r.number → AllRest z.ps → CutNumber (pred r.number) ⊎ CutNumber r.number → Rests
  cut_either q a (inl k) = cut_old q a k
  cut_either q a (inr k) = cut_new q a k

  -- what a cut of a run leaves is at rest
  pub runs_cut : (x : Status) → r.status ≡ x → Rests
  runs_cut (Shut q) e = absurd (rests_were (Shut q) e)
  runs_cut Up e = cut_up e
  runs_cut (Rising rises.Store) e =
      cut_old (ap (λ (k : Status). bound k r.number) e) (rests_were (Rising rises.Store) e)
      (number_cut (pred r.number) (get_or ns 0 0) (line_at r.memory 0) (head_was (Rising rises.Store) e))
  runs_cut (Rising rises.WriteBack) e =
      cut_either (ap (λ (k : Status). bound k r.number) e) (rests_were (Rising rises.WriteBack) e)
      (storing_cut r.number (get_or ns 0 0) (line_at r.memory 0) (head_was (Rising rises.WriteBack) e))
  runs_cut (Rising rises.Fence) e =
      cut_either (ap (λ (k : Status). bound k r.number) e) (rests_were (Rising rises.Fence) e)
      (storing_cut r.number (get_or ns 0 0) (line_at r.memory 0) (head_was (Rising rises.Fence) e).0)

  -- a cut leaves a first part of the updates, with all up to any flag
  pub runs_cuts : Cut h r (found (memory.cut ns r.memory))
  runs_cuts = record {
    same = same;
    less = (let k = ap length same in let e = length-take (length (found left)) (updates h) in omega arith);
    keeps = keeps;
  }
    where
      left : Mem
      left = memory.cut ns r.memory

      size : length (found left) ≡ last_place left
      size = found_length (logs left) 1 (last_place left)

      same : found left ≡ take (length (found left)) (updates h)
      same = cut_found (updates h) z.memory us_covers ns ∙ ap (λ (k : ℕ). take k (updates h)) (sym size)

      keeps : (f : ℕ) → f ≤ length r.order → flag_at r.order f ≡ true → f ≤ length (found left)
      keeps zero l e = omega arith
      keeps (suc f) l e =
          let y = memory_cut z.memory ns in
          let k = reach_top (stands_of z.ps) (stands_of y.0) (afters_more y.1) (parts_within y.2.parts) (f + 1)
          (z.flags f (omega arith) e) in
          let t = ap (tops 0) y.3 in
          omega (arith, size)

-- A moment that leaves the memory at rest as it is

pub rest_silent : {S : Type 0} (R : Rules S) (h : List Moment) (m : Mem) (x : Moment) → Silent x → ledger (x ∷ h) ≡ ledger h → Rest R h m →
    Rest R (x ∷ h) m
rest_silent R h m x s e z =
    let u : updates h ≡ updates (x ∷ h) = ap (λ (l : Ledger). l.updates) (sym e) in
    let n : (ledger h).run ≡ (ledger (x ∷ h)).run = ap (λ (l : Ledger). l.run) (sym e) in
    record {
      number = z.number;
      L = z.L;
      ps = z.ps;
      low = z.low;
      high = z.high;
      memory = z.memory;
      rests = z.rests;
      head = z.head;
      covers = subst (λ (us : List Update). Covers us z.ps) u z.covers;
      proper = subst (λ (us : List Update). AllProper R z.number us) u z.proper;
      up_to = up_to_silent h z.number x s z.up_to;
      under = subst (λ (k : ℕ). z.number ≤ k) n z.under;
      few = subst (λ (k : ℕ). k ≤ max_run) n z.few;
    }

-- A start

none_begun : (ps : List Part) (i : ℕ) → AllRest ps → (get_or ps i no_part).begun ≡ None
none_begun [] i a = refl
none_begun (p ∷ ps) zero a = a.0
none_begun (p ∷ ps) (suc i) a = none_begun ps i a.1

fresh_used : (ps : List Part) (i : ℕ) →
    (get_or (map fresh_station (stands_of ps)) i (idle_station 0)).used ≡ used_lines (get_or ps i no_part).standing
fresh_used [] i = refl
fresh_used (p ∷ ps) zero = refl
fresh_used (p ∷ ps) (suc i) = fresh_used ps i

-- the moment of a start that is not refused
abbrev start_of : Mem → Moment
start_of m = started (Ok (record { run = loaded m 0 0 + 1; found = length (map machine.flagged (found m)) }))

-- such a start leaves what is known of a run
pub runs_start : {S : Type 0} (R : Rules S) (h : List Moment) (m : Mem) → Rest R h m → found m ≡ updates h → start_question R m ≡ None →
    Runs R (start_of m ∷ h) (started_by None R m)
runs_start R h m z f e = record {
  L = z.L;
  ps = z.ps;
  count = length (map machine.flagged (found m));
  low = z.low;
  high = z.high;
  some = omega arith;
  few = (let k = rest_accepted R h m z e in omega arith);
  counts = refl;
  memory = subst (λ (k : ℕ). Memory (k + 1) z.L z.ps m) (sym n) z.memory;
  rests = z.rests;
  head = subst (λ (k : ℕ). Number k (line_at m 0)) (sym low) z.head;
  covers = subst (λ (us : List Update). Covers us z.ps) (sym (map_flagged (found m) ∙ f)) z.covers;
  used = λ t a b. ap (λ (fss : List (List Entry)). (get_or (map fresh_station fss) (pred t) (idle_station 0)).used) reads ∙ fresh_used z.ps (pred t);
  matches = λ t a b. rw (all_idle (logs m) (pred t)) (none_begun z.ps (pred t) z.rests);
  flags = λ i l g. (let k = found_length (logs m) 1 (last_place m) in let t = ap (tops 0) reads in λ j a b. reach j a (omega (arith, long)));
  proper = λ i l. subst₂ (λ (k : ℕ) (u : Update). Proper R k u) (sym low)
      (update_same (map machine.flagged (found m)) (updates h) i (map_flagged (found m) ∙ f) l)
      (z.proper i (let k = ap length f in omega (arith, long)));
  up_to = subst (λ (k : ℕ). RunsUpTo k (start_of m ∷ h)) (sym low) (up_to_silent h z.number (start_of m) tt z.up_to);
}
  where
    n : loaded m 0 0 ≡ z.number
    n = number_loaded z.number m z.head

    low : pred (loaded m 0 0 + 1) ≡ z.number
    low = omega (arith, n)

    long : length (map machine.flagged (found m)) ≡ length (found m)
    long = length-map (found m) machine.flagged

    reads : logs m ≡ stands_of z.ps
    reads = memory_reads z.memory z.rests

    reach : Reach (stands_of z.ps) (tops 0 (stands_of z.ps))
    reach = tops_reach (stands_of z.ps) (stands_of z.ps) 0 z.covers.reach (λ i a b. absurd (omega arith))
