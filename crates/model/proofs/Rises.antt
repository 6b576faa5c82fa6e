-- Rising keeps what is known of the memory.
use Rattle.std.proofs.Common.{◌≡◌, ℕ, pred, ◌≤◌, true, List, ◌∷◌, length, get_or, set, Ok, Err, sym, refl, ap, ◌∙◌, subst, arith}
use Rattle.std.proofs.lemmas.List.{length-set, get_or-set_same}
use Rattle.std.proofs.lemmas.Bool.{lt-ltb}
use Rattle.memory.specs.Model.{Mem, Line, blank_line, settle, fence_line, line_at, early, fenced, with_line, pushed, marked, stored, written_back, push_store, ask, has_line}
use Rattle.memory.proofs.Each.{each_at}
use Rattle.book.specs.Rules.{Rules}
use Rattle.model.specs.Machine.{Machine, with_memory, with_status, left, rising}
use Rattle.model.specs.History.{Moment}
use Rattle.model.specs.History.Moment.{risen}
use Rattle.model.specs.declared.types.Rise.TheVariants as rises
use Rattle.model.specs.declared.types.Status.{Status}
use Rattle.model.specs.declared.types.Status.TheVariants.{Rising, Up, Shut}
use Rattle.model.specs.declared.types.Refusal.TheVariants.{NotRising}
use Rattle.model.proofs.Settling.{stored_none, stored_push, stored_ask}
use Rattle.model.proofs.Lines.{asked_settle}
use Rattle.model.proofs.Logs.{Part}
use Rattle.model.proofs.Memory.{Memory, memory_lines, memory_early, memory_fenced}
use Rattle.model.proofs.Number.{Number, Storing, storing_settle, storing_fenced}
use Rattle.model.proofs.Rest.{up_to_silent, up_to_more}
use Rattle.model.proofs.Runs.{head_at, rest_at, bound, Runs}
use Rattle.model.proofs.Turns.{runs_silent}

-- Line 0 changes

module _ {r L : ℕ} {ps : List Part} {m : Mem} (x : Memory r L ps m) where
  first_changed : (F : Line → Line) → Memory r L ps (with_line m 0 (F (line_at m 0)))
  first_changed F = record {
    head = F x.head;
    rest = x.rest;
    is = ap (λ (xs : List Line). set xs 0 (F (get_or xs 0 blank_line))) x.is;
    eight = x.eight;
    parts = x.parts;
  }

  first_is : (F : Line → Line) (ns : List ℕ) → line_at (early ns (with_line m 0 (F (line_at m 0)))) 0 ≡ settle (get_or ns 0 0) (F (line_at m 0))
  first_is F ns =
      let k = memory_lines x in let e = length-set m.lines 0 (F (line_at m 0)) in
      each_at settle ns (set m.lines 0 (F (line_at m 0))) 0 (omega arith)
      ∙ ap (settle (get_or ns 0 0)) (get_or-set_same m.lines 0 (F (line_at m 0)) blank_line (omega arith))

  first_there : has_line m 0 ≡ true
  first_there = lt-ltb 0 (length m.lines) (let k = memory_lines x in omega arith)

  stored_first : (ns : List ℕ) (v : ℕ) → stored ns m 0 0 v ≡ early ns (pushed m 0 0 v)
  stored_first ns v = rw first_there

  written_first : (ns : List ℕ) → written_back ns m 0 ≡ early ns (marked m 0)
  written_first ns = rw first_there

module _ {S : Type 0} (R : Rules S) (h : List Moment) (r : Machine S) (z : Runs R h r) where
  -- status and memory change
  risen_to : (st : Status) (m : Mem) → Memory r.number z.L z.ps m → rest_at st z.ps → head_at st r.number (line_at m 0) →
      bound r.status r.number ≤ bound st r.number → Runs R (risen (Ok tt) ∷ h) (with_memory (with_status r st) m)
  risen_to st m x a d l = record {
    L = z.L;
    ps = z.ps;
    count = z.count;
    low = z.low;
    high = z.high;
    some = z.some;
    few = z.few;
    counts = z.counts;
    memory = x;
    rests = a;
    head = d;
    covers = z.covers;
    used = z.used;
    matches = z.matches;
    flags = z.flags;
    proper = λ i k. (let g = z.proper i k in record { sort = g.sort; run = omega (arith, g.run); call = g.call });
    up_to = up_to_more _ _ _ l (up_to_silent h _ (risen (Ok tt)) tt z.up_to);
  }

  module _ (ns : List ℕ) where
    -- line 0
    abbrev first : Line
    first = line_at r.memory 0

    head_was : (x : Status) → r.status ≡ x → head_at x r.number first
    head_was x e = subst (λ (k : Status). head_at k r.number first) e z.head

    rests_were : (x : Status) → r.status ≡ x → rest_at x z.ps
    rests_were x e = subst (λ (k : Status). rest_at k z.ps) e z.rests

    abbrev Memories : Mem → Type 0
    Memories = Memory r.number z.L z.ps

    -- a rise, by the status before it
    pub runs_rise : (x : Status) → r.status ≡ x → Runs R (risen (rising r x).answer ∷ h) (left (rising r x) ns)
    runs_rise (Shut q) e = absurd (rests_were (Shut q) e)
    runs_rise Up e = runs_silent R h r (risen (Err NotRising)) tt refl z
    runs_rise (Rising rises.Store) e =
        risen_to (Rising rises.WriteBack) _ (subst Memories (sym is) (memory_early (first_changed z.memory F) ns))
        (rests_were (Rising rises.Store) e) head
        (omega (arith, ap (λ (k : Status). bound k r.number) e))
      where
        F : Line → Line
        F x = push_store x 0 r.number

        is : stored ns r.memory 0 0 r.number ≡ early ns (pushed r.memory 0 0 r.number)
        is = stored_first z.memory ns r.number

        was : Number (pred r.number) first
        was = head_was (Rising rises.Store) e

        head : Storing r.number (line_at (stored ns r.memory 0 0 r.number) 0)
        head =
            subst (Storing r.number) (sym (ap (λ (m : Mem). line_at m 0) is ∙ first_is z.memory (λ (x : Line). push_store x 0 r.number) ns))
            (storing_settle r.number (get_or ns 0 0) _
            (record { old = first.settled; made = stored_push (stored_none first was.quiet) 0 r.number; is = was.is; some = was.some }))
    runs_rise (Rising rises.WriteBack) e =
        risen_to (Rising rises.Fence) _ (subst Memories (sym is) (memory_early (first_changed z.memory ask) ns))
        (rests_were (Rising rises.WriteBack) e) head
        (omega (arith, ap (λ (k : Status). bound k r.number) e))
      where
        is : written_back ns r.memory 0 ≡ early ns (marked r.memory 0)
        is = written_first z.memory ns

        was : Storing r.number first
        was = head_was (Rising rises.WriteBack) e

        head : head_at (Rising rises.Fence) r.number (line_at (written_back ns r.memory 0) 0)
        head =
            subst (λ (x : Line). head_at (Rising rises.Fence) r.number x) (sym (ap (λ (m : Mem). line_at m 0) is ∙ first_is z.memory ask ns)) (
              storing_settle r.number (get_or ns 0 0) _ (record { old = was.old; made = stored_ask was.made; is = was.is; some = was.some }),
              asked_settle (ask first) (get_or ns 0 0) refl,
            )
    runs_rise (Rising rises.Fence) e = risen_to Up _ (memory_fenced z.memory ns) tt head (omega (arith, low))
      where
        low : bound r.status r.number ≡ pred r.number
        low = ap (λ (k : Status). bound k r.number) e

        was : Storing r.number first × (first.asked ≡ length first.pending)
        was = head_was (Rising rises.Fence) e

        head : Number r.number (line_at (fenced ns r.memory) 0)
        head =
            subst (Number r.number) (sym (each_at fence_line ns r.memory.lines 0 (let k = memory_lines z.memory in omega arith)))
            (storing_fenced r.number (get_or ns 0 0) first was.0 was.1)
