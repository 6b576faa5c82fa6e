-- A memory: the line of the run number, and the eight logs.
use Rattle.std.proofs.Common.{◌≡◌, ℕ, suc, pred, ◌+◌, ◌-◌, ◌*◌, ◌/◌, ◌<◌, ◌≤◌, List, [], ◌∷◌, map, length, get_or, drop, set, replicate, Some, None, sym, refl, ap, ◌∙◌, ap₂, arith}
use Rattle.std.proofs.lemmas.List.{length-set}
use Rattle.memory.specs.Model.{Mem, Line, blank, blank_line, written, words_of, each, settle, fence_line, cut_line, early, fenced, cut, with_line, line_at}
use Rattle.memory.specs.declared.types.Store.{Store}
use Rattle.model.specs.Journal.{station_count, Entry, used_lines, logs, log_length}
use Rattle.model.proofs.Reading.{Target}
use Rattle.model.proofs.Lines.{settled_lines, Quiet}
use Rattle.model.proofs.Logs.{Part, no_part, beginning, with_entry, Holds, Parts, stands_of, AllRest, parts_length, parts_blank, parts_early, parts_fenced, Afters, afters_rest, afters_length, parts_cut, rested, rested_length, parts_idle, parts_later, parts_quiet, parts_change, parts_begin, parts_written, reading, parts_read, logs_are}

-- the logs of L lines each are as the parts say, for run r
pub record Memory (r L : ℕ) (ps : List Part) (m : Mem) : Type 0 where
  pub head : Line
  pub rest : List Line
  pub is : m.lines ≡ head ∷ rest
  pub eight : length ps ≡ station_count
  pub parts : Parts r L 1 ps rest

-- how many lines there are, and how many a log has
pub memory_lines : {r L : ℕ} {ps : List Part} {m : Mem} → Memory r L ps m → length m.lines ≡ 1 + station_count * L
memory_lines {L} x = ap length x.is ∙ ap suc (parts_length x.parts ∙ ap (λ (i : ℕ). i * L) x.eight) ∙ omega arith

pub memory_length : {r L : ℕ} {ps : List Part} {m : Mem} → Memory r L ps m → log_length m ≡ L
memory_length {L} x = ap (λ (i : ℕ). (i - 1) / station_count) (memory_lines x) ∙ omega arith

-- a blank memory
pub memory_blank : (L : ℕ) → Memory 1 L (replicate station_count no_part) (blank (1 + station_count * L))
memory_blank L =
    let e : 1 + 8 * L ≡ suc (8 * L) = omega arith in
    record {
      head = blank_line;
      rest = replicate (8 * L) blank_line;
      is = ap (λ (k : ℕ). replicate k blank_line) e;
      eight = refl;
      parts = parts_blank L 8 1;
    }

-- What is done to all lines

each_cons : (f : ℕ → Line → Line) (ns : List ℕ) (x : Line) (xs : List Line) → each f ns (x ∷ xs) ≡ f (get_or ns 0 0) x ∷ each f (drop 1 ns) xs
each_cons f [] x xs = refl
each_cons f (n ∷ ns) x xs = refl

memory_each : {r run L fences : ℕ} {ps qs : List Part} {m : Mem} (f : ℕ → Line → Line) (ns : List ℕ) (x : Memory r L ps m) →
    length qs ≡ station_count → Parts run L 1 qs (each f (drop 1 ns) x.rest) →
    Memory run L qs (record { lines = each f ns m.lines; fences = fences })
memory_each f ns x e ps = record { head = _; rest = _; is = ap (each f ns) x.is ∙ each_cons f ns x.head x.rest; eight = e; parts = ps }

pub memory_early : {r L : ℕ} {ps : List Part} {m : Mem} → Memory r L ps m → (ns : List ℕ) → Memory r L ps (early ns m)
memory_early x ns = memory_each settle ns x x.eight (parts_early x.parts _)

pub memory_fenced : {r L : ℕ} {ps : List Part} {m : Mem} → Memory r L ps m → (ns : List ℕ) → Memory r L ps (fenced ns m)
memory_fenced x ns = memory_each fence_line ns x x.eight (parts_fenced x.parts _)

-- a cut at rest: a run that has not risen leaves no mark of its number
pub memory_idle : {r L : ℕ} {ps : List Part} {m : Mem} → Memory r L ps m → AllRest ps → (ns : List ℕ) → Memory r L (rested ps) (cut ns m)
memory_idle {ps} x a ns = memory_each cut_line ns x (rested_length ps ∙ x.eight) (parts_idle x.parts a _)

-- the same for the next run
pub memory_later : {r L : ℕ} {ps : List Part} {m : Mem} → Memory r L ps m → AllRest ps → Memory (r + 1) L ps m
memory_later x a = record { head = x.head; rest = x.rest; is = x.is; eight = x.eight; parts = parts_later x.parts a }

-- What station s does to its own log

-- it changes line k
pub memory_change : {r L : ℕ} {ps : List Part} {m : Mem} → Memory r L ps m → (s k : ℕ) (F : Line → Line) (q : Part) → 1 ≤ s →
    s ≤ station_count → k < L →
    ((log : List Line) → length log ≡ L → Holds s r (get_or ps (pred s) no_part) log → Holds s r q (set log k (F (get_or log k blank_line)))) →
    (l : ℕ) → l ≡ 1 + pred s * L + k → Memory r L (set ps (pred s) q) (with_line m l (F (line_at m l)))
memory_change {r} {L} {ps} {m} x s k F q low high hk g l e =
    let n = x.eight in
    let i = pred s * L + k in
    let j : l ≡ suc (pred s * L + k) = omega arith in
    record {
      head = x.head;
      rest = set x.rest i (F (get_or x.rest i blank_line));
      is = ap₂ (λ (a : ℕ) (xs : List Line). set xs a (F (get_or xs a blank_line))) j x.is;
      eight = length-set ps (pred s) q ∙ x.eight;
      parts = parts_change x.parts s (pred s) k blank_line F q (omega arith) (omega arith) hk g;
    }

-- it begins an entry
pub memory_begin : {r L : ℕ} {ps : List Part} {m : Mem} → Memory r L ps m → (s : ℕ) (f : Entry) → 1 ≤ s → (get_or ps (pred s) no_part).begun ≡ None →
    Target s r f → used_lines (get_or ps (pred s) no_part).standing + length f.lines ≤ L →
    Memory r L (set ps (pred s) (beginning (get_or ps (pred s) no_part) f)) m
memory_begin {ps} x s f low e w fit = record {
  head = x.head;
  rest = x.rest;
  is = x.is;
  eight = length-set ps (pred s) _ ∙ x.eight;
  parts = parts_begin x.parts s (pred s) f (omega arith) e w fit;
}

-- it fences, with all stages made
pub memory_written : {r L : ℕ} {ps : List Part} {m : Mem} → Memory r L ps m → (s : ℕ) (f : Entry) → (get_or ps (pred s) no_part).begun ≡ Some f →
    10 * length f.lines ≤ (get_or ps (pred s) no_part).stage → (ns : List ℕ) →
    Memory r L (set ps (pred s) (with_entry (get_or ps (pred s) no_part) f)) (fenced ns m)
memory_written {ps} x s f e h ns = memory_each fence_line ns x (length-set ps (pred s) _ ∙ x.eight) (parts_written x.parts (pred s) f e h _)

-- What reading finds

quiet_words : (xs : List Line) → Quiet xs → map words_of xs ≡ settled_lines xs
quiet_words [] q = refl
quiet_words (x ∷ xs) q =
    ap₂ (λ (l : List ℕ) (ls : List (List ℕ)). l ∷ ls) (ap (λ (ss : List Store). written x.settled ss) q.0) (quiet_words xs q.1)

-- at rest the entries that stand are found
pub memory_reads : {r L : ℕ} {ps : List Part} {m : Mem} → Memory r L ps m → AllRest ps → logs m ≡ stands_of ps
memory_reads {r} {L} {ps} {m} x a =
    logs_are m
    ∙ ap₂ (λ (i : ℕ) (ls : List (List ℕ)). reading i 1 station_count ls) (memory_length x)
    (ap (λ (ys : List Line). drop 1 (map words_of ys)) x.is ∙ quiet_words x.rest (parts_quiet x.parts a))
    ∙ ap (λ (n : ℕ). reading L 1 n (settled_lines x.rest)) (sym x.eight)
    ∙ parts_read x.parts a

-- after a cut each log has its entries, or one more, the one that was being written
pub memory_cut : {r L : ℕ} {ps : List Part} {m : Mem} → Memory r L ps m → (ns : List ℕ) →
    (qs : List Part) × Afters ps qs × Memory (r + 1) L qs (cut ns m) × (logs (cut ns m) ≡ stands_of qs)
memory_cut {r} {L} {ps} {m} x ns =
    let c = parts_cut x.parts (drop 1 ns) in
    let y : Memory (r + 1) L c.0 (cut ns m) = memory_each cut_line ns x (afters_length c.1 ∙ x.eight) c.2 in
    (c.0, c.1, y, memory_reads y (afters_rest c.1))
