-- The memory that writes through: the words of its caller, eight a line, each store settled at once.
use Rattle.std.specs.Prelude.{ℕ, zero, suc, ◌*◌, ◌/◌, ◌≤◌, List, [], ◌∷◌, length, take, drop}
use Rattle.std.proofs.Common.{arith}
use Rattle.std.specs.List.{AllByRecursion}
use Rattle.std.proofs.lemmas.List.{length-take-le, length-drop}
use Rattle.memory.specs.Model.{Line, Mem, settled_line, WholeLine}

-- the first n lines of words
abbrev pub lines_of : ℕ → List ℕ → List Line
lines_of zero ws = []
lines_of (suc n) ws = settled_line (take 8 ws) ∷ lines_of n (drop 8 ws)

abbrev pub whole_lines : List ℕ → List Line
whole_lines ws = lines_of (length ws / 8) ws

abbrev pub through_mem : List ℕ → ℕ → Mem
through_mem ws n = record { lines = whole_lines ws; fences = n }

-- the words past the last whole line
abbrev pub rest_of : List ℕ → List ℕ
rest_of ws = drop (8 * (length ws / 8)) ws

-- every store settles at once
abbrev pub all_pending : Line → ℕ
all_pending x = length x.pending

lines_whole : (n : ℕ) (ws : List ℕ) → 8 * n ≤ length ws → AllByRecursion WholeLine (lines_of n ws)
lines_whole zero ws h = tt
lines_whole (suc n) ws h = (
  record { eight_words = length-take-le 8 ws (omega arith); stores_within = tt; asked_pending = omega arith },
  lines_whole n (drop 8 ws) (let e = length-drop 8 ws in omega arith),
)

pub through_whole : (ws : List ℕ) → AllByRecursion WholeLine (whole_lines ws)
through_whole ws = lines_whole (length ws / 8) ws (omega arith)
