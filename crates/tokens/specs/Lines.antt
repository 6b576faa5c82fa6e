-- The lines of an input: one ends at byte 10 or with the input, and nothing behind the last byte 10 is no line.
use Rattle.std.specs.Prelude.{ℕ, ◌*◌, cond, not, List, [], ◌∷◌, take, ◌==◌}
use Rattle.std.specs.List.{prefix_len}

-- a byte put before the first line
abbrev pub before_first : ℕ → List (List ℕ) → List (List ℕ)
before_first b [] = (b ∷ []) ∷ []
before_first b (l ∷ ls) = (b ∷ l) ∷ ls

abbrev pub lines_of : List ℕ → List (List ℕ)
lines_of [] = []
lines_of (b ∷ bs) = cond (b == 10) ([] ∷ lines_of bs) (before_first b (lines_of bs))

-- how many bytes there are before the first byte 10
abbrev pub line_length : List ℕ → ℕ
line_length bs = prefix_len (λ b. not (b == 10)) bs

-- only the first 64 KiB of an input count
abbrev pub script_lines : List ℕ → List (List ℕ)
script_lines input = lines_of (take (64 * 1024) input)
