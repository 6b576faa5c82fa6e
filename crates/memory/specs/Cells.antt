-- Memories that cells hold: the lines, the count of fences, and a freedom that leaves no choice.
use Rattle.std.specs.Prelude.{◌≡◌, ℕ, List}
use Rattle.memory.specs.Model.{Line, Mem, Freedom, chosen}

abbrev pub mem : List Line → ℕ → Mem
mem lines n = record { lines = lines; fences = n }

-- nothing is free: of each line as many stores settle early as `early` says, and a cut keeps as many as `kept` makes of its bytes
abbrev pub fixed : (Line → ℕ) → (List ℕ → List ℕ) → Freedom
fixed early kept = record { early_by = λ m ns. ns ≡ chosen early m; kept_by = λ m bytes ns. ns ≡ kept bytes }
