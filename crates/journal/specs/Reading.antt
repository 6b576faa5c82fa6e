-- What is read of a part of the memory.
use Rattle.std.specs.Prelude.{ℕ, ◌-◌, List, map, take, drop}
use Rattle.memory.specs.Model.{Mem, words_of}
use Rattle.model.specs.Journal.{Entry}

-- the lines at, at + 1, .., end - 1
abbrev pub span : Mem → ℕ → ℕ → List (List ℕ)
span m at end = take (end - at) (drop at (map words_of m.lines))

abbrev pub entry : ℕ → List (List ℕ) → Entry
entry p ls = record { place = p; lines = ls }
