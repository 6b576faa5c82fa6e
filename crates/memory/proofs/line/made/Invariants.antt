use Rattle.std.proofs.Common.{◌≡◌, length, drop}
use Rattle.memory.specs.Model.{written}
use Rattle.memory.proofs.line.made.Given as goal

-- the stores that are left make of the words what all make of the first words
abbrev pub invariant-loop-s : goal.invariant-loop-s
invariant-loop-s l = (length l.words ≡ 8) × (written l.words (drop l.s-index l.stores) ≡ written l.initial.words l.stores)
