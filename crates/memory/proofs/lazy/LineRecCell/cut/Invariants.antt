use Rattle.memory.specs.Model.{cut_line}
use Rattle.memory.proofs.Sweeps.{Swept}
use Rattle.memory.proofs.lazy.LineRecCell.cut.Given as goal

abbrev pub invariant-loop-l : goal.invariant-loop-l
invariant-loop-l l = Swept cut_line l.bytes l.initial.cells l.l l.cells
