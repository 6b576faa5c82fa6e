use Rattle.std.proofs.Common.{[]}
use Rattle.memory.specs.Model.{fence_line}
use Rattle.memory.proofs.Sweeps.{Swept}
use Rattle.memory.proofs.lazy.LineRecCell.fence.Given as goal

abbrev pub invariant-loop-rec : goal.invariant-loop-rec
invariant-loop-rec l = Swept fence_line ([]) l.initial.cells l.rec-index l.cells
