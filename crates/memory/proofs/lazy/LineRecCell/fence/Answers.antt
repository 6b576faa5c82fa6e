use Rattle.std.proofs.Common.{[]}
use Rattle.memory.specs.Model.{fence_line}
use Rattle.memory.proofs.Sweeps.{swept_more}
use Rattle.memory.proofs.lazy.LineRecCell.fence.Goals as goal

pub loop-rec-preserved : goal.loop-rec-preserved
loop-rec-preserved c = swept_more fence_line [] c.args.cells.now c.loop-rec.rec-index c.loop-rec.cells c.loop-rec.invariant c.loop-rec-test.true c.rec-item.result c.fence.new.self c.fence.ensures
