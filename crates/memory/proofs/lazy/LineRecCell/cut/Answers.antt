use Rattle.std.proofs.Common.{get_or, ap, ◌∙◌}
use Rattle.memory.specs.Model.{cut_line}
use Rattle.memory.specs.Lazy.{line_of}
use Rattle.memory.proofs.Sweeps.{swept_more}
use Rattle.memory.proofs.lazy.LineRecCell.cut.Goals as goal

pub loop-l-preserved : goal.loop-l-preserved
loop-l-preserved c =
    swept_more cut_line c.args.bytes.now c.args.cells.now c.loop-l.l c.loop-l.cells c.loop-l.invariant c.loop-l-test.true c.index-cells-l.result c.cut.new.self
    (c.cut.ensures ∙ ap (λ n. cut_line n (line_of (get_or c.loop-l.cells c.loop-l.l c.index-cells-l.result))) c.byte_at.ensures)
