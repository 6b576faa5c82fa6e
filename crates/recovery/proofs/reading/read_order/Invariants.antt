use Rattle.model.specs.Journal.{logs}
use Rattle.recovery.proofs.Onward.{Passed}
use Rattle.recovery.proofs.reading.read_order.Given as goal

abbrev pub invariant-loop-place : goal.invariant-loop-place
invariant-loop-place g l = Passed (g.B.Book.rules l.book) (logs (g.M.Memory.model l.memory)) l.count l.place l.order
