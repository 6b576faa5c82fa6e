use Rattle.std.proofs.Common.{◌≡◌}
use Rattle.model.specs.Journal.{holding, logs, agree}
use Rattle.journal.proofs.Marking.{logs_from}
use Rattle.journal.proofs.places.agrees.Given as goal

abbrev pub invariant-loop-station : goal.invariant-loop-station
invariant-loop-station g l =
    agree l.line (holding l.place (logs_from (g.M.Memory.model l.memory) l.station)) ≡ agree l.line (holding l.place (logs (g.M.Memory.model l.memory)))
