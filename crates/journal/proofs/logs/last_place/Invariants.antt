use Rattle.std.proofs.Common.{◌≡◌}
use Rattle.model.specs.Journal.{tops, last_place}
use Rattle.journal.proofs.Marking.{logs_from}
use Rattle.journal.proofs.logs.last_place.Given as goal

abbrev pub invariant-loop-station : goal.invariant-loop-station
invariant-loop-station g l = tops l.greatest (logs_from (g.M.Memory.model l.memory) l.station) ≡ last_place (g.M.Memory.model l.memory)
