use Rattle.std.proofs.Common.{◌≡◌, ◌+◌}
use Rattle.model.specs.Journal.{entries, holding, holding_entries, logs}
use Rattle.journal.specs.Places.{first, or_else}
use Rattle.journal.proofs.Marking.{logs_from}
use Rattle.journal.proofs.places.find_place.Given as goal

-- no log before this station's holds the place
abbrev pub invariant-loop-station : goal.invariant-loop-station
invariant-loop-station g l =
    first (holding l.place (logs_from (g.M.Memory.model l.memory) l.station)) ≡ first (holding l.place (logs (g.M.Memory.model l.memory)))

-- nor does an entry before those that are left
abbrev pub invariant-loop-entry : goal.invariant-loop-entry
invariant-loop-entry g l =
    or_else (first (holding_entries l.place (entries l.entry-iterator.owner 0 l.entry-iterator.lines))) (first (holding l.place (logs_from (g.M.Memory.model l.memory) (l.station + 1))))
    ≡ first (holding l.place (logs (g.M.Memory.model l.memory)))
