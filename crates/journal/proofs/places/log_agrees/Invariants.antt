use Rattle.std.proofs.Common.{◌≡◌}
use Rattle.model.specs.Journal.{entries, log_entries, holding_entries, agree}
use Rattle.journal.proofs.places.log_agrees.Given as goal

abbrev pub invariant-loop-entry : goal.invariant-loop-entry
invariant-loop-entry g l =
    agree l.line (holding_entries l.place (entries l.entry-iterator.owner 0 l.entry-iterator.lines))
    ≡ agree l.line (holding_entries l.place (log_entries (g.M.Memory.model l.memory) l.station))
