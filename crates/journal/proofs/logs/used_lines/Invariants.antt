use Rattle.std.proofs.Common.{◌≡◌, ◌+◌}
use Rattle.model.specs.Journal.{entries, log_entries, used_lines}
use Rattle.journal.proofs.logs.used_lines.Given as goal

-- the lines so far, and those of the entries that are left
abbrev pub invariant-loop-entry : goal.invariant-loop-entry
invariant-loop-entry g l =
    l.used + used_lines (entries l.entry-iterator.owner 0 l.entry-iterator.lines) ≡ used_lines (log_entries (g.M.Memory.model l.memory) l.station)
