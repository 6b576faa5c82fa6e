use Rattle.std.proofs.Common.{◌≡◌}
use Rattle.model.specs.Journal.{holding_lines}
use Rattle.journal.specs.Places.{first}
use Rattle.journal.proofs.places.line_for.Given as goal

abbrev pub invariant-loop-line : goal.invariant-loop-line
invariant-loop-line g l = first (holding_lines l.place l.line-iterator) ≡ first (holding_lines l.place l.fn.lines)
