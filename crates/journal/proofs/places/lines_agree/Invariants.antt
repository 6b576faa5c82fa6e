use Rattle.std.proofs.Common.{◌≡◌}
use Rattle.model.specs.Journal.{holding_lines, agree}
use Rattle.journal.proofs.places.lines_agree.Given as goal

abbrev pub invariant-loop-held : goal.invariant-loop-held
invariant-loop-held g l = agree l.line (holding_lines l.place l.held-iterator) ≡ agree l.line (holding_lines l.place l.fn.lines)
