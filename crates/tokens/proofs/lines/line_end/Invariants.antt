use Rattle.std.proofs.Common.{◌≡◌, ◌+◌, ◌≤◌, length, drop}
use Rattle.tokens.specs.Lines.{line_length}
use Rattle.tokens.proofs.lines.line_end.Given as goal

-- the line is not over before `end`
abbrev pub invariant-loop-end : goal.invariant-loop-end
invariant-loop-end l = l.end + line_length (drop l.end l.input) ≡ l.at + line_length (drop l.at l.input)
