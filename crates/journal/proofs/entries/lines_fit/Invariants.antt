use Rattle.std.proofs.Common.{◌≡◌, ◌-◌}
use Rattle.model.specs.Journal.{word, lines_fit}
use Rattle.journal.proofs.entries.lines_fit.Given as goal

-- the lines that are left decide the test
abbrev pub invariant-loop-t : goal.invariant-loop-t
invariant-loop-t g l =
    lines_fit (word l.head 1 - l.t) (word l.head 0) (word l.head 1) (word l.head 7) l.t l.lines
    ≡ lines_fit (word l.head 1 - 1) (word l.head 0) (word l.head 1) (word l.head 7) 1 l.fn.lines
