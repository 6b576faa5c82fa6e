use Rattle.std.proofs.Common.{◌≡◌, ◌+◌, drop}
use Rattle.model.specs.Machine.{highest_from, highest_flag}
use Rattle.order.proofs.types.Order.highest_flag.Given as goal

abbrev pub invariant-loop-at : goal.invariant-loop-at
invariant-loop-at l = highest_from l.best (l.at + 1) (drop l.at l.node-items) ≡ highest_flag l.node-items
