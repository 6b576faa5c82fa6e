use Rattle.std.proofs.Common.{◌≡◌}
use Rattle.model.specs.Machine.{state_after}
use Rattle.order.proofs.types.Order.replay.Given as goal

abbrev pub invariant-loop-node : goal.invariant-loop-node
invariant-loop-node g l =
    (g.B.Book.rules l.book ≡ g.B.Book.rules l.initial.book)
    × (g.B.Book.state l.book ≡ state_after (g.B.Book.rules l.book) l.node-items l.node-index)
