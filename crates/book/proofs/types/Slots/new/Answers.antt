use Rattle.book.proofs.Numbers.{numbered}
use Rattle.book.proofs.types.Slots.new.Goals as goal

pub returns-clause-numbered : goal.returns-clause-numbered
returns-clause-numbered c = numbered
