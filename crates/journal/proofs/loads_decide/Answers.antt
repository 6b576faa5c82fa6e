use Rattle.journal.proofs.Alike.{loads_decide}
use Rattle.journal.proofs.loads_decide.Goals as goal

pub returns : goal.returns
returns c = loads_decide
