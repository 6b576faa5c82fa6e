use Rattle.journal.proofs.Backs.{reads_back}
use Rattle.journal.proofs.Laying.{lays_down}
use Rattle.journal.proofs.reads_back.Goals as goal

pub returns : goal.returns
returns c = record { alone = reads_back; behind = lays_down }
