use Rattle.forms.proofs.Keeping.{Kept}
use Rattle.forms.proofs.meaning.kept_by.Given as goal

abbrev pub invariant-loop-pair : goal.invariant-loop-pair
invariant-loop-pair l = Kept l.pairs l.pair-index l.bytes
