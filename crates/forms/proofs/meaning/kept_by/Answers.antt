use Rattle.forms.proofs.Keeping.{kept_first}
use Rattle.forms.proofs.meaning.kept_by.Goals as goal

pub loop-pair-init : goal.loop-pair-init
loop-pair-init c = kept_first c.args.pairs.now
