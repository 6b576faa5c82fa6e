use Rattle.std.proofs.Common.{refl}
use Rattle.std.proofs.Output.{has_written_append, has_written_of_eq}
use Rattle.forms.proofs.Listing.{pair_more}
use Rattle.forms.proofs.display.PairsDisplay.fmt.Goals as goal

pub loop-pair-preserved : goal.loop-pair-preserved
loop-pair-preserved g c = λ plain.
    let before = c.loop-pair.invariant plain in
    has_written_of_eq _ _ _ _ _ (pair_more c.listed-pair-items.result.now c.loop-pair.pair-index _ c.loop-pair-test.true)
    (has_written_append _ _ _ _ _ _ before (c.in_ok-fmt.ensures.writes before.plain refl))
