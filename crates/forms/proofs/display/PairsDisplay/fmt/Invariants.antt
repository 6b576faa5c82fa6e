use Rattle.std.proofs.Common.{map, take}
use Rattle.std.specs.Fmt.{IsPlainFormatter, HasWritten}
use Rattle.forms.specs.Spoken.{pair_of}
use Rattle.forms.specs.Spelling.{spelled_pairs}
use Rattle.forms.proofs.display.PairsDisplay.fmt.Given as goal

-- the pairs so far are written
abbrev pub invariant-loop-pair : goal.invariant-loop-pair
invariant-loop-pair g l = IsPlainFormatter l.initial.f → HasWritten g.W.Write.write_str_gives l.initial.f (spelled_pairs (map pair_of (take l.pair-index l.pair-items))) l.f
