use Rattle.std.proofs.Common.{codes, sym, ap, arith, rules}
use Rattle.std.proofs.lemmas.Slice.Eq.{text_from_reads}
use Rattle.forms.specs.Spelling.{kind_named}
use Rattle.forms.proofs.named.MemoryKindNamed.named.Goals as goal

pub returns-in-through : goal.returns-in-through
returns-in-through c = sym (ap kind_named (text_from_reads c.args.word.now (codes "through") (omega arith) (search rules)))
