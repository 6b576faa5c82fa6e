use Rattle.std.proofs.Common.{◌≡◌, ◌-◌, ◌≤◌, []}
use Rattle.forms.specs.Spoken.{pairs_in}
use Rattle.tokens.specs.Ahead.{left, line_length}
use Rattle.script.specs.Reading.{cut_form}
use Rattle.script.proofs.reader.read_cut.Given as goal

abbrev pub invariant-loop-found : goal.invariant-loop-found
invariant-loop-found l = record {
  line : l.lexer.line ≡ l.initial.lexer.line;
  few : l.pairs.count ≤ 16;
  answer : cut_form (16 - l.pairs.count) (pairs_in l.pairs) (line_length l.lexer) (left l.lexer) ≡ cut_form 16 [] (line_length l.initial.lexer) (left l.initial.lexer);
}

abbrev pub decreases-loop-found : goal.decreases-loop-found
decreases-loop-found l = 16 - l.pairs.count
