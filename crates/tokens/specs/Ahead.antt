-- What is ahead of a lexer, and of the reader of lines.
use Rattle.std.specs.Prelude.{◌≡◌, ℕ, List, length, drop, Option, Result}
use Rattle.std.specs.Borrow.{Bor}
use Rattle.std.specs.Iterator.{YieldsFirstRef}
use Rattle.std.specs.Option.{option_transpose}
use Rattle.tokens.specs.declared.lexer.Lexer.{Lexer}
use Rattle.tokens.specs.declared.lines.Lines.{Lines}
use Rattle.tokens.specs.declared.types.Fault.{Fault}
use Rattle.tokens.specs.declared.types.Token.{Token}
use Rattle.tokens.specs.Tokens.{Placed, tokens_at, next_of, rest_of, told}
use Rattle.tokens.specs.Lines.{lines_of}

-- the tokens that are left
abbrev pub left : Lexer → List Placed
left l = tokens_at l.line.now l.at

-- what a call of a lexer gives: the first token that is left, or its fault, and the others stay
pub record GivesToken (l : Lexer) (r : Option (Result (Token × ℕ) Fault)) (m : Lexer) : Type 0 where
  pub line : m.line ≡ l.line
  pub answer : told (option_transpose r) ≡ next_of (left l)
  pub rest : left m ≡ rest_of (left l)

-- how many bytes the line has
abbrev pub line_length : Lexer → ℕ
line_length l = length l.line.now

-- the lines that are left
abbrev pub lines_left : Lines → List (List ℕ)
lines_left l = lines_of (drop l.at l.input.now)

-- what a call of the reader of lines gives: the first line that is left, and the input stays
pub record GivesLine (l : Lines) (r : Option (Bor (List ℕ))) (m : Lines) : Type 0 where
  pub input : m.input ≡ l.input
  pub ahead : YieldsFirstRef lines_left l r m
