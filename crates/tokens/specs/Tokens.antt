-- The tokens of a line: single brackets, and the longest runs of small letters and of digits; every other byte but a
-- blank is a token alone.
use Rattle.std.specs.Prelude.{◌≡◌, ℕ, ◌+◌, ◌-◌, ◌*◌, ◌^◌, ◌<◌, ◌≤◌, max, Bool, true, false, cond, not, ◌&&◌, ◌||◌, List, [], ◌∷◌, length, take, drop, Some, None, Ok, Err, Option, Result, ◌==◌, nat_le, nat_lt, slice_index}
use Rattle.std.specs.List.{prefix_len}
use Rattle.tokens.specs.declared.types.Class.{Class}
use Rattle.tokens.specs.declared.types.Class.TheVariants.{Open, Close, Blank, Letter, Digit, Other}
use Rattle.tokens.specs.declared.types.Fault.{Fault}
use Rattle.tokens.specs.declared.types.Token.{Token}
use Rattle.tokens.specs.declared.types.Token.TheVariants as tokens

abbrev pub class_of : ℕ → Class
class_of b =
    cond (b == 40) Open
    (cond (b == 41) Close
    (cond (b == 32) Blank
    (cond (nat_le 48 b && nat_le b 57) Digit
    (cond (nat_le 97 b && nat_le b 122) Letter Other))))

abbrev pub is_letter : Class → Bool
is_letter Open = false
is_letter Close = false
is_letter Blank = false
is_letter Letter = true
is_letter Digit = false
is_letter Other = false

abbrev pub is_digit : Class → Bool
is_digit Open = false
is_digit Close = false
is_digit Blank = false
is_digit Letter = false
is_digit Digit = true
is_digit Other = false

abbrev pub is_blank : Class → Bool
is_blank Open = false
is_blank Close = false
is_blank Blank = true
is_blank Letter = false
is_blank Digit = false
is_blank Other = false

-- two neighbours are of one run, of letters, digits or blanks
abbrev pub joined : Class → Class → Bool
joined c d = (is_letter c && is_letter d) || ((is_digit c && is_digit d) || (is_blank c && is_blank d))

-- how far the run of this class goes that bytes begin with
abbrev pub run_length : Class → List ℕ → ℕ
run_length c bs = prefix_len (λ b. joined c (class_of b)) bs

-- how many bytes the token has that bytes begin with, by the class of the first
abbrev pub width : Class → List ℕ → ℕ
width c bs = max 1 (run_length c bs)

pub data Shape : Type 0 where
  opening : Shape
  closing : Shape
  word : List ℕ → Shape
  number : List ℕ → Shape
  odd : Shape

-- a token with its column, counted from 1
pub record Placed : Type 0 where
  pub column : ℕ
  pub shape : Shape

-- the token that these bytes are, by the class of the first
abbrev pub text_shape : Class → List ℕ → Shape
text_shape Open bs = opening
text_shape Close bs = closing
text_shape Blank bs = odd
text_shape Letter bs = word bs
text_shape Digit bs = number bs
text_shape Other bs = odd

-- the token that bytes begin with, by the class of the first
abbrev pub shape_at : Class → List ℕ → Shape
shape_at c bs = text_shape c (take (width c bs) bs)

-- the token that these bytes are
abbrev pub shape_of_text : List ℕ → Shape
shape_of_text bs = text_shape (class_of (slice_index bs 0)) bs

-- the tokens of bytes that stand behind a byte of class p, from a column on: a byte that is no blank begins one,
-- unless it goes on with the run before
abbrev pub tokens_from : Class → ℕ → List ℕ → List Placed
tokens_from p col [] = []
tokens_from p col (b ∷ bs) =
    cond (is_blank (class_of b) || joined p (class_of b)) (tokens_from (class_of b) (col + 1) bs)
    (record { column = col; shape = shape_at (class_of b) (b ∷ bs) } ∷ tokens_from (class_of b) (col + 1) bs)

abbrev pub tokens_of : List ℕ → List Placed
tokens_of line = tokens_from Blank 1 line

-- the number that digits write
abbrev pub value_on : ℕ → List ℕ → ℕ
value_on n [] = n
value_on n (d ∷ ds) = value_on (10 * n + (d - 48)) ds

abbrev pub value : List ℕ → ℕ
value ds = value_on 0 ds

-- digits that write a number of 64 bits: two or more have no 0 in front
abbrev pub plain : List ℕ → Bool
plain ds = not (nat_lt 1 (length ds) && slice_index ds 0 == 48) && nat_lt (value ds) (2 ^ 64)

abbrev pub number_of : List ℕ → Option ℕ
number_of ds = cond (plain ds) (Some (value ds)) None

-- a token that fits nowhere: digits that are not plain, and any other byte
abbrev pub fits_nowhere : Shape → Bool
fits_nowhere opening = false
fits_nowhere closing = false
fits_nowhere (word w) = false
fits_nowhere (number ds) = not (plain ds)
fits_nowhere odd = true

-- fault 16: the line cannot be read
abbrev pub unreadable : ℕ → Fault
unreadable column = record { number = 16; column = column }

-- What a lexer answers and leaves

-- the tokens that are left from a position of a line on
abbrev pub tokens_at : List ℕ → ℕ → List Placed
tokens_at line at = tokens_from Blank (at + 1) (drop at line)

-- the first of them has the bytes of the line from one position up to another
pub record Next (line : List ℕ) (at : ℕ) (span : ℕ × ℕ) : Type 0 where
  pub ahead : span.0 < span.1
  pub within : span.1 ≤ length line
  pub first : tokens_at line at ≡ record { column = span.0 + 1; shape = shape_of_text (take (span.1 - span.0) (drop span.0 line)) } ∷ tokens_at line span.1

-- the first of them, nothing at the end, or the fault of one that fits nowhere
abbrev pub next_of : List Placed → Result (Option Placed) Fault
next_of [] = Ok None
next_of (t ∷ ts) = cond (fits_nowhere t.shape) (Err (unreadable t.column)) (Ok (Some t))

abbrev pub rest_of : List Placed → List Placed
rest_of [] = []
rest_of (t ∷ ts) = ts

abbrev pub shape_of : Token → Shape
shape_of tokens.Open = opening
shape_of tokens.Close = closing
shape_of (tokens.Word w) = word w.now
shape_of (tokens.Number ds) = number ds.now

-- the answer of a lexer, with what its tokens refer to
abbrev pub told : Result (Option (Token × ℕ)) Fault → Result (Option Placed) Fault
told (Ok None) = Ok None
told (Ok (Some t)) = Ok (Some (record { column = t.1; shape = shape_of t.0 }))
told (Err f) = Err f
