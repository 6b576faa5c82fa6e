-- The same language by a reader that knows what it expects next.
use Rattle.std.specs.Prelude.{◌≡◌, ℕ, zero, suc, ◌+◌, cond, ◌&&◌, List, [], ◌∷◌, ◌++◌, Ok, Err, codes, Option, Some, None, Result, nat_le}
use Rattle.std.specs.Borrow.{Bor}
use Rattle.std.specs.Str.{bytes_eq}
use Rattle.tokens.specs.declared.lexer.Lexer.{Lexer}
use Rattle.tokens.specs.declared.types.Fault.{Fault}
use Rattle.tokens.specs.declared.types.Token.{Token}
use Rattle.forms.specs.declared.types.MemoryKind.{MemoryKind}
use Rattle.forms.specs.declared.types.BookKind.{BookKind}
use Rattle.forms.specs.declared.types.Pair.{Pair}
use Rattle.forms.specs.declared.types.Request.{Request}
use Rattle.forms.specs.declared.types.Request.TheVariants.{Add, Read, Reserve, Cancel, Holder}
use Rattle.script.specs.declared.expect.Side.{Side}
use Rattle.script.specs.declared.expect.Side.TheVariants.{Open, Close}
use Rattle.tokens.specs.Tokens.{Shape, opening, closing, word, number, odd, Placed, plain, value, unreadable, fits_nowhere, shape_of}
use Rattle.tokens.specs.Ahead.{left, line_length}
use Rattle.forms.specs.Spelling.{kind_named, book_named}
use Rattle.forms.specs.Spoken.{Spoken, memory, object, start, rise, call, steps, outcome, cut, pair_of}

-- a value and the tokens behind it, or a fault
abbrev pub Step : Type 0 → Type 0
Step X = Result (X × List Placed) Fault

abbrev pub then : {X Y : Type 0} → Step X → (X → List Placed → Result Y Fault) → Result Y Fault
then (Ok p) k = k p.0 p.1
then (Err f) k = Err f

-- what a reader answered, with the tokens that it left
abbrev pub went : {X : Type 0} → Result X Fault → List Placed → Step X
went (Ok x) ts = Ok (x, ts)
went (Err f) ts = Err f

-- what a reader answered and left of a lexer is what f says
pub record Reads {X : Type 0} (f : ℕ → List Placed → Step X) (old new : Lexer) (r : Result X Fault) : Type 0 where
  pub line : new.line ≡ old.line
  pub answer : went r (left new) ≡ f (line_length old) (left old)

-- the next token, which has to be there
abbrev pub next_token : ℕ → List Placed → Step Placed
next_token len [] = Err (unreadable (len + 1))
next_token len (t ∷ ts) = cond (fits_nowhere t.shape) (Err (unreadable t.column)) (Ok (t, ts))

abbrev pub placed : Token × ℕ → Placed
placed t = record { column = t.1; shape = shape_of t.0 }

abbrev pub placed_in : Result (Token × ℕ) Fault → Result Placed Fault
placed_in (Ok t) = Ok (placed t)
placed_in (Err f) = Err f

-- a word with its column, as a reader answers it
abbrev pub word_in : Result (Bor (List ℕ) × ℕ) Fault → Result (List ℕ × ℕ) Fault
word_in (Ok w) = Ok (w.0.now, w.1)
word_in (Err f) = Err f

abbrev pub if_opening : Shape → ℕ → List Placed → Step (Unit {0})
if_opening opening col ts = Ok (tt, ts)
if_opening closing col ts = Err (unreadable col)
if_opening (word w) col ts = Err (unreadable col)
if_opening (number ds) col ts = Err (unreadable col)
if_opening odd col ts = Err (unreadable col)

abbrev pub if_closing : Shape → ℕ → List Placed → Step (Unit {0})
if_closing opening col ts = Err (unreadable col)
if_closing closing col ts = Ok (tt, ts)
if_closing (word w) col ts = Err (unreadable col)
if_closing (number ds) col ts = Err (unreadable col)
if_closing odd col ts = Err (unreadable col)

-- a word with its column
abbrev pub if_word : Shape → ℕ → List Placed → Step (List ℕ × ℕ)
if_word opening col ts = Err (unreadable col)
if_word closing col ts = Err (unreadable col)
if_word (word w) col ts = Ok ((w, col), ts)
if_word (number ds) col ts = Err (unreadable col)
if_word odd col ts = Err (unreadable col)

abbrev pub if_number : ℕ → ℕ → Shape → ℕ → List Placed → Step ℕ
if_number low high opening col ts = Err (unreadable col)
if_number low high closing col ts = Err (unreadable col)
if_number low high (word w) col ts = Err (unreadable col)
if_number low high (number ds) col ts = cond (plain ds && (nat_le low (value ds) && nat_le (value ds) high)) (Ok (value ds, ts)) (Err (unreadable col))
if_number low high odd col ts = Err (unreadable col)

abbrev pub open_bracket : ℕ → List Placed → Step (Unit {0})
open_bracket len ts = then (next_token len ts) (λ t ts. if_opening t.shape t.column ts)

abbrev pub close_bracket : ℕ → List Placed → Step (Unit {0})
close_bracket len ts = then (next_token len ts) (λ t ts. if_closing t.shape t.column ts)

abbrev pub some_word : ℕ → List Placed → Step (List ℕ × ℕ)
some_word len ts = then (next_token len ts) (λ t ts. if_word t.shape t.column ts)

abbrev pub number_within : ℕ → ℕ → ℕ → List Placed → Step ℕ
number_within low high len ts = then (next_token len ts) (λ t ts. if_number low high t.shape t.column ts)

abbrev pub any_number : ℕ → List Placed → Step ℕ
any_number len ts = number_within 0 18446744073709551615 len ts

-- the value, and a closing bracket behind it
abbrev pub closed : {X : Type 0} → X → ℕ → List Placed → Step X
closed x len ts = then (close_bracket len ts) (λ _ ts. Ok (x, ts))

abbrev pub bracket : Side → ℕ → List Placed → Step (Unit {0})
bracket Open = open_bracket
bracket Close = close_bracket

-- the kind that a word names
abbrev pub if_named : {K : Type 0} → Option K → ℕ → List Placed → Step K
if_named (Some k) col ts = Ok (k, ts)
if_named None col ts = Err (unreadable col)

abbrev pub some_kind : {K : Type 0} → (List ℕ → Option K) → ℕ → List Placed → Step K
some_kind named len ts = then (some_word len ts) (λ w ts. if_named (named w.0) w.1 ts)

abbrev pub kind_by : List ℕ → ℕ → List Placed → Step MemoryKind
kind_by w col ts = if_named (kind_named w) col ts

abbrev pub kind_word : ℕ → List Placed → Step MemoryKind
kind_word len ts = some_kind kind_named len ts

abbrev pub memory_form : ℕ → List Placed → Step Spoken
memory_form len ts =
    then (kind_word len ts) (λ k ts.
    then (number_within 8 16 len ts) (λ n ts. closed (memory k n) len ts))

abbrev pub book_by : List ℕ → ℕ → List Placed → Step BookKind
book_by w col ts = if_named (book_named w) col ts

abbrev pub book_word : ℕ → List Placed → Step BookKind
book_word len ts = some_kind book_named len ts

abbrev pub object_form : ℕ → List Placed → Step Spoken
object_form len ts = then (book_word len ts) (λ b ts. closed (object b) len ts)

abbrev pub reserve_request : ℕ → List Placed → Step Request
reserve_request len ts =
    then (number_within 0 4294967295 len ts) (λ s ts.
    then (number_within 0 4294967295 len ts) (λ b ts. Ok (Reserve s b, ts)))

abbrev pub request_by : List ℕ → ℕ → ℕ → List Placed → Step Request
request_by w col len ts =
    cond (bytes_eq w (codes "add")) (then (any_number len ts) (λ n ts. Ok (Add n, ts)))
    (cond (bytes_eq w (codes "read")) (Ok (Read, ts))
    (cond (bytes_eq w (codes "reserve")) (reserve_request len ts)
    (cond (bytes_eq w (codes "cancel")) (then (any_number len ts) (λ n ts. Ok (Cancel n, ts)))
    (cond (bytes_eq w (codes "holder")) (then (any_number len ts) (λ n ts. Ok (Holder n, ts)))
    (Err (unreadable col))))))

abbrev pub request : ℕ → List Placed → Step Request
request len ts =
    then (open_bracket len ts) (λ _ ts.
    then (some_word len ts) (λ w ts.
    then (request_by w.0 w.1 len ts) (λ q ts. closed q len ts)))

abbrev pub call_form : ℕ → List Placed → Step Spoken
call_form len ts =
    then (any_number len ts) (λ s ts.
    then (request len ts) (λ q ts. closed (call s q) len ts))

abbrev pub steps_form : ℕ → List Placed → Step Spoken
steps_form len ts =
    then (any_number len ts) (λ s ts.
    then (number_within 1 18446744073709551615 len ts) (λ c ts. closed (steps s c) len ts))

abbrev pub outcome_form : ℕ → List Placed → Step Spoken
outcome_form len ts =
    then (any_number len ts) (λ r ts.
    then (any_number len ts) (λ s ts.
    then (any_number len ts) (λ n ts. closed (outcome r s n) len ts)))

abbrev pub start_form : ℕ → List Placed → Step Spoken
start_form len ts = closed start len ts

abbrev pub rise_form : ℕ → List Placed → Step Spoken
rise_form len ts = closed rise len ts

-- a pair as a reader answers it
abbrev pub pair_in : Result Pair Fault → Result (ℕ × ℕ) Fault
pair_in (Ok p) = Ok (pair_of p)
pair_in (Err f) = Err f

-- a pair behind its opening bracket
abbrev pub pair : ℕ → List Placed → Step (ℕ × ℕ)
pair len ts =
    then (number_within 0 128 len ts) (λ l ts.
    then (number_within 0 255 len ts) (λ k ts. closed (l, k) len ts))

-- what goes on with a list of pairs: the end, or another pair if there may be one
abbrev pub if_pair : Shape → ℕ → List (ℕ × ℕ) → List Placed → Step Spoken → Step Spoken
if_pair opening col ps ts more = more
if_pair closing col ps ts more = Ok (cut ps, ts)
if_pair (word w) col ps ts more = Err (unreadable col)
if_pair (number ds) col ps ts more = Err (unreadable col)
if_pair odd col ps ts more = Err (unreadable col)

-- up to so many pairs more
unfoldable pub cut_form : ℕ → List (ℕ × ℕ) → ℕ → List Placed → Step Spoken
cut_form zero ps len ts = then (next_token len ts) (λ t ts. if_pair t.shape t.column ps ts (Err (unreadable t.column)))
cut_form (suc m) ps len ts = then (next_token len ts) (λ t ts. if_pair t.shape t.column ps ts (then (pair len ts) (λ p ts. cut_form m (ps ++ p ∷ []) len ts)))

abbrev pub form_by : List ℕ → ℕ → ℕ → List Placed → Step Spoken
form_by w col len ts =
    cond (bytes_eq w (codes "memory")) (memory_form len ts)
    (cond (bytes_eq w (codes "object")) (object_form len ts)
    (cond (bytes_eq w (codes "start")) (start_form len ts)
    (cond (bytes_eq w (codes "rise")) (rise_form len ts)
    (cond (bytes_eq w (codes "call")) (call_form len ts)
    (cond (bytes_eq w (codes "steps")) (steps_form len ts)
    (cond (bytes_eq w (codes "outcome")) (outcome_form len ts)
    (cond (bytes_eq w (codes "cut")) (cut_form 16 [] len ts)
    (Err (unreadable col)))))))))

abbrev pub some_form : ℕ → List Placed → Step Spoken
some_form len ts =
    then (open_bracket len ts) (λ _ ts.
    then (some_word len ts) (λ w ts. form_by w.0 w.1 len ts))

-- nothing may stand behind a form
abbrev pub alone : Spoken → List Placed → Result Spoken Fault
alone s [] = Ok s
alone s (t ∷ ts) = Err (unreadable t.column)

abbrev pub finished : Step Spoken → Result Spoken Fault
finished s = then s alone
