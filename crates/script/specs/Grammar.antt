-- The language as a table of patterns. A token fits where some pattern goes on with it.
use Rattle.std.specs.Prelude.{ℕ, zero, suc, ◌+◌, Bool, true, false, cond, ◌&&◌, List, [], ◌∷◌, ◌++◌, map, length, Ok, Err, codes, Result, nat_le, nat_lt, slice_index}
use Rattle.std.specs.Str.{bytes_eq}
use Rattle.tokens.specs.declared.types.Fault.{Fault}
use Rattle.forms.specs.declared.types.Form.{Form}
use Rattle.forms.specs.declared.types.MemoryKind.TheVariants.{Lazy, Through}
use Rattle.forms.specs.declared.types.BookKind.TheVariants.{Tally, Slots}
use Rattle.forms.specs.declared.types.Request.TheVariants.{Add, Read, Reserve, Cancel, Holder}
use Rattle.tokens.specs.Tokens.{Shape, opening, closing, word, number, odd, Placed, plain, value, tokens_of, unreadable}
use Rattle.forms.specs.Spoken.{Spoken, memory, object, start, rise, call, steps, outcome, cut, spoken_by}

-- what may stand at a place: a bracket, this word, or a number of this range
pub data Slot : Type 0 where
  opens : Slot
  closes : Slot
  says : List ℕ → Slot
  counts : ℕ → ℕ → Slot

-- what stands at each place, and what it says by the numbers read
pub record Pattern : Type 0 where
  pub slots : List Slot
  pub meaning : List ℕ → Spoken

abbrev pub accepts : Slot → Shape → Bool
accepts opens opening = true
accepts opens closing = false
accepts opens (word w) = false
accepts opens (number ds) = false
accepts opens odd = false
accepts closes opening = false
accepts closes closing = true
accepts closes (word w) = false
accepts closes (number ds) = false
accepts closes odd = false
accepts (says v) opening = false
accepts (says v) closing = false
accepts (says v) (word w) = bytes_eq w v
accepts (says v) (number ds) = false
accepts (says v) odd = false
accepts (counts low high) opening = false
accepts (counts low high) closing = false
accepts (counts low high) (word w) = false
accepts (counts low high) (number ds) = plain ds && (nat_le low (value ds) && nat_le (value ds) high)
accepts (counts low high) odd = false

-- what a pattern leaves to read behind a token, if it accepts it
abbrev pub rest_by : Shape → List Slot → (List ℕ → Spoken) → List Pattern
rest_by s [] f = []
rest_by s (x ∷ xs) f = cond (accepts x s) (record { slots = xs; meaning = f } ∷ []) []

abbrev pub after : Shape → List Pattern → List Pattern
after s [] = []
after s (p ∷ ps) = rest_by s p.slots p.meaning ++ after s ps

-- the numbers read, with a token more
abbrev pub with_token : List ℕ → Shape → List ℕ
with_token ns opening = ns
with_token ns closing = ns
with_token ns (word w) = ns
with_token ns (number ds) = ns ++ value ds ∷ []
with_token ns odd = ns

-- the meaning by the first pattern that is complete
abbrev pub complete : List Slot → Spoken → Result Spoken Fault → Result Spoken Fault
complete [] m r = Ok m
complete (x ∷ xs) m r = r

abbrev pub meant : List Pattern → List ℕ → ℕ → Result Spoken Fault
meant [] ns len = Err (unreadable (len + 1))
meant (p ∷ ps) ns len = complete p.slots (p.meaning ns) (meant ps ns len)

-- reading on, or the fault of a token that no pattern goes on with
abbrev pub unless_none : List Pattern → ℕ → Result Spoken Fault → Result Spoken Fault
unless_none [] col r = Err (unreadable col)
unless_none (p ∷ ps) col r = r

abbrev pub read_by : List Pattern → List ℕ → ℕ → List Placed → Result Spoken Fault
read_by ps ns len [] = meant ps ns len
read_by ps ns len (t ∷ ts) = unless_none (after t.shape ps) t.column (read_by (after t.shape ps) (with_token ns t.shape) len ts)

-- The table

-- a number of 64 bits, and one of 32 bits
abbrev pub any : Slot
any = counts 0 18446744073709551615

abbrev pub half : Slot
half = counts 0 4294967295

abbrev pub prefix : Slot → Pattern → Pattern
prefix x p = record { slots = x ∷ p.slots; meaning = p.meaning }

abbrev pub form : List ℕ → List Slot → (List ℕ → Spoken) → Pattern
form w xs f = record { slots = opens ∷ says w ∷ xs; meaning = f }

-- a call of this operation
abbrev pub call_form : List ℕ → List Slot → (List ℕ → Spoken) → Pattern
call_form w xs f = form (codes "call") (any ∷ opens ∷ says w ∷ xs) f

abbrev pub ended : (List ℕ → Spoken) → Pattern
ended f = record { slots = closes ∷ []; meaning = f }

abbrev pub paired : List ℕ → List (ℕ × ℕ)
paired [] = []
paired (l ∷ []) = []
paired (l ∷ k ∷ ns) = (l, k) ∷ paired ns

-- one pair in front
abbrev pub with_pair : Pattern → Pattern
with_pair p = prefix opens (prefix (counts 0 128) (prefix (counts 0 255) (prefix closes p)))

-- up to so many pairs and the last bracket
abbrev pub pairs_up_to : ℕ → List Pattern
pairs_up_to zero = ended (λ ns. cut (paired ns)) ∷ []
pairs_up_to (suc m) = ended (λ ns. cut (paired ns)) ∷ map with_pair (pairs_up_to m)

abbrev pub simple : List Pattern
simple =
    form (codes "memory") (says (codes "lazy") ∷ counts 8 16 ∷ closes ∷ []) (λ ns. memory Lazy (slice_index ns 0))
    ∷ form (codes "memory") (says (codes "through") ∷ counts 8 16 ∷ closes ∷ []) (λ ns. memory Through (slice_index ns 0))
    ∷ form (codes "object") (says (codes "tally") ∷ closes ∷ []) (λ ns. object Tally)
    ∷ form (codes "object") (says (codes "slots") ∷ closes ∷ []) (λ ns. object Slots)
    ∷ form (codes "start") (closes ∷ []) (λ ns. start)
    ∷ form (codes "rise") (closes ∷ []) (λ ns. rise)
    ∷ call_form (codes "add") (any ∷ closes ∷ closes ∷ []) (λ ns. call (slice_index ns 0) (Add (slice_index ns 1)))
    ∷ call_form (codes "read") (closes ∷ closes ∷ []) (λ ns. call (slice_index ns 0) Read)
    ∷ call_form (codes "reserve") (half ∷ half ∷ closes ∷ closes ∷ []) (λ ns. call (slice_index ns 0) (Reserve (slice_index ns 1) (slice_index ns 2)))
    ∷ call_form (codes "cancel") (any ∷ closes ∷ closes ∷ []) (λ ns. call (slice_index ns 0) (Cancel (slice_index ns 1)))
    ∷ call_form (codes "holder") (any ∷ closes ∷ closes ∷ []) (λ ns. call (slice_index ns 0) (Holder (slice_index ns 1)))
    ∷ form (codes "steps") (any ∷ counts 1 18446744073709551615 ∷ closes ∷ []) (λ ns. steps (slice_index ns 0) (slice_index ns 1))
    ∷ form (codes "outcome") (any ∷ any ∷ any ∷ closes ∷ []) (λ ns. outcome (slice_index ns 0) (slice_index ns 1) (slice_index ns 2))
    ∷ []

abbrev pub table : List Pattern
table = simple ++ map (λ p. prefix opens (prefix (says (codes "cut")) p)) (pairs_up_to 16)

-- a line of more than 200 bytes is not read
abbrev pub read_line : List ℕ → Result Spoken Fault
read_line line = cond (nat_lt 200 (length line)) (Err (unreadable 201)) (read_by table [] (length line) (tokens_of line))

-- the form that a reader answered, or its fault
abbrev pub said : Result Form Fault → Result Spoken Fault
said (Ok f) = Ok (spoken_by f)
said (Err f) = Err f
