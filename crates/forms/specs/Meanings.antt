-- What a request and the pairs of a cut stand for.
use Rattle.std.specs.Prelude.{ℕ, ◌+◌, ◌*◌, ◌^◌, cond, List, [], ◌∷◌, ◌==◌}
use Rattle.book.specs.declared.types.Op.{Op}
use Rattle.forms.specs.declared.types.BookKind.{BookKind}
use Rattle.forms.specs.declared.types.BookKind.TheVariants.{Tally, Slots}
use Rattle.forms.specs.declared.types.Request.{Request}
use Rattle.forms.specs.declared.types.Request.TheVariants.{Add, Read, Reserve, Cancel, Holder}

-- the object that a request is one of
abbrev pub book_of : Request → BookKind
book_of (Add n) = Tally
book_of Read = Tally
book_of (Reserve s b) = Slots
book_of (Cancel n) = Slots
book_of (Holder s) = Slots

abbrev pub op_of : Request → Op
op_of (Add n) = record { code = 1; argument = n }
op_of Read = record { code = 2; argument = 0 }
op_of (Reserve s b) = record { code = 1; argument = s * 2 ^ 32 + b }
op_of (Cancel n) = record { code = 2; argument = n }
op_of (Holder s) = record { code = 3; argument = s }

-- what the last pair of a line keeps, and k where there is none
abbrev pub kept_on : ℕ → ℕ → List (ℕ × ℕ) → ℕ
kept_on l k [] = k
kept_on l k (p ∷ ps) = kept_on l (cond (p.0 == l) p.1 k) ps

abbrev pub kept_of : ℕ → List (ℕ × ℕ) → ℕ
kept_of l ps = kept_on l 0 ps
