-- The plain spelling of a form: one blank between words and numbers, none inside a bracket.
use Rattle.std.specs.Prelude.{ℕ, cond, List, [], ◌∷◌, ◌++◌, codes, decimal, Option, Some, None}
use Rattle.std.specs.Str.{bytes_eq}
use Rattle.forms.specs.declared.types.MemoryKind.{MemoryKind}
use Rattle.forms.specs.declared.types.MemoryKind.TheVariants.{Lazy, Through}
use Rattle.forms.specs.declared.types.BookKind.{BookKind}
use Rattle.forms.specs.declared.types.BookKind.TheVariants.{Tally, Slots}
use Rattle.forms.specs.declared.types.Request.{Request}
use Rattle.forms.specs.declared.types.Request.TheVariants.{Add, Read, Reserve, Cancel, Holder}
use Rattle.forms.specs.Spoken.{Spoken, memory, object, start, rise, call, steps, outcome, cut}

abbrev pub kind_name : MemoryKind → List ℕ
kind_name Lazy = codes "lazy"
kind_name Through = codes "through"

abbrev pub book_name : BookKind → List ℕ
book_name Tally = codes "tally"
book_name Slots = codes "slots"

-- the kind that a word names
abbrev pub kind_named : List ℕ → Option MemoryKind
kind_named w = cond (bytes_eq w (codes "lazy")) (Some Lazy) (cond (bytes_eq w (codes "through")) (Some Through) None)

abbrev pub book_named : List ℕ → Option BookKind
book_named w = cond (bytes_eq w (codes "tally")) (Some Tally) (cond (bytes_eq w (codes "slots")) (Some Slots) None)

abbrev pub spelled_request : Request → List ℕ
spelled_request (Add n) = codes "(add " ++ (decimal n ++ codes ")")
spelled_request Read = codes "(read)"
spelled_request (Reserve s b) = codes "(reserve " ++ (decimal s ++ (codes " " ++ (decimal b ++ codes ")")))
spelled_request (Cancel n) = codes "(cancel " ++ (decimal n ++ codes ")")
spelled_request (Holder s) = codes "(holder " ++ (decimal s ++ codes ")")

-- a pair, with the blank before it
abbrev pub spelled_pair : ℕ × ℕ → List ℕ
spelled_pair p = codes " (" ++ (decimal p.0 ++ (codes " " ++ (decimal p.1 ++ codes ")")))

abbrev pub spelled_pairs : List (ℕ × ℕ) → List ℕ
spelled_pairs [] = []
spelled_pairs (p ∷ ps) = spelled_pair p ++ spelled_pairs ps

abbrev pub spelled : Spoken → List ℕ
spelled (memory k n) = codes "(memory " ++ (kind_name k ++ (codes " " ++ (decimal n ++ codes ")")))
spelled (object b) = codes "(object " ++ (book_name b ++ codes ")")
spelled start = codes "(start)"
spelled rise = codes "(rise)"
spelled (call s q) = codes "(call " ++ (decimal s ++ (codes " " ++ (spelled_request q ++ codes ")")))
spelled (steps s c) = codes "(steps " ++ (decimal s ++ (codes " " ++ (decimal c ++ codes ")")))
spelled (outcome r s n) = codes "(outcome " ++ (decimal r ++ (codes " " ++ (decimal s ++ (codes " " ++ (decimal n ++ codes ")")))))
spelled (cut ps) = codes "(cut" ++ (spelled_pairs ps ++ codes ")")
