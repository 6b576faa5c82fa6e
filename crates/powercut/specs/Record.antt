-- A booking on a line: how it is stored, what is found of it, and what a power cut may leave.
use Rattle.std.specs.Prelude.{◌≡◌, ℕ, ◌<◌, cond, List, [], ◌∷◌, length, Some, None, Option, ◌==◌, slice_index}
use Rattle.memory.specs.Model.{Mem, line_at, blank_line}
use Rattle.memory.specs.Laws.{Done}
use Rattle.memory.specs.Laws.Act.{store}
use Rattle.powercut.specs.declared.booking.Booking.{Booking}

abbrev pub found_in : List ℕ → Option Booking
found_in ws = cond (slice_index ws 7 == 1) (Some (record { number = slice_index ws 0; container = slice_index ws 1; slot = slice_index ws 2 })) None

-- the four stores, the mark last, each with what settles early
abbrev pub stores : Booking → List ℕ → List ℕ → List ℕ → List ℕ → List Done
stores b n₁ n₂ n₃ n₄ =
    record { act = store 0 0 b.number; early = n₁ } ∷ record { act = store 0 1 b.container; early = n₂ }
    ∷ record { act = store 0 2 b.slot; early = n₃ } ∷ record { act = store 0 7 1; early = n₄ } ∷ []

abbrev pub BlankFirst : Mem → Type 0
BlankFirst m = (0 < length m.lines) × (line_at m 0 ≡ blank_line)

-- nothing is found, or the whole booking
abbrev pub WholeOrNothing : Booking → Option Booking → Type 0
WholeOrNothing b None = Unit
WholeOrNothing b (Some x) = x ≡ b
