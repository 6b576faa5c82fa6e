-- What a line says: a form without the unused places of its pairs.
use Rattle.std.specs.Prelude.{ℕ, ◌^◌, ◌<◌, ◌≤◌, List, map, length, take}
use Rattle.std.specs.List.{AllByRecursion}
use Rattle.forms.specs.declared.types.MemoryKind.{MemoryKind}
use Rattle.forms.specs.declared.types.BookKind.{BookKind}
use Rattle.forms.specs.declared.types.Request.{Request}
use Rattle.forms.specs.declared.types.Request.TheVariants.{Add, Read, Reserve, Cancel, Holder}
use Rattle.forms.specs.declared.types.Pair.{Pair}
use Rattle.forms.specs.declared.types.Pairs.{Pairs}
use Rattle.forms.specs.declared.types.Form.{Form}
use Rattle.forms.specs.declared.types.Form.TheVariants as forms

pub data Spoken : Type 0 where
  memory : MemoryKind → ℕ → Spoken
  object : BookKind → Spoken
  start : Spoken
  rise : Spoken
  call : ℕ → Request → Spoken
  steps : ℕ → ℕ → Spoken
  outcome : ℕ → ℕ → ℕ → Spoken
  cut : List (ℕ × ℕ) → Spoken

abbrev pub pair_of : Pair → ℕ × ℕ
pair_of p = (p.line, p.kept)

abbrev pub pairs_in : Pairs → List (ℕ × ℕ)
pairs_in ps = map pair_of (take ps.count ps.pairs)

abbrev pub spoken_by : Form → Spoken
spoken_by (forms.Memory k n) = memory k n
spoken_by (forms.Object b) = object b
spoken_by forms.Start = start
spoken_by forms.Rise = rise
spoken_by (forms.Call s q) = call s q
spoken_by (forms.Steps s c) = steps s c
spoken_by (forms.Outcome r s n) = outcome r s n
spoken_by (forms.Cut ps) = cut (pairs_in ps)

-- its numbers are in the ranges that scripts allow
abbrev pub ProperRequest : Request → Type 0
ProperRequest (Add n) = n < 2 ^ 64
ProperRequest Read = Unit
ProperRequest (Reserve s b) = (s < 2 ^ 32) × (b < 2 ^ 32)
ProperRequest (Cancel n) = n < 2 ^ 64
ProperRequest (Holder s) = s < 2 ^ 64

abbrev pub ProperPair : ℕ × ℕ → Type 0
ProperPair p = (p.0 ≤ 128) × (p.1 ≤ 255)

abbrev pub Proper : Spoken → Type 0
Proper (memory k n) = (8 ≤ n) × (n ≤ 16)
Proper (object b) = Unit
Proper start = Unit
Proper rise = Unit
Proper (call s q) = (s < 2 ^ 64) × ProperRequest q
Proper (steps s c) = (s < 2 ^ 64) × (1 ≤ c) × (c < 2 ^ 64)
Proper (outcome r s n) = (r < 2 ^ 64) × (s < 2 ^ 64) × (n < 2 ^ 64)
Proper (cut ps) = (length ps ≤ 16) × AllByRecursion ProperPair ps
