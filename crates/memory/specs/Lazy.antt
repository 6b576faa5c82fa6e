-- The lazy memory: what its records stand for, and what settles early.
use Rattle.std.specs.Prelude.{◌≡◌, ℕ, ◌<◌, cond, List, [], ◌∷◌, map, length, take, nat_lt}
use Rattle.std.proofs.Common.{arith}
use Rattle.std.specs.List.{AllByRecursion}
use Rattle.std.proofs.ByRecursion.{all_from_every, All-take}
use Rattle.std.proofs.lemmas.List.{length-take-le}
use Rattle.memory.specs.Model.{Line, Mem, WholeLine}
use Rattle.memory.specs.declared.types.LineRec.{LineRec}

abbrev pub line_of : LineRec → Line
line_of r = record { settled = r.settled; pending = take r.count r.stores; asked = r.asked }

abbrev pub lazy_mem : List LineRec → ℕ → Mem
lazy_mem rs n = record { lines = map line_of rs; fences = n }

-- every store of a record is on one of the eight words
pub stores_within : (r : LineRec) → AllByRecursion (λ s. s.word < 8) r.stores
stores_within r = all_from_every _ r.stores (λ k d low high. r.within k d low (omega (arith, r.places)))

pub pending_length : (r : LineRec) → length (take r.count r.stores) ≡ r.count
pending_length r = length-take-le r.count r.stores (omega (arith, r.places, r.counted))

pub line_whole : (r : LineRec) → WholeLine (line_of r)
line_whole r = record {
  eight_words = r.words;
  stores_within = All-take _ r.count r.stores (stores_within r);
  asked_pending = let e = pending_length r in let a = r.asked_for in omega arith;
}

pub lazy_whole : (rs : List LineRec) → AllByRecursion WholeLine (map line_of rs)
lazy_whole [] = tt
lazy_whole (r ∷ rs) = (line_whole r, lazy_whole rs)

-- the oldest store settles early where a line has come to have seventeen, and nothing else does
abbrev pub early_count : Line → ℕ
early_count x = cond (nat_lt 16 (length x.pending)) 1 0
