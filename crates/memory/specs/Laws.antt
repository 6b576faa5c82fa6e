-- What every memory promises, in terms of the stores that were made: whatever list of stores, write-backs and fences it
-- was given, whatever settled early, and whatever a cut then keeps.
use Rattle.std.specs.Prelude.{◌≡◌, ℕ, ◌+◌, ◌<◌, ◌≤◌, cond, ◌&&◌, List, [], ◌∷◌, ◌++◌, length, take, ◌==◌, ◌≢◌, nat_lt, slice_index}
use Rattle.memory.specs.Model.{Mem, line_at, written, loaded, loaded_line, stored, written_back, fenced, cut}
use Rattle.memory.specs.declared.types.Store.{Store}

pub data Act : Type 0 where
  store : ℕ → ℕ → ℕ → Act  -- line, word, value
  write_back : ℕ → Act
  fence : Act

-- an act that is done, and how many stores of each line settle early with it
pub record Done : Type 0 where
  pub act : Act
  pub early : List ℕ

abbrev pub acted : Act → List ℕ → Mem → Mem
acted (store l w v) ns m = stored ns m l w v
acted (write_back l) ns m = written_back ns m l
acted fence ns m = fenced ns m

-- a memory after a list of acts, the first one first
abbrev pub after : List Done → Mem → Mem
after [] m = m
after (d ∷ ds) m = after ds (acted d.act d.early m)

-- the stores that were made on line l
abbrev pub store_on : ℕ → Act → List Store
store_on l (store k w v) = cond (k == l && nat_lt w 8) (record { word = w; value = v } ∷ []) []
store_on l (write_back k) = []
store_on l fence = []

abbrev pub made_on : ℕ → List Done → List Store
made_on l [] = []
made_on l (d ∷ ds) = store_on l d.act ++ made_on l ds

-- the newest value stored on word w, or v where there is none
abbrev pub newest : ℕ → List Store → ℕ → ℕ
newest w [] v = v
newest w (s ∷ ss) v = newest w ss (cond (s.word == w) s.value v)

-- how many stores of line l there are, how many of them a write-back has asked for, and how many of these before the
-- last fence
pub record Count : Type 0 where
  pub made : ℕ
  pub asked : ℕ
  pub promised : ℕ

abbrev pub counted : ℕ → Act → Count → Count
counted l (store k w v) c = cond (k == l && nat_lt w 8) (record { made = c.made + 1; asked = c.asked; promised = c.promised }) c
counted l (write_back k) c = cond (k == l) (record { made = c.made; asked = c.made; promised = c.promised }) c
counted l fence c = record { made = c.made; asked = c.asked; promised = c.asked }

abbrev pub counted_all : ℕ → List Done → Count → Count
counted_all l [] c = c
counted_all l (d ∷ ds) c = counted_all l ds (counted l d.act c)

-- the stores that line l begins with, and those made on it since
abbrev pub stores_of : ℕ → Mem → List Done → List Store
stores_of l m ds = (line_at m l).pending ++ made_on l ds

abbrev pub promised_of : ℕ → Mem → List Done → ℕ
promised_of l m ds = (counted_all l ds (record { made = length (line_at m l).pending; asked = (line_at m l).asked; promised = 0 })).promised

-- the words that are found after a cut, where ss were the stores on a line that held `old`
pub record Survived (old : List ℕ) (ss : List Store) (least : ℕ) (found : List ℕ) : Type 0 where
  -- a first part of the stores is kept, at least those promised
  pub kept : ℕ
  pub at_most : kept ≤ length ss
  pub at_least : least ≤ kept
  pub first_part : found ≡ written old (take kept ss)
  -- no store survives one that was made before it: where a value is found that only s can have put there, all the
  -- stores before s were kept
  pub in_order : (before behind : List Store) (s : Store) → ss ≡ before ++ (s ∷ behind) →
      ((k : ℕ) → slice_index (written old (take k before)) s.word ≢ s.value) → slice_index found s.word ≡ s.value → length before < kept

pub record SettlesInOrder (m : Mem) : Type 0 where
  -- a load gives the newest store made on its word, whatever has settled
  pub loads_newest : (ds : List Done) (l w : ℕ) → l < length m.lines → w < 8 → loaded (after ds m) l w ≡ newest w (made_on l ds) (loaded m l w)
  -- and 0 at an absent line or word
  pub absent_line : (ds : List Done) (l w : ℕ) → length m.lines ≤ l → loaded (after ds m) l w ≡ 0
  pub absent_word : (ds : List Done) (l w : ℕ) → 8 ≤ w → loaded (after ds m) l w ≡ 0
  -- a cut leaves of each line a first part of its stores, with all that was asked for before the last fence
  pub survives : (ds : List Done) (ns : List ℕ) (l : ℕ) → l < length m.lines →
      Survived (line_at m l).settled (stores_of l m ds) (promised_of l m ds) (loaded_line (cut ns (after ds m)) l)
