-- What a memory means: for each line its settled words, the stores on it that have not settled, oldest first, and how
-- many of these a write-back has asked for; and a count of fences.
use Rattle.std.specs.Prelude.{◌≡◌, ℕ, ◌+◌, ◌-◌, ◌%◌, ◌^◌, ◌<◌, ◌≤◌, min, max, Bool, cond, ◌&&◌, List, [], ◌∷◌, ◌++◌, map, length, take, drop, replicate, nat_lt, slice_index, slice_index_or, slice_set}
use Rattle.std.specs.List.{AllByRecursion}
use Rattle.memory.specs.declared.types.Store.{Store}

pub record Line : Type 0 where
  pub settled : List ℕ
  pub pending : List Store
  pub asked : ℕ

pub record Mem : Type 0 where
  pub lines : List Line
  pub fences : ℕ

-- a line with these words settled, and nothing pending
abbrev pub settled_line : List ℕ → Line
settled_line ws = record { settled = ws; pending = []; asked = 0 }

abbrev pub blank_line : Line
blank_line = settled_line (replicate 8 0)

abbrev pub blank : ℕ → Mem
blank n = record { lines = replicate n blank_line; fences = 0 }

abbrev pub line_at : Mem → ℕ → Line
line_at m l = slice_index_or m.lines l blank_line

abbrev pub has_line : Mem → ℕ → Bool
has_line m l = nat_lt l (length m.lines)

-- words after stores made on them, the first one first
abbrev pub written : List ℕ → List Store → List ℕ
written ws [] = ws
written ws (s ∷ ss) = written (slice_set ws s.word s.value) ss

-- load: the settled words with the unsettled stores made on them; 0 at an absent line or word
abbrev pub words_of : Line → List ℕ
words_of x = written x.settled x.pending

abbrev pub loaded_line : Mem → ℕ → List ℕ
loaded_line m l = words_of (line_at m l)

abbrev pub loaded : Mem → ℕ → ℕ → ℕ
loaded m l w = slice_index (loaded_line m l) w

-- the n oldest stores of a line settle, or all if there are fewer; asked falls by as many, to 0 at least
abbrev pub settle : ℕ → Line → Line
settle n x = record { settled = written x.settled (take n x.pending); pending = drop n x.pending; asked = x.asked - min n (length x.pending) }

-- a line function with its own number at each line, 0 where the numbers have ended
abbrev pub each : (ℕ → Line → Line) → List ℕ → List Line → List Line
each f ns [] = []
each f [] (x ∷ xs) = f 0 x ∷ each f [] xs
each f (n ∷ ns) (x ∷ xs) = f n x ∷ each f ns xs

-- early settling: ns has, for each line, how many of its oldest stores settle
abbrev pub early : List ℕ → Mem → Mem
early ns m = record { lines = each settle ns m.lines; fences = m.fences }

abbrev pub with_line : Mem → ℕ → Line → Mem
with_line m l x = record { lines = slice_set m.lines l x; fences = m.fences }

-- store, before anything settles early
abbrev pub push_store : Line → ℕ → ℕ → Line
push_store x w v = record { settled = x.settled; pending = x.pending ++ (record { word = w; value = v } ∷ []); asked = x.asked }

abbrev pub pushed : Mem → ℕ → ℕ → ℕ → Mem
pushed m l w v = with_line m l (push_store (line_at m l) w v)

-- store: at an absent line or word nothing happens at all
abbrev pub stored : List ℕ → Mem → ℕ → ℕ → ℕ → Mem
stored ns m l w v = cond (has_line m l && nat_lt w 8) (early ns (pushed m l w v)) m

-- write-back, before anything settles early
abbrev pub ask : Line → Line
ask x = record { settled = x.settled; pending = x.pending; asked = length x.pending }

abbrev pub marked : Mem → ℕ → Mem
marked m l = with_line m l (ask (line_at m l))

-- write-back: at an absent line nothing happens at all
abbrev pub written_back : List ℕ → Mem → ℕ → Mem
written_back ns m l = cond (has_line m l) (early ns (marked m l)) m

-- fence: what was asked for settles, and n stores at least
abbrev pub fence_line : ℕ → Line → Line
fence_line n x = record { settled = (settle (max x.asked n) x).settled; pending = (settle (max x.asked n) x).pending; asked = 0 }

abbrev pub fenced : List ℕ → Mem → Mem
fenced ns m = record { lines = each fence_line ns m.lines; fences = (m.fences + 1) % 2 ^ 32 }

-- cut: the n oldest stores settle, and the others are lost
abbrev pub cut_line : ℕ → Line → Line
cut_line n x = record { settled = written x.settled (take n x.pending); pending = []; asked = 0 }

abbrev pub cut : List ℕ → Mem → Mem
cut ns m = record { lines = each cut_line ns m.lines; fences = 0 }

-- the numbers that a rule chooses, line by line
abbrev pub chosen : (Line → ℕ) → Mem → List ℕ
chosen c m = map c m.lines

-- what a memory is free in, and its limits. `early_by m ns`: where a store, a write-back or a fence has made m,
-- ns stores of its lines may settle early. `kept_by m bytes ns`: a cut of m with these bytes may keep ns
pub record Freedom : Type 1 where
  pub early_by : Mem → List ℕ → Type 0
  pub kept_by : Mem → List ℕ → List ℕ → Type 0

-- what every memory shows of its lines: eight words, stores on these alone, no more asked for than is pending
pub record WholeLine (x : Line) : Type 0 where
  pub eight_words : length x.settled ≡ 8
  pub stores_within : AllByRecursion (λ s. s.word < 8) x.pending
  pub asked_pending : x.asked ≤ length x.pending

abbrev pub Whole : Mem → Type 0
Whole m = AllByRecursion WholeLine m.lines
