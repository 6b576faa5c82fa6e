-- How updates lie in the memory, and what reading finds.
--
-- Line 0 holds the number of the newest run in word 0. Behind it each of the eight stations has a log of L lines. An
-- entry is one to eight lines of a log. Line t of an entry for the place e carries the update at the place e - t, in
-- these words: 0 place, 1 m, the number of the entry's lines, 2 t, 3 station, 4 call number, 5 code, 6 argument,
-- 7 run number, called the mark.
use Rattle.std.specs.Prelude.{◌≡◌, ℕ, zero, suc, pred, ◌+◌, ◌-◌, ◌*◌, ◌/◌, ◌≤◌, max, Bool, true, false, cond, ◌&&◌, List, [], ◌∷◌, ◌++◌, map, length, take, drop, ◌==◌, nat_le, nat_lt, slice_index}
use Rattle.memory.specs.Model.{Mem, words_of}
use Rattle.model.specs.declared.types.Update.{Update}

-- The limits

abbrev pub max_run : ℕ
max_run = 65535

-- of a place, and of a call number
abbrev pub max_place : ℕ
max_place = 256

abbrev pub station_count : ℕ
station_count = 8

-- of the lines of an entry
abbrev pub max_lines : ℕ
max_lines = 8

abbrev pub min_log : ℕ
min_log = 8

abbrev pub max_log : ℕ
max_log = 64

-- Lines

abbrev pub word : List ℕ → ℕ → ℕ
word l w = slice_index l w

abbrev pub entry_line : ℕ → ℕ → ℕ → Update → List ℕ
entry_line e m t u = (e - t) ∷ m ∷ t ∷ u.station ∷ u.call ∷ u.op.code ∷ u.op.argument ∷ u.run ∷ []

abbrev pub update_in : List ℕ → Update
update_in l = record { run = word l 7; station = word l 3; call = word l 4; op = record { code = word l 5; argument = word l 6 } }

abbrev pub within : ℕ → ℕ → ℕ → Bool
within low n high = nat_le low n && nat_le n high

-- Entries

-- a line is line t of an entry for e with m lines and this mark
abbrev pub line_fits : ℕ → ℕ → ℕ → ℕ → List ℕ → Bool
line_fits e m mark t l =
    nat_lt t e && (word l 0 == e - t && (word l 1 == m && (word l 2 == t && (within 1 (word l 3) station_count && (within 1 (word l 4) max_place && word l 7 == mark)))))

-- the next n lines are lines t, t + 1, .. of such an entry
abbrev pub lines_fit : ℕ → ℕ → ℕ → ℕ → ℕ → List (List ℕ) → Bool
lines_fit zero e m mark t ls = true
lines_fit (suc n) e m mark t [] = false
lines_fit (suc n) e m mark t (l ∷ ls) = line_fits e m mark t l && lines_fit n e m mark (t + 1) ls

-- a line can be the first of an entry in the log of station `owner`
abbrev pub begins : ℕ → List ℕ → Bool
begins owner l = within 1 (word l 1) max_lines && (nat_le (word l 0) max_place && (word l 3 == owner && within 1 (word l 7) max_run))

-- an entry of station `owner` stands at the front of these lines
abbrev pub stands : ℕ → List (List ℕ) → Bool
stands owner [] = false
stands owner (l ∷ ls) = begins owner l && lines_fit (word l 1) (word l 0) (word l 1) (word l 7) 0 (l ∷ ls)

pub record Entry : Type 0 where
  pub place : ℕ
  pub lines : List (List ℕ)

-- the entries of a log, read from its first line until none stands; `skip` lines belong to the entry before
abbrev pub entries : ℕ → ℕ → List (List ℕ) → List Entry
entries owner skip [] = []
entries owner (suc skip) (l ∷ ls) = entries owner skip ls
entries owner zero (l ∷ ls) = cond (stands owner (l ∷ ls)) (record { place = word l 0; lines = take (word l 1) (l ∷ ls) } ∷ entries owner (pred (word l 1)) ls) []

-- the lines that entries use; the free lines of the log begin behind them
abbrev pub used_lines : List Entry → ℕ
used_lines [] = 0
used_lines (f ∷ fs) = length f.lines + used_lines fs

-- Logs

-- how many lines a log has
abbrev pub log_length : Mem → ℕ
log_length m = (length m.lines - 1) / station_count

-- where the log of station s begins
abbrev pub log_start : ℕ → ℕ → ℕ
log_start L s = 1 + pred s * L

abbrev pub log_of : Mem → ℕ → ℕ → List (List ℕ)
log_of m L s = take L (drop (log_start L s) (map words_of m.lines))

abbrev pub log_entries : Mem → ℕ → List Entry
log_entries m s = entries s 0 (log_of m (log_length m) s)

abbrev pub stations : List ℕ
stations = 1 ∷ 2 ∷ 3 ∷ 4 ∷ 5 ∷ 6 ∷ 7 ∷ 8 ∷ []

abbrev pub logs : Mem → List (List Entry)
logs m = map (log_entries m) stations

-- the greatest place that an entry stands for
abbrev pub top : ℕ → List Entry → ℕ
top n [] = n
top n (f ∷ fs) = top (max n f.place) fs

abbrev pub tops : ℕ → List (List Entry) → ℕ
tops n [] = n
tops n (fs ∷ fss) = tops (top n fs) fss

abbrev pub last_place : Mem → ℕ
last_place m = tops 0 (logs m)

-- Places

-- the lines that hold the place i, in the order of the logs
abbrev pub holding_lines : ℕ → List (List ℕ) → List (List ℕ)
holding_lines i [] = []
holding_lines i (l ∷ ls) = cond (word l 0 == i) (l ∷ holding_lines i ls) (holding_lines i ls)

abbrev pub holding_entries : ℕ → List Entry → List (List ℕ)
holding_entries i [] = []
holding_entries i (f ∷ fs) = holding_lines i f.lines ++ holding_entries i fs

abbrev pub holding : ℕ → List (List Entry) → List (List ℕ)
holding i [] = []
holding i (fs ∷ fss) = holding_entries i fs ++ holding i fss

-- two lines agree in words 3 to 7
abbrev pub same_update : List ℕ → List ℕ → Bool
same_update a b = word a 3 == word b 3 && (word a 4 == word b 4 && (word a 5 == word b 5 && (word a 6 == word b 6 && word a 7 == word b 7)))

abbrev pub agree : List ℕ → List (List ℕ) → Bool
agree a [] = true
agree a (l ∷ ls) = same_update a l && agree a ls

-- Writing

-- lines t, t + 1, .. of an entry of m lines for e
abbrev pub lines_from : ℕ → ℕ → ℕ → List Update → List (List ℕ)
lines_from e m t [] = []
lines_from e m t (u ∷ us) = entry_line e m t u ∷ lines_from e m (t + 1) us

-- updates whose identities can be read again, all of the run `mark`
abbrev pub Readable : ℕ → List Update → Type 0
Readable mark [] = Unit
Readable mark (u ∷ us) = (u.run ≡ mark) × (1 ≤ u.station) × (u.station ≤ station_count) × (1 ≤ u.call) × (u.call ≤ max_place) × Readable mark us

-- the lines of an entry are read back as the same updates, and reading goes on behind them
abbrev pub ReadsBack : Type 0
ReadsBack = (e mark : ℕ) (u : Update) (us : List Update) (rest : List (List ℕ)) → Readable mark (u ∷ us) →
    length (u ∷ us) ≤ max_lines → length (u ∷ us) ≤ e → e ≤ max_place → 1 ≤ mark → mark ≤ max_run →
    (entries u.station 0 (lines_from e (length (u ∷ us)) 0 (u ∷ us) ++ rest)
    ≡ record { place = e; lines = lines_from e (length (u ∷ us)) 0 (u ∷ us) } ∷ entries u.station 0 rest)
    × (map update_in (lines_from e (length (u ∷ us)) 0 (u ∷ us)) ≡ u ∷ us)
