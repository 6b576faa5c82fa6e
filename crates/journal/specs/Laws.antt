-- What holds of reading, whatever the memory.
use Rattle.std.specs.Prelude.{◌≡◌, ℕ, ◌+◌, ◌≤◌, false, List, [], ◌∷◌, ◌++◌, map, length, take, drop}
use Rattle.memory.specs.Model.{Mem, loaded_line}
use Rattle.model.specs.Journal.{max_run, max_place, max_lines, update_in, stands, entries, used_lines, lines_from, Readable, log_entries, logs, last_place, holding}
use Rattle.model.specs.declared.types.Update.{Update}

-- the same is read from both
pub record ReadAlike (m n : Mem) : Type 0 where
  pub each : (s : ℕ) → log_entries m s ≡ log_entries n s
  pub all : logs m ≡ logs n
  pub last : last_place m ≡ last_place n
  pub held : (i : ℕ) → holding i (logs m) ≡ holding i (logs n)

-- what is read hangs on nothing but what the lines load
abbrev pub LoadsDecide : Type 0
LoadsDecide = (m n : Mem) → length m.lines ≡ length n.lines → ((l : ℕ) → loaded_line m l ≡ loaded_line n l) → ReadAlike m n

-- a log whose first free lines, behind those used, are now these
abbrev pub laid : List (List ℕ) → ℕ → List (List ℕ) → List (List ℕ)
laid log used new = take used log ++ (new ++ drop (used + length new) log)

-- the lines of an entry that are laid at the free lines of a log are read behind what was read before, as the same
-- updates; reading goes on behind them, and ends there where no entry stands
pub record LaidDown (log : List (List ℕ)) (owner e : ℕ) (us : List Update) (new : List (List ℕ)) : Type 0 where
  pub lines : length new ≡ length us
  pub updates : map update_in new ≡ us
  pub read : entries owner 0 (laid log (used_lines (entries owner 0 log)) new)
      ≡ entries owner 0 log ++ (record { place = e; lines = new } ∷ entries owner 0 (drop (used_lines (entries owner 0 log) + length new) log))
  pub ends : stands owner (drop (used_lines (entries owner 0 log) + length new) log) ≡ false →
      entries owner 0 (laid log (used_lines (entries owner 0 log)) new) ≡ entries owner 0 log ++ (record { place = e; lines = new } ∷ [])

abbrev pub LaysDown : Type 0
LaysDown = (log : List (List ℕ)) (e mark : ℕ) (u : Update) (us : List Update) → Readable mark (u ∷ us) →
    length (u ∷ us) ≤ max_lines → length (u ∷ us) ≤ e → e ≤ max_place → 1 ≤ mark → mark ≤ max_run →
    LaidDown log u.station e (u ∷ us) (lines_from e (length (u ∷ us)) 0 (u ∷ us))
