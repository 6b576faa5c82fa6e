-- A store or a write-back at an absent line or word.
use Rattle.std.proofs.Common.{◌≡◌, ℕ, ◌≤◌, List, length, sym}
use Rattle.std.proofs.lemmas.Bool.{cond-false, le-ltb, and_left, and_right}
use Rattle.memory.specs.Model.{Mem, has_line, stored, written_back}

pub stored_no_line : (ns : List ℕ) (m : Mem) (l w v : ℕ) → length m.lines ≤ l → m ≡ stored ns m l w v
stored_no_line ns m l w v h = sym (cond-false _ _ _ (and_left _ _ (le-ltb l (length m.lines) h)))

pub stored_no_word : (ns : List ℕ) (m : Mem) (l w v : ℕ) → 8 ≤ w → m ≡ stored ns m l w v
stored_no_word ns m l w v h = sym (cond-false _ _ _ (and_right (has_line m l) _ (le-ltb w 8 h)))

pub asked_no_line : (ns : List ℕ) (m : Mem) (l : ℕ) → length m.lines ≤ l → m ≡ written_back ns m l
asked_no_line ns m l h = sym (cond-false _ _ _ (le-ltb l (length m.lines) h))
