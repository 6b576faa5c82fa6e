-- No entry stands for a place above the last one.
use Rattle.std.proofs.Common.{◌≡◌, ℕ, zero, suc, pred, ◌≤◌, max, true, leb, List, [], ◌∷◌, map, arith}
use Rattle.std.proofs.lemmas.Bool.{and_parts, leb-true, cond_both}
use Rattle.memory.specs.Model.{Mem}
use Rattle.model.specs.Journal.{max_place, max_lines, word, within, begins, stands, Entry, entries, log_of, log_length, log_entries, stations, top, tops, last_place}

place_begun : (owner : ℕ) (l : List ℕ) (ls : List (List ℕ)) → stands owner (l ∷ ls) ≡ true → word l 0 ≤ max_place
place_begun owner l ls e =
    let b = (and_parts (begins owner l) _ e).0 in
    let p = (and_parts (within 1 (word l 1) max_lines) _ b).1 in
    leb-true (word l 0) max_place (and_parts (leb (word l 0) max_place) _ p).0

top_within : (n owner skip : ℕ) (ls : List (List ℕ)) → n ≤ max_place → top n (entries owner skip ls) ≤ max_place
top_within n owner zero [] h = h
top_within n owner (suc skip) [] h = h
top_within n owner (suc skip) (l ∷ ls) h = top_within n owner skip ls h
top_within n owner zero (l ∷ ls) h =
    cond_both (stands owner (l ∷ ls)) _ [] (λ (es : List Entry). top n es ≤ max_place)
    (λ e. top_within (max n (word l 0)) owner (pred (word l 1)) ls (omega (arith, place_begun owner l ls e)))
    (λ e. h)

log_within : (m : Mem) (n s : ℕ) → n ≤ max_place → top n (log_entries m s) ≤ max_place
log_within m n s h = top_within n s 0 (log_of m (log_length m) s) h

pub last_within : (m : Mem) → last_place m ≤ max_place
last_within m = all 0 stations (omega arith)
  where
    all : (n : ℕ) (ss : List ℕ) → n ≤ max_place → tops n (map (log_entries m) ss) ≤ max_place
    all n [] h = h
    all n (s ∷ ss) h = all (top n (log_entries m s)) ss (log_within m n s h)
