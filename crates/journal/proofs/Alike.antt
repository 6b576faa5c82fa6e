-- Memories that load alike are read alike.
use Rattle.std.proofs.Common.{◌≡◌, ℕ, ◌-◌, ◌/◌, ◌<◌, List, map, length, get_or, take, drop, sym, ap, ◌∙◌, ap₂, arith}
use Rattle.std.proofs.lemmas.List.{length-map, ext_get_or, get_or-map}
use Rattle.memory.specs.Model.{Mem, words_of, blank_line, loaded_line}
use Rattle.model.specs.Journal.{entries, log_start, station_count, log_entries, stations, logs, tops, holding}
use Rattle.journal.specs.Laws.{LoadsDecide}

words_at : (m : Mem) (l : ℕ) → l < length (map words_of m.lines) → get_or (map words_of m.lines) l (words_of blank_line) ≡ loaded_line m l
words_at m l h = let long = length-map m.lines words_of in get_or-map words_of m.lines l blank_line (words_of blank_line) (omega arith)

same_words : (m n : Mem) → length m.lines ≡ length n.lines → ((l : ℕ) → loaded_line m l ≡ loaded_line n l) → map words_of m.lines ≡ map words_of n.lines
same_words m n e f =
    let long = length-map m.lines words_of in
    let wide = length-map n.lines words_of in
    ext_get_or (words_of blank_line) (map words_of m.lines) (map words_of n.lines) (omega arith) (λ l h. words_at m l h ∙ f l ∙ sym (words_at n l (omega arith)))

pub loads_decide : LoadsDecide
loads_decide m n e f =
    let one : (s : ℕ) → log_entries m s ≡ log_entries n s =
    λ s. ap₂ (λ (k : ℕ) (ws : List (List ℕ)). entries s 0 (take ((k - 1) / station_count) (drop (log_start ((k - 1) / station_count) s) ws))) e (same_words m n e f) in
    let every : logs m ≡ logs n =
    ap₂ (λ (k : ℕ) (ws : List (List ℕ)). map (λ (s : ℕ). entries s 0 (take ((k - 1) / station_count) (drop (log_start ((k - 1) / station_count) s) ws))) stations) e (same_words m n e f) in
    record { each = one; all = every; last = ap (tops 0) every; held = λ i. ap (holding i) every }
