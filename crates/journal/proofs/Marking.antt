-- Where the logs begin and end, and the list of all of them.
use Rattle.std.proofs.Common.{◌≡◌, ℕ, zero, suc, pred, ◌+◌, ◌-◌, ◌*◌, ◌^◌, ◌<◌, ◌≤◌, min, List, ◌∷◌, map, length, get_or, take, drop, sym, refl, ap, ◌∙◌, ap₂, sub-one, arith}
use Rattle.std.proofs.lemmas.List.{length-map, drop_min, drop_more}
use Rattle.memory.specs.Model.{Mem, words_of}
use Rattle.model.specs.Journal.{Entry, log_length, log_start, log_of, log_entries, stations}

-- the start as it is computed, which stops at the greatest number
pub start_is : (s L n q r : ℕ) → n < 2 ^ 64 → q ≡ min (1 + (s - 1) * L) (2 ^ 64 - 1) → r ≡ min q n → r ≡ min (log_start L s) n
start_is s L n q r h e f =
    let same : (s - 1) * L ≡ pred s * L = ap (λ x. x * L) (sub-one s) in
    omega arith

pub log_is : (m : Mem) (s first : ℕ) → first ≡ min (log_start (log_length m) s) (length m.lines) →
    take (log_length m) (drop first (map words_of m.lines)) ≡ log_of m (log_length m) s
log_is m s first e =
    let ws = map words_of m.lines in
    let start = log_start (log_length m) s in
    ap (λ (k : ℕ). take (log_length m) (drop k ws)) (e ∙ ap (min start) (sym (length-map m.lines words_of))) ∙ ap (take (log_length m)) (drop_min start ws)

-- the logs of the stations s, s + 1, .., 8
abbrev pub logs_from : Mem → ℕ → List (List Entry)
logs_from m s = map (log_entries m) (drop (s - 1) stations)

station_at : (k : ℕ) → k < 8 → get_or stations k 0 ≡ suc k
station_at zero h = refl
station_at (suc zero) h = refl
station_at (suc (suc zero)) h = refl
station_at (suc (suc (suc zero))) h = refl
station_at (suc (suc (suc (suc zero)))) h = refl
station_at (suc (suc (suc (suc (suc zero))))) h = refl
station_at (suc (suc (suc (suc (suc (suc zero)))))) h = refl
station_at (suc (suc (suc (suc (suc (suc (suc zero))))))) h = refl
station_at (suc (suc (suc (suc (suc (suc (suc (suc k)))))))) h = absurd (omega arith)

pub logs_more : (m : Mem) (s : ℕ) → 1 ≤ s → s ≤ 8 → logs_from m s ≡ log_entries m s ∷ logs_from m (s + 1)
logs_more m s h k =
    let here : get_or stations (s - 1) 0 ≡ s = station_at (s - 1) (omega arith) ∙ omega arith in
    ap (map (log_entries m)) (drop_more stations (s - 1) 0 (let z : s - 1 < 8 = omega arith in z))
    ∙ ap₂ (λ (x n : ℕ). log_entries m x ∷ map (log_entries m) (drop n stations)) here (let z : s - 1 + 1 ≡ s + 1 - 1 = omega arith in z)
