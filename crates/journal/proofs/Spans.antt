-- Parts of the memory: their first line, their length, and how one splits.
use Rattle.std.proofs.Common.{◌≡◌, ℕ, suc, ◌+◌, ◌-◌, ◌<◌, ◌≤◌, min, List, [], ◌∷◌, map, length, take, drop, sym, ap, ◌∙◌, ap₂, inl, inr, arith}
use Rattle.std.proofs.lemmas.List.{length-map, length-take, drop_all, drop-take, drop-drop, drop_more, get_or-map}
use Rattle.std.proofs.lemmas.Bool.{cases_lt}
use Rattle.memory.specs.Model.{Mem, words_of, blank_line, loaded_line}
use Rattle.journal.specs.Reading.{span}

pub span_none : (m : Mem) (at end : ℕ) → end ≤ at → span m at end ≡ []
span_none m at end h = ap (λ n. take n (drop at (map words_of m.lines))) (let e : end - at ≡ 0 = omega arith in e)

pub span_more : (m : Mem) (at end : ℕ) → at < end → end ≤ length m.lines → span m at end ≡ loaded_line m at ∷ span m (at + 1) end
span_more m at end h k =
    let ws = map words_of m.lines in
    let long : length ws ≡ length m.lines = length-map m.lines words_of in
    let here : at < length ws = omega arith in
    let inside : at < length m.lines = omega arith in
    let n : end - at ≡ suc (end - (at + 1)) = omega arith in
    ap₂ take n (drop_more ws at (words_of blank_line) here)
    ∙ ap (λ (l : List ℕ). l ∷ take (end - (at + 1)) (drop (at + 1) ws)) (get_or-map words_of m.lines at blank_line (words_of blank_line) inside)

-- the lines behind the first n of a part
pub span_drop : (m : Mem) (at end n middle : ℕ) → middle ≡ min (at + n) end → span m middle end ≡ drop n (span m at end)
span_drop m at end n middle e =
    let ws = map words_of m.lines in
    elim (cases_lt end (at + n)) [
      | inl h ↦
          let long = length-take (end - at) (drop at ws) in
          span_none m middle end (omega arith) ∙ sym (drop_all n (span m at end) (omega arith))
      | inr h ↦
          ap (λ k. span m k end) (let z : middle ≡ at + n = omega arith in z)
          ∙ sym
          (ap (λ k. drop n (take k (drop at ws))) (let z : end - at ≡ n + (end - (at + n)) = omega arith in z)
          ∙ drop-take n (end - (at + n)) (drop at ws) ∙ ap (take (end - (at + n))) (drop-drop n at ws))
    ]
