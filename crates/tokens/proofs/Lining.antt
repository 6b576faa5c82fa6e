-- The first line of an input, and the lines behind it.
use Rattle.std.proofs.Common.{◌≡◌, ℕ, suc, ◌+◌, ◌-◌, ◌<◌, ◌≤◌, not, eqb, List, [], ◌∷◌, length, get_or, take, drop, sym, refl, ap, ◌∙◌, ap₂, inl, inr, one-add, arith, length-drop}
use Rattle.std.proofs.lemmas.List.{drop-drop, drop_all}
use Rattle.std.proofs.lemmas.List.Sums.{prefix_len-drop_yes, prefix_len-drop_no, prefix_len-drop_all}
use Rattle.std.proofs.lemmas.Bool.{cases_Bool, cond-true, cond-false, eq-eqb, ne_eqb}
use Rattle.tokens.specs.Lines.{before_first, lines_of, line_length}

-- how long a line is, byte by byte
module _ (input : List ℕ) (i : ℕ) (h : i < length input) where
  pub line_more : (get_or input i 0 ≡ 10 → ⊥) → line_length (drop i input) ≡ 1 + line_length (drop (i + 1) input)
  line_more other = prefix_len-drop_yes (λ b. not (eqb b 10)) input i 0 h (ap not (ne_eqb _ _ other))

  pub line_ends : get_or input i 0 ≡ 10 → line_length (drop i input) ≡ 0
  line_ends e = prefix_len-drop_no (λ b. not (eqb b 10)) input i 0 h (ap not (eq-eqb _ _ e))

pub line_over : (input : List ℕ) (i : ℕ) → length input ≤ i → line_length (drop i input) ≡ 0
line_over input i h = prefix_len-drop_all (λ b. not (eqb b 10)) input i h

-- bytes that there are begin with a line
abbrev Begins : List ℕ → Type 0
Begins [] = Unit
Begins (b ∷ bs) = lines_of (b ∷ bs) ≡ take (line_length (b ∷ bs)) (b ∷ bs) ∷ lines_of (drop (line_length (b ∷ bs) + 1) (b ∷ bs))

-- the line that bytes begin with, with one byte before it
longer : (b : ℕ) (bs : List ℕ) → Begins bs → before_first b (lines_of bs) ≡ take (suc (line_length bs)) (b ∷ bs) ∷ lines_of (drop (suc (line_length bs) + 1) (b ∷ bs))
longer b [] h = refl
longer b (c ∷ cs) h =
    let k = line_length (c ∷ cs) in
    let far : suc k + 1 ≡ suc (k + 1) = omega arith in
    ap (before_first b) h ∙ ap (λ n. (b ∷ take k (c ∷ cs)) ∷ lines_of (drop n (b ∷ (c ∷ cs)))) (sym far)

first_line : (bs : List ℕ) → Begins bs
first_line [] = tt
first_line (b ∷ bs) =
    elim (cases_Bool (eqb b 10)) [
      | inl e ↦
          cond-true _ ([] ∷ lines_of bs) _ e
          ∙ ap (λ k. take k (b ∷ bs) ∷ lines_of (drop (k + 1) (b ∷ bs))) (sym (cond-false _ (1 + line_length bs) 0 (ap not e)))
      | inr e ↦
          cond-false _ ([] ∷ lines_of bs) _ e ∙ longer b bs (first_line bs)
          ∙ ap (λ k. take k (b ∷ bs) ∷ lines_of (drop (k + 1) (b ∷ bs))) (sym (one-add (line_length bs)) ∙ sym (cond-true _ (1 + line_length bs) 0 (ap not e)))
    ]

begun : (bs : List ℕ) → 0 < length bs → lines_of bs ≡ take (line_length bs) bs ∷ lines_of (drop (line_length bs + 1) bs)
begun [] h = absurd (omega arith)
begun (b ∷ bs) h = first_line (b ∷ bs)

-- the line that begins at `at` and ends before `end`
pub line_there : (input : List ℕ) (at end : ℕ) → at < length input → end ≡ at + line_length (drop at input) →
    lines_of (drop at input) ≡ take (end - at) (drop at input) ∷ lines_of (drop (end + 1) input)
line_there input at end h is =
    let k = line_length (drop at input) in
    let long : end - at ≡ k = omega arith in
    let far : at + (k + 1) ≡ end + 1 = omega arith in
    begun (drop at input) (simp length-drop (omega arith))
    ∙ ap₂ (λ n (bs : List ℕ). take n (drop at input) ∷ lines_of bs) (sym long) (drop-drop (k + 1) at input ∙ ap (λ n. drop n input) far)

pub no_lines : (input : List ℕ) (at : ℕ) → length input ≤ at → lines_of (drop at input) ≡ []
no_lines input at h = ap lines_of (drop_all at input h)
