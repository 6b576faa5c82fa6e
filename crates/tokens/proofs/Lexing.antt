-- One token after the other: what the lexer leaves are the tokens behind the one that it gave.
use Rattle.std.proofs.Common.{◌≡◌, ℕ, ◌+◌, ◌-◌, ◌<◌, ◌≤◌, min, max, Bool, true, false, cond, ◌&&◌, ◌||◌, List, [], ◌∷◌, length, get_or, take, drop, sym, refl, ap, ◌∙◌, ap₂, inl, inr, one-add, arith}
use Rattle.std.proofs.Math.Bool.{or-true, or-false, or_self}
use Rattle.std.proofs.lemmas.List.{drop-drop, drop_all, drop_more, get_or-take, get_or-drop}
use Rattle.std.proofs.lemmas.Bool.{cases_Bool, cases_lt, cond-true, cond-false, or_cases, and_parts, false≢true}
use Rattle.tokens.specs.Tokens.{class_of, is_letter, is_digit, is_blank, joined, run_length, width, Placed, text_shape, shape_at, shape_of_text, tokens_from, tokens_at}
use Rattle.tokens.specs.declared.types.Class.{Class}
use Rattle.tokens.specs.declared.types.Class.TheVariants.{Open, Close, Blank, Letter, Digit, Other}

-- only bytes of one class are of one run
letters : (c : Class) → is_letter c ≡ true → c ≡ Letter
letters Open e = absurd (false≢true e)
letters Close e = absurd (false≢true e)
letters Blank e = absurd (false≢true e)
letters Letter e = refl
letters Digit e = absurd (false≢true e)
letters Other e = absurd (false≢true e)

digits : (c : Class) → is_digit c ≡ true → c ≡ Digit
digits Open e = absurd (false≢true e)
digits Close e = absurd (false≢true e)
digits Blank e = absurd (false≢true e)
digits Letter e = absurd (false≢true e)
digits Digit e = refl
digits Other e = absurd (false≢true e)

blanks : (c : Class) → is_blank c ≡ true → c ≡ Blank
blanks Open e = absurd (false≢true e)
blanks Close e = absurd (false≢true e)
blanks Blank e = refl
blanks Letter e = absurd (false≢true e)
blanks Digit e = absurd (false≢true e)
blanks Other e = absurd (false≢true e)

joined_same : (c d : Class) → joined c d ≡ true → d ≡ c
joined_same c d e =
    elim (or_cases (is_letter c && is_letter d) _ e) [
      | inl l ↦ letters d (and_parts _ _ l).1 ∙ sym (letters c (and_parts _ _ l).0)
      | inr r ↦ elim (or_cases (is_digit c && is_digit d) _ r) [
        | inl n ↦ digits d (and_parts _ _ n).1 ∙ sym (digits c (and_parts _ _ n).0)
        | inr b ↦ blanks d (and_parts _ _ b).1 ∙ sym (blanks c (and_parts _ _ b).0)
      ]
    ]

-- behind a blank a byte goes on with the run only if it is blank itself
blank_is : (d : Class) → joined Blank d ≡ is_blank d
blank_is Open = refl
blank_is Close = refl
blank_is Blank = refl
blank_is Letter = refl
blank_is Digit = refl
blank_is Other = refl

blank_joined : (d : Class) → (is_blank d || joined Blank d) ≡ is_blank d
blank_joined d = ap (λ t. is_blank d || t) (blank_is d) ∙ or_self (is_blank d)

-- the tokens of b and the bytes behind it, by whether b goes on with what stands before
abbrev step : Bool → ℕ → ℕ → List ℕ → List Placed
step t col b bs = cond t (tokens_from (class_of b) (col + 1) bs) (record { column = col; shape = shape_at (class_of b) (b ∷ bs) } ∷ tokens_from (class_of b) (col + 1) bs)

-- behind the run of a class nothing remains of it
past_run : (c : Class) (bs : List ℕ) (col : ℕ) → tokens_from c col bs ≡ tokens_from Blank (col + run_length c bs) (drop (run_length c bs) bs)
past_run c [] col = refl
past_run c (b ∷ bs) col =
    elim (cases_Bool (joined c (class_of b))) [
      | inl e ↦
          ap (λ t. step t col b bs) (ap (λ t. is_blank (class_of b) || t) e ∙ or-true (is_blank (class_of b)))
          ∙ ap (λ d. tokens_from d (col + 1) bs) (joined_same c (class_of b) e)
          ∙ past_run c bs (col + 1)
          ∙ ap₂ (λ k (l : List ℕ). tokens_from Blank k l) (omega arith) (ap (λ k. drop k (b ∷ bs)) (sym (one-add (run_length c bs))))
          ∙ ap (λ k. tokens_from Blank (col + k) (drop k (b ∷ bs))) (sym (cond-true _ (1 + run_length c bs) 0 e))
      | inr e ↦
          ap (λ t. step t col b bs) (ap (λ t. is_blank (class_of b) || t) e ∙ or-false (is_blank (class_of b)) ∙ sym (blank_joined (class_of b)))
          ∙ ap (λ k. tokens_from Blank k (b ∷ bs)) (omega arith)
          ∙ ap (λ k. tokens_from Blank (col + k) (drop k (b ∷ bs))) (sym (cond-false _ (1 + run_length c bs) 0 e))
    ]

-- a class that stands alone has no runs
no_run : (c : Class) → ((d : Class) → joined c d ≡ false) → (bs : List ℕ) → run_length c bs ≡ 0
no_run c alone [] = refl
no_run c alone (b ∷ bs) = cond-false _ _ _ (alone (class_of b))

-- a token is its first byte and what goes on with it
own_width : (c : Class) (bs : List ℕ) → max 1 (cond (joined c c) (1 + run_length c bs) 0) ≡ 1 + run_length c bs
own_width Open bs = ap (λ k. 1 + k) (sym (no_run Open (λ d. refl) bs))
own_width Close bs = ap (λ k. 1 + k) (sym (no_run Close (λ d. refl) bs))
own_width Blank bs = omega arith
own_width Letter bs = omega arith
own_width Digit bs = omega arith
own_width Other bs = ap (λ k. 1 + k) (sym (no_run Other (λ d. refl) bs))

token_width : (b : ℕ) (bs : List ℕ) → width (class_of b) (b ∷ bs) ≡ 1 + run_length (class_of b) bs
token_width b bs = own_width (class_of b) bs

starts : (d : Class) → joined Blank d ≡ false → (is_blank d || joined Blank d) ≡ false
starts d e = blank_joined d ∙ sym (blank_is d) ∙ e

module _ (line : List ℕ) where
  pub no_more : (at : ℕ) → length line ≤ at → tokens_at line at ≡ []
  no_more at h = ap (tokens_from Blank (at + 1)) (drop_all at line h)

  -- blanks are no tokens
  skipped : (at : ℕ) → tokens_at line at ≡ tokens_at line (at + run_length Blank (drop at line))
  skipped at =
      let k = run_length Blank (drop at line) in
      let far : at + 1 + k ≡ at + k + 1 = omega arith in
      past_run Blank (drop at line) (at + 1) ∙ ap₂ (λ n (l : List ℕ). tokens_from Blank n l) far (drop-drop k at line)

  pub past_blanks : (at : ℕ) → tokens_at line at ≡ tokens_at line (min at (length line) + run_length Blank (drop (min at (length line)) line))
  past_blanks at =
      elim (cases_lt (length line) at) [
        | inl over ↦ no_more at (omega arith) ∙ sym (no_more (min at (length line) + run_length Blank (drop (min at (length line)) line)) (omega arith))
        | inr h ↦ let same : at ≡ min at (length line) = omega arith in ap (tokens_at line) same ∙ skipped (min at (length line))
      ]

  -- the token that begins at s
  pub token_there : (s : ℕ) → s < length line → joined Blank (class_of (get_or line s 0)) ≡ false →
      tokens_at line s ≡ record { column = s + 1; shape = shape_at (class_of (get_or line s 0)) (drop s line) } ∷ tokens_at line (s + width (class_of (get_or line s 0)) (drop s line))
  token_there s h start =
      let b = get_or line s 0 in
      let bs = drop (s + 1) line in
      let k = run_length (class_of b) bs in
      let front : drop s line ≡ b ∷ bs = drop_more line s 0 h in
      let wide : width (class_of b) (drop s line) ≡ 1 + k = ap (width (class_of b)) front ∙ token_width b bs in
      let far : s + 1 + 1 + k ≡ s + (1 + k) + 1 = omega arith in
      let behind : drop k bs ≡ drop (s + (1 + k)) line = drop-drop k (s + 1) line ∙ ap (λ n. drop n line) (omega arith) in
      let rest : tokens_from (class_of b) (s + 1 + 1) bs ≡ tokens_at line (s + width (class_of b) (drop s line)) =
      past_run (class_of b) bs (s + 1 + 1) ∙ ap₂ (λ n (l : List ℕ). tokens_from Blank n l) far behind ∙ ap (λ n. tokens_at line (s + n)) (sym wide) in
      ap (tokens_from Blank (s + 1)) front
      ∙ ap (λ t. step t (s + 1) b bs) (starts (class_of b) start)
      ∙ ap₂ (λ (l : List ℕ) (ts : List Placed). record { column = s + 1; shape = shape_at (class_of b) l } ∷ ts) (sym front) rest

  -- the text of a token tells its shape
  text_there : (s e : ℕ) → e ≡ s + width (class_of (get_or line s 0)) (drop s line) → shape_of_text (take (e - s) (drop s line)) ≡ shape_at (class_of (get_or line s 0)) (drop s line)
  text_there s e end =
      let w = width (class_of (get_or line s 0)) (drop s line) in
      let long : e - s ≡ w = omega arith in
      let some : 0 < w = omega arith in
      let first : get_or (take w (drop s line)) 0 0 ≡ get_or line s 0 = get_or-take w (drop s line) 0 0 some ∙ get_or-drop s line 0 0 ∙ ap (λ k. get_or line k 0) (omega arith) in
      ap (λ k. shape_of_text (take k (drop s line))) long ∙ ap (λ k. text_shape (class_of k) (take w (drop s line))) first

  module _ (at s : ℕ) (start : s ≡ min at (length line) + run_length Blank (drop (min at (length line)) line)) where
    from_start : tokens_at line at ≡ tokens_at line s
    from_start = past_blanks at ∙ ap (tokens_at line) (sym start)

    -- only blanks are left
    pub at_end : length line ≤ s → tokens_at line at ≡ []
    at_end over = from_start ∙ no_more s over

    -- a token begins at s and ends before e
    pub at_token : (e : ℕ) → s < length line → joined Blank (class_of (get_or line s 0)) ≡ false → e ≡ s + width (class_of (get_or line s 0)) (drop s line) →
        tokens_at line at ≡ record { column = s + 1; shape = shape_of_text (take (e - s) (drop s line)) } ∷ tokens_at line e
    at_token e h begin end =
        from_start ∙ token_there s h begin
        ∙ ap₂ (λ x k. record { column = s + 1; shape = x } ∷ tokens_at line k) (sym (text_there s e end)) (sym end)
