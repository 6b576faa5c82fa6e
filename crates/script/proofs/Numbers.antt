-- A number in decimal is one token, and is read as itself.
use Rattle.std.proofs.Common.{◌≡◌, ℕ, ◌+◌, ◌^◌, ◌<◌, ◌≤◌, max, true, false, cond, not, ◌&&◌, ◌||◌, eqb, ltb, leb, List, [], ◌∷◌, ◌++◌, length, get_or, take, Ok, Err, decimal, ap, ◌∙◌, ap₂, inl, inr, one-add, arith, rules}
use Rattle.std.proofs.Math.Bool.{and-false}
use Rattle.std.proofs.lemmas.Fmt.{decimal_digit, decimal_nonempty, first_decimal, digits_decimal, digits_value-decimal}
use Rattle.std.proofs.lemmas.Str.Parse.{IsNumeralModel, numerals_by_fold, tells_all_ascii_digits}
use Rattle.std.proofs.lemmas.List.{take-append-le, take_all}
use Rattle.std.proofs.lemmas.Bool.{and_from, cases_lt, cond-true, cond-false, le-leb, lt-ltb, ne_eqb, not_from_false}
use Rattle.std.specs.List.{AllByRecursion}
use Rattle.std.specs.Str.{all_ascii_digits}
use Rattle.tokens.specs.declared.types.Class.{Class}
use Rattle.tokens.specs.declared.types.Class.TheVariants.{Digit}
use Rattle.tokens.specs.Tokens.{class_of, is_digit, is_blank, joined, run_length, shape_at, number, Placed, tokens_from, plain, value, value_on, unreadable}
use Rattle.script.specs.Reading.{then, if_number, number_within}

own : IsNumeralModel (λ ds. all_ascii_digits ds ≡ true) value
own = numerals_by_fold _ tells_all_ascii_digits value_on (search rules)

-- Plain digits

no_zero_first : (n : ℕ) → n < 2 ^ 64 → (ltb 1 (length (decimal n)) && eqb (get_or (decimal n) 0 0) 48) ≡ false
no_zero_first n h =
    elim (cases_lt 0 n) [
      | inl some ↦
          let first = first_decimal n some h in
          ap (λ b. ltb 1 (length (decimal n)) && b) (ne_eqb (get_or (decimal n) 0 0) 48 (λ e. omega arith)) ∙ and-false (ltb 1 (length (decimal n)))
      | inr none ↦ let zero : n ≡ 0 = omega arith in ap (λ k. ltb 1 (length (decimal k)) && eqb (get_or (decimal k) 0 0) 48) zero ∙ ap (λ ds. ltb 1 (length ds) && eqb (get_or ds 0 0) 48) (decimal_digit 0 (omega arith))
    ]

plain_decimal : (n : ℕ) → n < 2 ^ 64 → plain (decimal n) ≡ true
plain_decimal n h = and_from _ _ (not_from_false _ (no_zero_first n h)) (ap (λ v. ltb v (2 ^ 64)) (digits_value-decimal own n h) ∙ lt-ltb n (2 ^ 64) h)

-- One token

digit_class : (d : ℕ) → 48 ≤ d → d ≤ 57 → class_of d ≡ Digit
digit_class d low high =
    cond-false _ _ _ (ne_eqb d 40 (λ e. omega arith))
    ∙ cond-false _ _ _ (ne_eqb d 41 (λ e. omega arith))
    ∙ cond-false _ _ _ (ne_eqb d 32 (λ e. omega arith))
    ∙ cond-true _ _ _ (and_from _ _ (le-leb 48 d low) (le-leb d 57 high))

abbrev Figures : List ℕ → Type 0
Figures ds = AllByRecursion (λ d. class_of d ≡ Digit) ds

figures : (ds : List ℕ) → all_ascii_digits ds ≡ true → Figures ds
figures [] h = tt
figures (d ∷ ds) h = let parts = tells_all_ascii_digits.parts d ds h in (digit_class d parts.0.0 parts.0.1, figures ds parts.1)

module _ (b : ℕ) (rest : List ℕ) (other : is_digit (class_of b) ≡ false) where
  run_of : (ds : List ℕ) → Figures ds → run_length Digit (ds ++ b ∷ rest) ≡ length ds
  run_of [] f = cond-false _ _ _ (ap (λ t. t || false) other)
  run_of (d ∷ ds) f = cond-true _ _ _ (ap (joined Digit) f.0) ∙ ap (λ k. 1 + k) (run_of ds f.1) ∙ one-add (length ds)

  -- the tokens of a byte of class c and those behind it
  abbrev from_class : Class → ℕ → ℕ → List ℕ → Class → List Placed
  from_class p col d bs c = cond (is_blank c || joined p c) (tokens_from c (col + 1) bs) (record { column = col; shape = shape_at c (d ∷ bs) } ∷ tokens_from c (col + 1) bs)

  digits_on : (ds : List ℕ) (col : ℕ) → Figures ds → tokens_from Digit col (ds ++ b ∷ rest) ≡ tokens_from Digit (col + length ds) (b ∷ rest)
  digits_on [] col f = ap (λ k. tokens_from Digit k (b ∷ rest)) (omega arith)
  digits_on (d ∷ ds) col f =
      ap (from_class Digit col d (ds ++ b ∷ rest)) f.0
      ∙ digits_on ds (col + 1) f.1
      ∙ ap (λ k. tokens_from Digit k (b ∷ rest)) (omega arith)

  digits_text : (ds : List ℕ) → Figures ds → 0 < length ds → take (max 1 (run_length Digit (ds ++ b ∷ rest))) (ds ++ b ∷ rest) ≡ ds
  digits_text ds f some =
      let long : max 1 (run_length Digit (ds ++ b ∷ rest)) ≡ length ds = omega (arith, run_of ds f) in
      ap (λ k. take k (ds ++ b ∷ rest)) long ∙ take-append-le (length ds) ds (b ∷ rest) (omega arith) ∙ take_all (length ds) ds (omega arith)

  -- behind a byte that is of no run with digits
  digits_token : (p : Class) → joined p Digit ≡ false → (ds : List ℕ) (col : ℕ) → Figures ds → 0 < length ds →
      tokens_from p col (ds ++ b ∷ rest) ≡ record { column = col; shape = number ds } ∷ tokens_from Digit (col + length ds) (b ∷ rest)
  digits_token p apart [] col f some = absurd (omega arith)
  digits_token p apart (d ∷ ds) col f some =
      ap (from_class p col d (ds ++ b ∷ rest)) f.0
      ∙ cond-false _ _ _ apart
      ∙ ap₂ (λ (w : List ℕ) (ts : List Placed). record { column = col; shape = number w } ∷ ts) (digits_text (d ∷ ds) f some)
      (digits_on ds (col + 1) f.1 ∙ ap (λ k. tokens_from Digit k (b ∷ rest)) (omega arith))

-- Reading

number_reads : (low high len n col : ℕ) (ts : List Placed) → low ≤ n → n ≤ high → n < 2 ^ 64 → number_within low high len (record { column = col; shape = number (decimal n) } ∷ ts) ≡ Ok (n, ts)
number_reads low high len n col ts above below h =
    let is : value (decimal n) ≡ n = digits_value-decimal own n h in
    let fits : (plain (decimal n) && (leb low (value (decimal n)) && leb (value (decimal n)) high)) ≡ true =
    and_from _ _ (plain_decimal n h) (and_from _ _ (ap (leb low) is ∙ le-leb low n above) (ap (λ v. leb v high) is ∙ le-leb n high below)) in
    ap (λ t. then (cond (not t) (Err (unreadable col)) (Ok (record { column = col; shape = number (decimal n) }, ts))) (λ (t : Placed) (ts : List Placed). if_number low high t.shape t.column ts)) (plain_decimal n h)
    ∙ cond-true _ _ _ fits
    ∙ ap (λ v. Ok (v, ts)) is

-- a number between bytes that are no digits; p is the class of the one before
pub reads_number : (low high len n : ℕ) → low ≤ n → n ≤ high → n < 2 ^ 64 → (p : Class) (col b : ℕ) (rest : List ℕ) → joined p Digit ≡ false → is_digit (class_of b) ≡ false →
    number_within low high len (tokens_from p col (decimal n ++ b ∷ rest)) ≡ Ok (n, tokens_from Digit (col + length (decimal n)) (b ∷ rest))
reads_number low high len n above below h p col b rest apart other =
    ap (number_within low high len) (digits_token b rest other p apart (decimal n) col (figures (decimal n) (digits_decimal own n h)) (decimal_nonempty n h))
    ∙ number_reads low high len n col (tokens_from Digit (col + length (decimal n)) (b ∷ rest)) above below h
