-- Different numbers from 1 to m are at most m.
use Rattle.std.proofs.Common.{◌≡◌, ℕ, zero, suc, ◌+◌, ◌<◌, ◌≤◌, cond, ltb, ◌⊎◌, sym, ◌∙◌, inl, inr, arith}
use Rattle.std.proofs.lemmas.Bool.{cases_lt, cases_eq}
use Rattle.std.proofs.lemmas.Bool.Decides.{nat_tests}

-- v is among f 0 .. f (n - 1), or is not
among : (f : ℕ → ℕ) (v n : ℕ) → ((i : ℕ) × (i < n) × (f i ≡ v)) ⊎ ((i : ℕ) → i < n → f i ≡ v → ⊥)
among f v zero = inr (λ i h. omega arith)
among f v (suc n) = elim (cases_eq (f n) v) [
  | inl e ↦ inl (n, omega arith, e)
  | inr k ↦ elim (among f v n) [
    | inl a ↦ inl (a.0, omega arith, a.2)
    | inr none ↦ inr (λ i h. elim (cases_eq i n) [ inl e ↦ rw e k | inr d ↦ none i (omega arith) ])
  ]
]

-- the numbers without i: j where j is below i, and else j + 1
abbrev past : ℕ → ℕ → ℕ
past i j = cond (ltb j i) j (j + 1)

past_below : (i j n : ℕ) → i < suc n → j < n → past i j < suc n
past_below i j n a b = grind (arith, nat_tests)

past_order : (i j k : ℕ) → j < k → past i j < past i k
past_order i j k h = grind (arith, nat_tests)

past_other : (i j : ℕ) → (past i j < i) ⊎ (i < past i j)
past_other i j = elim (cases_lt j i) [ inl h ↦ inl (grind (arith, nat_tests)) | inr h ↦ inr (grind (arith, nat_tests)) ]

-- n numbers f 0 .. f (n - 1) from 1 to m
abbrev Within : ℕ → ℕ → (ℕ → ℕ) → Type 0
Within m n f = (i : ℕ) → i < n → (1 ≤ f i) × (f i ≤ m)

abbrev Differ : ℕ → (ℕ → ℕ) → Type 0
Differ n f = (i j : ℕ) → i < j → j < n → f i ≡ f j → ⊥

-- without the greatest number the others are from 1 to m
others_within : (m n i : ℕ) (f : ℕ → ℕ) → Within (suc m) (suc n) f → Differ (suc n) f → i < suc n → f i ≡ suc m → Within m n (λ j. f (past i j))
others_within m n i f w d l e j h =
    let k = w (past i j) (past_below i j n l h) in
    let other : f (past i j) ≡ suc m → ⊥ = λ q. elim (past_other i j) [
      | inl a ↦ d (past i j) i a l (q ∙ sym e)
      | inr a ↦ d i (past i j) a (past_below i j n l h) (e ∙ sym q)
    ] in
    (k.0, omega (arith, k.1))

pub pigeons : (m n : ℕ) (f : ℕ → ℕ) → ((i : ℕ) → i < n → (1 ≤ f i) × (f i ≤ m)) → ((i j : ℕ) → i < j → j < n → f i ≡ f j → ⊥) → n ≤ m
pigeons zero zero f w d = omega arith
pigeons zero (suc n) f w d = let h = w 0 (omega arith) in omega arith
pigeons (suc m) zero f w d = omega arith
pigeons (suc m) (suc n) f w d = elim (among f (suc m) (suc n)) [
  | inl g ↦ (let h : n ≤ m = pigeons m n (λ j. f (past g.0 j)) (others_within m n g.0 f w d g.1 g.2)
      (λ j k a b. d (past g.0 j) (past g.0 k) (past_order g.0 j k a) (past_below g.0 k n g.1 b)) in omega arith)
  | inr none ↦ (let h : suc n ≤ m = pigeons m (suc n) f (λ i l. ((w i l).0, (let u = (w i l).1 in let q = none i l in omega arith))) d in omega arith)
]
