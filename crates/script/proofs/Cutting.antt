-- One turn of reading the pairs of a cut.
use Rattle.std.proofs.Common.{◌≡◌, ℕ, zero, suc, ◌+◌, ◌-◌, ◌<◌, ◌≤◌, List, [], ◌∷◌, ◌++◌, Ok, Err, sym, refl, ap, ap₂, ◌∙◌, arith}
use Rattle.tokens.specs.declared.types.Fault.{Fault}
use Rattle.tokens.specs.declared.types.Token.{Token}
use Rattle.tokens.specs.declared.types.Token.TheVariants as tokens
use Rattle.tokens.specs.Tokens.{Placed, unreadable, shape_of}
use Rattle.forms.specs.Spoken.{Spoken, cut}
use Rattle.script.specs.Reading.{Step, then, next_token, placed, if_pair, pair, cut_form}

-- what an opening bracket leads to
abbrev pub another : ℕ → List (ℕ × ℕ) → ℕ → ℕ → List Placed → Step Spoken
another zero ps col len ts = Err (unreadable col)
another (suc m) ps col len ts = then (pair len ts) (λ p ts. cut_form m (ps ++ p ∷ []) len ts)

abbrev pub turn : ℕ → List (ℕ × ℕ) → ℕ → Step Placed → Step Spoken
turn m ps len s = then s (λ t ts. if_pair t.shape t.column ps ts (another m ps t.column len ts))

pub cut_turn : (m : ℕ) (ps : List (ℕ × ℕ)) (len : ℕ) (ts : List Placed) → cut_form m ps len ts ≡ turn m ps len (next_token len ts)
unfolding cut_form
cut_turn zero ps len ts = refl
cut_turn (suc m) ps len ts = refl

module _ (m : ℕ) (ps : List (ℕ × ℕ)) (len : ℕ) (ts : List Placed) where
  -- no token, or one that fits nowhere
  pub cut_faulty : (f : Fault) → Err f ≡ next_token len ts → cut_form m ps len ts ≡ Err f
  cut_faulty f e = cut_turn m ps len ts ∙ ap (turn m ps len) (sym e)

  module _ (t : Token) (col : ℕ) (rest : List Placed) (e : Ok (placed (t, col), rest) ≡ next_token len ts) where
    pub cut_next : cut_form m ps len ts ≡ if_pair (shape_of t) col ps rest (another m ps col len rest)
    cut_next = cut_turn m ps len ts ∙ ap (turn m ps len) (sym e)

    -- the last bracket
    pub cut_closed : t ≡ tokens.Close → cut_form m ps len ts ≡ Ok (cut ps, rest)
    cut_closed is = cut_next ∙ ap (λ (x : Token). if_pair (shape_of x) col ps rest (another m ps col len rest)) is

    -- a pair begins
    pub cut_opened : t ≡ tokens.Open → cut_form m ps len ts ≡ another m ps col len rest
    cut_opened is = cut_next ∙ ap (λ (x : Token). if_pair (shape_of x) col ps rest (another m ps col len rest)) is

    -- any other token
    pub cut_other : (t ≡ tokens.Open → ⊥) → (t ≡ tokens.Close → ⊥) → cut_form m ps len ts ≡ Err (unreadable col)
    cut_other begins ends = cut_next ∙ other t begins ends
      where
        other : (x : Token) → (x ≡ tokens.Open → ⊥) → (x ≡ tokens.Close → ⊥) → if_pair (shape_of x) col ps rest (another m ps col len rest) ≡ Err (unreadable col)
        other tokens.Open h _ = absurd (h refl)
        other tokens.Close _ h = absurd (h refl)
        other (tokens.Word w) _ _ = refl
        other (tokens.Number ds) _ _ = refl

another_none : (m : ℕ) (ps : List (ℕ × ℕ)) (col len : ℕ) (ts : List Placed) → m ≤ 0 → another m ps col len ts ≡ Err (unreadable col)
another_none zero ps col len ts h = refl
another_none (suc m) ps col len ts h = absurd (omega arith)

another_pair : (m : ℕ) (ps : List (ℕ × ℕ)) (col len : ℕ) (ts : List Placed) → 0 < m → another m ps col len ts ≡ then (pair len ts) (λ p ts. cut_form (m - 1) (ps ++ p ∷ []) len ts)
another_pair zero ps col len ts h = absurd (omega arith)
another_pair (suc m) ps col len ts h = let one : m ≡ suc m - 1 = omega arith in ap (λ k. then (pair len ts) (λ p ts. cut_form k (ps ++ p ∷ []) len ts)) one

-- behind an opening bracket: no place is left, or a pair is read
module _ (m : ℕ) (ps : List (ℕ × ℕ)) (len : ℕ) (ts : List Placed) (t : Token) (col : ℕ) (rest : List Placed) (e : Ok (placed (t, col), rest) ≡ next_token len ts) (is : t ≡ tokens.Open) where
  pub cut_full : m ≤ 0 → cut_form m ps len ts ≡ Err (unreadable col)
  cut_full h = cut_opened m ps len ts t col rest e is ∙ another_none m ps col len rest h

  module _ (h : 0 < m) where
    pub pair_faulty : (f : Fault) → Err f ≡ pair len rest → cut_form m ps len ts ≡ Err f
    pair_faulty f n = cut_opened m ps len ts t col rest e is ∙ another_pair m ps col len rest h ∙ ap (λ s. then s (λ p ts. cut_form (m - 1) (ps ++ p ∷ []) len ts)) (sym n)

    pub pair_read : (p : ℕ × ℕ) (behind : List Placed) → Ok (p, behind) ≡ pair len rest → (k : ℕ) (qs : List (ℕ × ℕ)) → k + 1 ≡ m → qs ≡ ps ++ p ∷ [] → cut_form k qs len behind ≡ cut_form m ps len ts
    pair_read p behind n k qs one more =
        let before : k ≡ m - 1 = omega arith in
        ap₂ (λ i xs. cut_form i xs len behind) before more
        ∙ ap (λ s. then s (λ p ts. cut_form (m - 1) (ps ++ p ∷ []) len ts)) n
        ∙ sym (another_pair m ps col len rest h)
        ∙ sym (cut_opened m ps len ts t col rest e is)

pub ruleset cutting = (cut_faulty, cut_closed, cut_other, cut_full, pair_faulty, pair_read)
