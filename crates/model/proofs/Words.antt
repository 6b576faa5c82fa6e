-- The nine stores of a line, and what a first part of them makes of it.
use Rattle.std.proofs.Common.{◌≡◌, ℕ, zero, suc, List, [], ◌∷◌, length, take, sym, refl, subst₂, arith}
use Rattle.memory.specs.Model.{written}
use Rattle.memory.specs.declared.types.Store.{Store}
use Rattle.model.specs.Journal.{word}
use Rattle.model.proofs.Reading.{Became}
use Rattle.model.proofs.Reading.Became.{kept, torn, whole}

abbrev put : ℕ → ℕ → Store
put w v = record { word = w; value = v }

-- the stores that make a line l: 0 in word 7, words 0 to 6, word 7
abbrev pub stores : List ℕ → List Store
stores l =
    put 7 0 ∷ put 0 (word l 0) ∷ put 1 (word l 1) ∷ put 2 (word l 2) ∷ put 3 (word l 3) ∷ put 4 (word l 4) ∷ put 5 (word l 5)
    ∷ put 6 (word l 6) ∷ put 7 (word l 7) ∷ []

-- A line of eight words, by its words

abbrev eight : ℕ → ℕ → ℕ → ℕ → ℕ → ℕ → ℕ → ℕ → List ℕ
eight a b c d e f g h = a ∷ b ∷ c ∷ d ∷ e ∷ f ∷ g ∷ h ∷ []

by_words : (l : List ℕ) → length l ≡ 8 → l ≡ eight (word l 0) (word l 1) (word l 2) (word l 3) (word l 4) (word l 5) (word l 6) (word l 7)
by_words [] e = absurd (omega arith)
by_words (a ∷ []) e = absurd (omega arith)
by_words (a ∷ b ∷ []) e = absurd (omega arith)
by_words (a ∷ b ∷ c ∷ []) e = absurd (omega arith)
by_words (a ∷ b ∷ c ∷ d ∷ []) e = absurd (omega arith)
by_words (a ∷ b ∷ c ∷ d ∷ i ∷ []) e = absurd (omega arith)
by_words (a ∷ b ∷ c ∷ d ∷ i ∷ f ∷ []) e = absurd (omega arith)
by_words (a ∷ b ∷ c ∷ d ∷ i ∷ f ∷ g ∷ []) e = absurd (omega arith)
by_words (a ∷ b ∷ c ∷ d ∷ i ∷ f ∷ g ∷ h ∷ []) e = refl
by_words (a ∷ b ∷ c ∷ d ∷ i ∷ f ∷ g ∷ h ∷ j ∷ k) e = absurd (omega arith)

-- With n stores made

-- what the first n stores make of the words o
abbrev FirstPart : List ℕ → List ℕ → ℕ → Type 0
FirstPart o w n = Became o w (written o (take n (stores w)))

module _ (a b c d e f g h : ℕ) (a' b' c' d' e' f' g' h' : ℕ) where
  first_part : (n : ℕ) → FirstPart (eight a b c d e f g h) (eight a' b' c' d' e' f' g' h') n
  first_part zero = kept refl
  first_part (suc zero) = torn refl
  first_part (suc (suc zero)) = torn refl
  first_part (suc (suc (suc zero))) = torn refl
  first_part (suc (suc (suc (suc zero)))) = torn refl
  first_part (suc (suc (suc (suc (suc zero))))) = torn refl
  first_part (suc (suc (suc (suc (suc (suc zero)))))) = torn refl
  first_part (suc (suc (suc (suc (suc (suc (suc zero))))))) = torn refl
  first_part (suc (suc (suc (suc (suc (suc (suc (suc zero)))))))) = torn refl
  first_part (suc (suc (suc (suc (suc (suc (suc (suc (suc zero))))))))) = whole refl
  first_part (suc (suc (suc (suc (suc (suc (suc (suc (suc (suc n)))))))))) = whole refl

-- a line is the old one before the first store, has the mark 0 until the last, and then is as wanted
pub became : (o w : List ℕ) → length o ≡ 8 → length w ≡ 8 → (n : ℕ) → FirstPart o w n
became o w p q n =
    subst₂ (λ (x y : List ℕ). FirstPart x y n) (sym (by_words o p)) (sym (by_words w q)) (first_part _ _ _ _ _ _ _ _ _ _ _ _ _ _ _ _ n)

-- and what all nine make of it
pub all_written : (o w : List ℕ) → length o ≡ 8 → length w ≡ 8 → written o (stores w) ≡ w
all_written o w p q = subst₂ (λ (x y : List ℕ). written x (stores y) ≡ y) (sym (by_words o p)) (sym (by_words w q)) refl
