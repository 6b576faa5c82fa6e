-- The records of the lazy memory: what a settling, a store and a cut make of one.
use Rattle.std.proofs.Common.{◌≡◌, ℕ, ◌-◌, ◌<◌, ◌≤◌, min, List, ◌++◌, length, take, drop, sym, refl, ap, ◌∙◌, inl, inr, arith, length-drop, length-take}
use Rattle.std.specs.List.{AllByRecursion}
use Rattle.std.proofs.ByRecursion.{All-take}
use Rattle.std.proofs.lemmas.List.{take-take, take_all, take-append-le, drop-take}
use Rattle.std.proofs.lemmas.Bool.{cases_lt, cond-false, le-ltb}
use Rattle.memory.specs.Model.{Line, written, settle, cut_line}
use Rattle.memory.specs.Lazy.{line_of, stores_within, pending_length, early_count}
use Rattle.memory.specs.declared.types.LineRec.{LineRec}
use Rattle.memory.specs.declared.types.Store.{Store}

pub same_line : {ws vs : List ℕ} {ps qs : List Store} {m n : ℕ} → ws ≡ vs → ps ≡ qs → m ≡ n →
    ◌≡◌ {A = Line} (record { settled = ws; pending = ps; asked = m }) (record { settled = vs; pending = qs; asked = n })
same_line p q r = λ i. record { settled = p i; pending = q i; asked = r i }

pub some_within : (r : LineRec) (n : ℕ) → AllByRecursion (λ s. s.word < 8) (take n r.stores)
some_within r n = All-take _ n r.stores (stores_within r)

take_min : {X : Type 0} (m n : ℕ) (xs : List X) → take (min m n) xs ≡ take n (take m xs)
take_min m n xs =
    elim (cases_lt m n) [
      | inl h ↦ ap (λ k. take k xs) (omega arith) ∙ sym (take_all n (take m xs) (simp length-take (omega arith)))
      | inr h ↦ ap (λ k. take k xs) (omega arith) ∙ sym (take-take n m xs h)
    ]

-- the stores that are left once the n oldest are rotated away
left_stores : (n count : ℕ) (ss : List Store) → n ≤ count → count ≤ length ss → take (count - n) (drop n ss ++ take n ss) ≡ drop n (take count ss)
left_stores n count ss within full =
    take-append-le (count - n) (drop n ss) (take n ss) (simp length-drop (omega arith))
    ∙ sym (drop-take n (count - n) ss)
    ∙ ap (λ k. drop n (take k ss)) (omega arith)

pub settles : (r : LineRec) (n : ℕ) (ws : List ℕ) (ss : List Store) (a : ℕ) → n ≤ r.count → ws ≡ written r.settled (take n r.stores) →
    ss ≡ drop n r.stores ++ take n r.stores → a ≡ r.asked - n →
    ◌≡◌ {A = Line} (record { settled = ws; pending = take (r.count - n) ss; asked = a }) (settle n (line_of r))
settles r n ws ss a within made rotated left =
    same_line
    (made ∙ ap (λ (ps : List Store). written r.settled ps) (sym (take-take n r.count r.stores within)))
    (ap (take (r.count - n)) rotated ∙ left_stores n r.count r.stores within (omega (arith, r.places, r.counted)))
    (left ∙ ap (λ k. r.asked - k) (let e = pending_length r in omega arith))

-- nothing more than sixteen stores: a line stays as it is
pub settle_none : (x : Line) → settle 0 x ≡ x
settle_none x = same_line refl refl (omega arith)

pub early_none : (x : Line) → length x.pending ≤ 16 → early_count x ≡ 0
early_none x h = cond-false _ 1 0 (le-ltb 16 (length x.pending) h)

-- the first n stores of those in use, or all of them
pub made_first : (r : LineRec) (b n : ℕ) → n ≡ min r.count b → written r.settled (take n r.stores) ≡ (cut_line b (line_of r)).settled
made_first r b n least = ap (λ (ps : List Store). written r.settled ps) (ap (λ k. take k r.stores) least ∙ take_min r.count b r.stores)
