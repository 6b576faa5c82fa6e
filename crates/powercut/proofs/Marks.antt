-- A mark stored last tells whether the booking before it survived.
use Rattle.std.proofs.Common.{◌≡◌, ℕ, zero, suc, ◌≤◌, List, [], ◌∷◌, ◌++◌, length, take, replicate, Some, sym, refl, ap, ◌∙◌, subst, arith}
use Rattle.std.proofs.lemmas.List.{take_all}
use Rattle.memory.specs.Model.{Mem, Line, line_at, written, loaded_line, cut, Whole}
use Rattle.memory.specs.Laws.{Done, after, made_on, counted_all, promised_of, Survived}
use Rattle.memory.specs.Laws.Act.{write_back, fence}
use Rattle.memory.specs.declared.types.Store.{Store}
use Rattle.memory.proofs.Acts.{settles_in_order}
use Rattle.powercut.specs.Record.{found_in, stores, BlankFirst, WholeOrNothing}
use Rattle.powercut.specs.declared.booking.Booking.{Booking}

-- the four stores of a booking
abbrev four : Booking → List Store
four b = made_on 0 (stores b [] [] [] [])

found_all : (b : Booking) (k : ℕ) → 4 ≤ k → found_in (written (replicate 8 0) (take k (four b))) ≡ Some b
found_all b k h = ap (λ (ss : List Store). found_in (written (replicate 8 0) ss)) (take_all k (four b) h)

found_first : (b : Booking) (k : ℕ) → WholeOrNothing b (found_in (written (replicate 8 0) (take k (four b))))
found_first b zero = tt
found_first b (suc zero) = tt
found_first b (suc (suc zero)) = tt
found_first b (suc (suc (suc zero))) = tt
found_first b (suc (suc (suc (suc k)))) = subst (WholeOrNothing b) (sym (found_all b (suc (suc (suc (suc k)))) (omega arith))) refl

module _ (m : Mem) (whole : Whole m) (blank : BlankFirst m) (ds : List Done) (ns : List ℕ) where
  survived : Survived (line_at m 0).settled ((line_at m 0).pending ++ made_on 0 ds) (promised_of 0 m ds) (loaded_line (cut ns (after ds m)) 0)
  survived = (settles_in_order m whole).survives ds ns 0 blank.0

  pub kept : ℕ
  unfolding survived
  kept = survived.kept

  pub found : loaded_line (cut ns (after ds m)) 0 ≡ written (replicate 8 0) (take kept (made_on 0 ds))
  unfolding survived kept
  found = survived.first_part ∙ ap (λ (x : Line). written x.settled (take kept (x.pending ++ made_on 0 ds))) blank.1

  pub promised : (counted_all 0 ds (record { made = 0; asked = 0; promised = 0 })).promised ≤ kept
  unfolding survived kept
  promised =
      let same : promised_of 0 m ds ≡ (counted_all 0 ds (record { made = 0; asked = 0; promised = 0 })).promised =
      ap (λ (x : Line). (counted_all 0 ds (record { made = length x.pending; asked = x.asked; promised = 0 })).promised) blank.1 in
      subst (λ n. n ≤ kept) same survived.at_least

pub whole_or_nothing : (m : Mem) → Whole m → BlankFirst m → (b : Booking) (n₁ n₂ n₃ n₄ ns : List ℕ) → WholeOrNothing b (found_in (loaded_line (cut ns (after (stores b n₁ n₂ n₃ n₄) m)) 0))
whole_or_nothing m whole blank b n₁ n₂ n₃ n₄ ns =
    subst (λ (ws : List ℕ). WholeOrNothing b (found_in ws)) (sym (found m whole blank (stores b n₁ n₂ n₃ n₄) ns)) (found_first b (kept m whole blank (stores b n₁ n₂ n₃ n₄) ns))

-- the stores, a write-back and a fence
abbrev pub fenced_acts : Booking → List ℕ → List ℕ → List ℕ → List ℕ → List ℕ → List ℕ → List Done
fenced_acts b n₁ n₂ n₃ n₄ n₅ n₆ = stores b n₁ n₂ n₃ n₄ ++ (record { act = write_back 0; early = n₅ } ∷ record { act = fence; early = n₆ } ∷ [])

pub surely_whole : (m : Mem) → Whole m → BlankFirst m → (b : Booking) (n₁ n₂ n₃ n₄ n₅ n₆ ns : List ℕ) → found_in (loaded_line (cut ns (after (fenced_acts b n₁ n₂ n₃ n₄ n₅ n₆) m)) 0) ≡ Some b
surely_whole m whole blank b n₁ n₂ n₃ n₄ n₅ n₆ ns =
    let ds = fenced_acts b n₁ n₂ n₃ n₄ n₅ n₆ in
    ap found_in (found m whole blank ds ns) ∙ found_all b (kept m whole blank ds ns) (promised m whole blank ds ns)
