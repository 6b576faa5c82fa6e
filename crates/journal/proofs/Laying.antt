-- An entry laid at the free lines of a log is read behind the entries that were there.
use Rattle.std.proofs.Common.{◌≡◌, ℕ, zero, suc, pred, ◌+◌, ◌≤◌, true, false, List, [], ◌∷◌, ◌++◌, length, take, drop, sym, refl, ap, ◌∙◌, subst, ap₂, inl, inr, append_assoc, arith, take-add}
use Rattle.std.proofs.lemmas.List.{take_at, drop_at, length-take-le}
use Rattle.std.proofs.lemmas.Bool.{and_parts, and_from, both_ways, cases_Bool}
use Rattle.model.specs.Journal.{Entry, word, line_fits, lines_fit, begins, stands, entries, used_lines, lines_from}
use Rattle.journal.specs.Laws.{LaysDown}
use Rattle.journal.proofs.Backs.{as_many, reads_back}
use Rattle.journal.proofs.Fitting.{fit_length, entries_some, entries_none, lines_begun}

-- the test of n lines looks no further
fit_front : (n e m mark t : ℕ) (ls more : List (List ℕ)) → lines_fit n e m mark t ls ≡ true → lines_fit n e m mark t (take n ls ++ more) ≡ true
fit_front zero e m mark t ls more h = refl
fit_front (suc n) e m mark t [] more h = absurd (both_ways false refl h)
fit_front (suc n) e m mark t (l ∷ ls) more h =
    let p = and_parts (line_fits e m mark t l) _ h in and_from _ _ p.0 (fit_front n e m mark (t + 1) ls more p.1)

-- an entry stands by its own lines
module _ (owner : ℕ) (l : List ℕ) (ls : List (List ℕ)) (stood : stands owner (l ∷ ls) ≡ true) where
  some : 1 ≤ word l 1
  some = lines_begun owner l (and_parts (begins owner l) _ stood).0

  long : length (take (word l 1) (l ∷ ls)) ≡ word l 1
  long = length-take-le (word l 1) (l ∷ ls) (fit_length (word l 1) (word l 0) (word l 1) (word l 7) 0 (l ∷ ls) (and_parts (begins owner l) _ stood).1)

  front : take (word l 1) (l ∷ ls) ≡ l ∷ take (pred (word l 1)) ls
  front = let p : word l 1 ≡ suc (pred (word l 1)) = omega (arith, some) in ap (λ k. take k (l ∷ ls)) p

  -- read with anything behind its lines
  pub read_first : (more : List (List ℕ)) → entries owner 0 (take (word l 1) (l ∷ ls) ++ more) ≡ record { place = word l 0; lines = take (word l 1) (l ∷ ls) } ∷ entries owner 0 more
  read_first more =
      let own = take (word l 1) (l ∷ ls) in
      let tail = take (pred (word l 1)) ls ++ more in
      let whole : own ++ more ≡ l ∷ tail = ap (λ (xs : List (List ℕ)). xs ++ more) front in
      let parts = and_parts (begins owner l) _ stood in
      let fits = fit_front (word l 1) (word l 0) (word l 1) (word l 7) 0 (l ∷ ls) more parts.1 in
      let again : stands owner (l ∷ tail) ≡ true =
      and_from _ _ parts.0 (subst (λ (xs : List (List ℕ)). lines_fit (word l 1) (word l 0) (word l 1) (word l 7) 0 xs ≡ true) whole fits) in
      ap (entries owner 0) whole ∙ entries_some owner l tail some again
      ∙ ap₂ (λ (xs ys : List (List ℕ)). record { place = word l 0; lines = xs } ∷ entries owner 0 ys)
      (ap (take (word l 1)) (sym whole) ∙ take_at own more (word l 1) long) (ap (drop (word l 1)) (sym whole) ∙ drop_at own more (word l 1) long)

-- what was read is read again, whatever stands behind the lines used
pub read_again : (owner : ℕ) (fs : List Entry) (ls more : List (List ℕ)) → entries owner 0 ls ≡ fs → entries owner 0 (take (used_lines fs) ls ++ more) ≡ fs ++ entries owner 0 more
read_again owner [] ls more e = refl
read_again owner (f ∷ fs) [] more e = absurd (let z : ◌≡◌ {A = ℕ} 0 1 = cc in omega arith)
read_again owner (f ∷ fs) (l ∷ ls) more e =
    elim (cases_Bool (stands owner (l ∷ ls))) [
      | inl stood ↦
          let m = word l 1 in
          let here : Entry = record { place = word l 0; lines = take m (l ∷ ls) } in
          let both : f ∷ fs ≡ here ∷ entries owner 0 (drop m (l ∷ ls)) = sym e ∙ entries_some owner l ls (some owner l ls stood) stood in
          let first : f ≡ here = cc in
          let behind : fs ≡ entries owner 0 (drop m (l ∷ ls)) = cc in
          let lines : length f.lines ≡ m = ap (λ (x : Entry). length x.lines) first ∙ long owner l ls stood in
          let rest = take (used_lines fs) (drop m (l ∷ ls)) ++ more in
          ap (λ k. entries owner 0 (take (k + used_lines fs) (l ∷ ls) ++ more)) lines
          ∙ ap (λ (xs : List (List ℕ)). entries owner 0 (xs ++ more)) (take-add m (used_lines fs) (l ∷ ls))
          ∙ ap (entries owner 0) (append_assoc (take m (l ∷ ls)) (take (used_lines fs) (drop m (l ∷ ls))) more)
          ∙ read_first owner l ls stood rest
          ∙ ap₂ (λ (x : Entry) (xs : List Entry). x ∷ xs) (sym first) (read_again owner fs (drop m (l ∷ ls)) more (sym behind))
      | inr none ↦ absurd (let gone = entries_none owner (l ∷ ls) none in let z : ◌≡◌ {A = ℕ} 0 1 = cc in omega arith)
    ]

pub lays_down : LaysDown
lays_down log e mark u us readable short low high one top =
    let s = u.station in
    let fs = entries s 0 log in
    let new = lines_from e (length (u ∷ us)) 0 (u ∷ us) in
    let behind = drop (used_lines fs + length new) log in
    let back = reads_back e mark u us behind readable short low high one top in
    let read = read_again s fs log (new ++ behind) refl ∙ ap (λ (xs : List Entry). fs ++ xs) back.0 in
    record {
      lines = as_many e (length (u ∷ us)) 0 (u ∷ us);
      updates = back.1;
      read = read;
      ends = λ none. read ∙ ap (λ (xs : List Entry). fs ++ (record { place = e; lines = new } ∷ xs)) (entries_none s behind none);
    }
