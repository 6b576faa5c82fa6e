-- What a test of an entry's lines says, and what is then read.
use Rattle.std.proofs.Common.{◌≡◌, ℕ, zero, suc, pred, ◌+◌, ◌-◌, ◌<◌, ◌≤◌, true, false, ◌&&◌, List, [], ◌∷◌, length, take, drop, refl, ap, ◌∙◌, subst, inl, inr, arith}
use Rattle.std.proofs.lemmas.Bool.{and_parts, both_ways, cases_Bool, cond-true, cond-false}
use Rattle.std.proofs.lemmas.Bool.Decides.{nat_tests}
use Rattle.model.specs.Journal.{Entry, word, line_fits, lines_fit, begins, stands, entries}
use Rattle.journal.specs.Reading.{entry}

pub fit_length : (n e m mark t : ℕ) (ls : List (List ℕ)) → lines_fit n e m mark t ls ≡ true → n ≤ length ls
fit_length zero e m mark t ls h = omega arith
fit_length (suc n) e m mark t [] h = absurd (both_ways false refl h)
fit_length (suc n) e m mark t (l ∷ ls) h =
    let p = and_parts (line_fits e m mark t l) (lines_fit n e m mark (t + 1) ls) h in
    let k = fit_length n e m mark (t + 1) ls p.1 in omega arith

fits_front : (e m mark : ℕ) (l : List ℕ) (ls : List (List ℕ)) → 1 ≤ m → lines_fit m e m mark 0 (l ∷ ls) ≡ (line_fits e m mark 0 l && lines_fit (m - 1) e m mark 1 ls)
fits_front e zero mark l ls h = absurd (omega arith)
fits_front e (suc n) mark l ls h = ap (λ (k : ℕ). line_fits e (suc n) mark 0 l && lines_fit k e (suc n) mark 1 ls) (let z : n ≡ suc n - 1 = omega arith in z)

pub one_less : (n t : ℕ) → t < n → n - t ≡ suc (n - (t + 1))
one_less n t h = omega arith

-- Entries

entries_skip : (owner n : ℕ) (ls : List (List ℕ)) → entries owner n ls ≡ entries owner 0 (drop n ls)
entries_skip owner zero ls = refl
entries_skip owner (suc n) [] = refl
entries_skip owner (suc n) (l ∷ ls) = entries_skip owner n ls

drop_first : (n : ℕ) (l : List ℕ) (ls : List (List ℕ)) → 1 ≤ n → drop (pred n) ls ≡ drop n (l ∷ ls)
drop_first zero l ls h = absurd (omega arith)
drop_first (suc n) l ls h = refl

pub entries_some : (owner : ℕ) (l : List ℕ) (ls : List (List ℕ)) → 1 ≤ word l 1 → stands owner (l ∷ ls) ≡ true →
    entries owner 0 (l ∷ ls) ≡ record { place = word l 0; lines = take (word l 1) (l ∷ ls) } ∷ entries owner 0 (drop (word l 1) (l ∷ ls))
entries_some owner l ls k h =
    cond-true (stands owner (l ∷ ls)) _ [] h
    ∙ ap (λ (fs : List Entry). record { place = word l 0; lines = take (word l 1) (l ∷ ls) } ∷ fs) (entries_skip owner (pred (word l 1)) ls ∙ ap (entries owner 0) (drop_first (word l 1) l ls k))

pub entries_none : (owner : ℕ) (ls : List (List ℕ)) → stands owner ls ≡ false → entries owner 0 ls ≡ []
entries_none owner [] h = refl
entries_none owner (l ∷ ls) h = cond-false (stands owner (l ∷ ls)) _ [] h

pub lines_begun : (owner : ℕ) (l : List ℕ) → begins owner l ≡ true → 1 ≤ word l 1
lines_begun owner l h = grind (arith, nat_tests)

-- an entry stands at the front where its first line fits, and the others do
pub stands_front : (owner : ℕ) (l : List ℕ) (ls : List (List ℕ)) →
    stands owner (l ∷ ls) ≡ (begins owner l && (line_fits (word l 0) (word l 1) (word l 7) 0 l && lines_fit (word l 1 - 1) (word l 0) (word l 1) (word l 7) 1 ls))
stands_front owner l ls = elim (cases_Bool (begins owner l)) [
  | inl b ↦ ap (λ fit. begins owner l && fit) (fits_front (word l 0) (word l 1) (word l 7) l ls (lines_begun owner l b))
  | inr n ↦ rw n refl
]

-- the entry that stands at the front, and those behind it
pub entries_front : (owner : ℕ) (l : List ℕ) (ls : List (List ℕ)) → stands owner ls ≡ true → take 1 ls ≡ l ∷ [] →
    entries owner 0 ls ≡ entry (word l 0) (take (word l 1) ls) ∷ entries owner 0 (drop (word l 1) ls)
entries_front owner l [] h front = absurd (both_ways false refl h)
entries_front owner l (x ∷ xs) h front =
    let same : x ≡ l = cc in
    subst (λ (y : List ℕ). entries owner 0 (x ∷ xs) ≡ entry (word y 0) (take (word y 1) (x ∷ xs)) ∷ entries owner 0 (drop (word y 1) (x ∷ xs))) same
    (entries_some owner x xs (lines_begun owner x (and_parts (begins owner x) _ h).0) h)
