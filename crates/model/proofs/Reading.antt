-- What reading finds in a list of lines: entries that stand, and what is left where the writing of an entry broke off.
use Rattle.std.proofs.Common.{◌≡◌, ℕ, zero, suc, ◌+◌, ◌<◌, ◌≤◌, true, false, ◌⊎◌, List, [], ◌∷◌, ◌++◌, length, get_or, drop, refl, ap, ◌∙◌, subst, subst₂, inl, inr, append_assoc, arith}
use Rattle.std.specs.List.{AllByRecursion}
use Rattle.std.proofs.ByRecursion.{All-drop, All-weaker}
use Rattle.std.proofs.lemmas.List.{take_at}
use Rattle.std.proofs.lemmas.Bool.{and_parts, and_from, cond-true, cond-false, both_ways, cases_Bool}
use Rattle.std.proofs.lemmas.Bool.Decides.{nat_tests}
use Rattle.model.specs.Journal.{word, line_fits, lines_fit, begins, stands, Entry, entries}

-- The tests as facts

mark_of : (e m mark t : ℕ) (l : List ℕ) → line_fits e m mark t l ≡ true → word l 7 ≡ mark
mark_of e m mark t l h = grind (arith, nat_tests)

number_of : (e m mark t : ℕ) (l : List ℕ) → line_fits e m mark t l ≡ true → word l 2 ≡ t
number_of e m mark t l h = grind (arith, nat_tests)

mark_begun : (owner : ℕ) (l : List ℕ) → begins owner l ≡ true → 1 ≤ word l 7
mark_begun owner l h = grind (arith, nat_tests)

pub lines_begun : (owner : ℕ) (l : List ℕ) → begins owner l ≡ true → 1 ≤ word l 1
lines_begun owner l h = grind (arith, nat_tests)

-- an entry stands at the front: its first line begins one, and all its lines fit
pub stands_parts : (owner : ℕ) (l : List ℕ) (ls : List (List ℕ)) → stands owner (l ∷ ls) ≡ true →
    (begins owner l ≡ true) × (lines_fit (word l 1) (word l 0) (word l 1) (word l 7) 0 (l ∷ ls) ≡ true)
stands_parts owner l ls h = and_parts (begins owner l) (lines_fit (word l 1) (word l 0) (word l 1) (word l 7) 0 (l ∷ ls)) h

pub fit_parts : (n e m mark t : ℕ) (l : List ℕ) (ls : List (List ℕ)) → lines_fit (suc n) e m mark t (l ∷ ls) ≡ true →
    (line_fits e m mark t l ≡ true) × (lines_fit n e m mark (t + 1) ls ≡ true)
fit_parts n e m mark t l ls h = and_parts (line_fits e m mark t l) (lines_fit n e m mark (t + 1) ls) h

-- Entries that stand

-- more lines behind change nothing
fit_more : (n e m mark t : ℕ) (ls more : List (List ℕ)) → lines_fit n e m mark t ls ≡ true → lines_fit n e m mark t (ls ++ more) ≡ true
fit_more zero e m mark t ls more h = refl
fit_more (suc n) e m mark t [] more h = absurd (both_ways false refl h)
fit_more (suc n) e m mark t (l ∷ ls) more h =
    let p = fit_parts n e m mark t l ls h in
    and_from (line_fits e m mark t l) (lines_fit n e m mark (t + 1) (ls ++ more)) p.0 (fit_more n e m mark (t + 1) ls more p.1)

stands_more : (owner : ℕ) (ls more : List (List ℕ)) → stands owner ls ≡ true → stands owner (ls ++ more) ≡ true
stands_more owner [] more h = absurd (both_ways false refl h)
stands_more owner (l ∷ ls) more h =
    let p = stands_parts owner l ls h in
    and_from (begins owner l) (lines_fit (word l 1) (word l 0) (word l 1) (word l 7) 0 ((l ∷ ls) ++ more)) p.0
    (fit_more (word l 1) (word l 0) (word l 1) (word l 7) 0 (l ∷ ls) more p.1)

-- an entry that stands by its own lines
pub record Stood (owner : ℕ) (f : Entry) : Type 0 where
  pub first : List ℕ
  pub others : List (List ℕ)
  pub is : f ≡ record { place = word first 0; lines = first ∷ others }
  pub long : word first 1 ≡ suc (length others)
  pub stood : stands owner (first ∷ others) ≡ true

-- the lines of entries, one entry behind the other
abbrev pub lines_of : List Entry → List (List ℕ)
lines_of [] = []
lines_of (f ∷ fs) = f.lines ++ lines_of fs

skipped : (owner : ℕ) (ls more : List (List ℕ)) → entries owner (length ls) (ls ++ more) ≡ entries owner 0 more
skipped owner [] more = refl
skipped owner (l ∷ ls) more = skipped owner ls more

pub entries_none : (owner : ℕ) (ls : List (List ℕ)) → stands owner ls ≡ false → entries owner 0 ls ≡ []
entries_none owner [] h = refl
entries_none owner (l ∷ ls) h = cond-false (stands owner (l ∷ ls)) _ [] h

entries_first : (owner : ℕ) (l : List ℕ) (ls more : List (List ℕ)) → word l 1 ≡ suc (length ls) → stands owner (l ∷ ls) ≡ true →
    entries owner 0 ((l ∷ ls) ++ more) ≡ record { place = word l 0; lines = l ∷ ls } ∷ entries owner 0 more
entries_first owner l ls more long h =
    cond-true (stands owner (l ∷ (ls ++ more))) _ [] (stands_more owner (l ∷ ls) more h)
    ∙ rw (long, take_at ls more (length ls) refl, skipped owner ls more) refl

-- the lines of entries that stand are read as these entries, where nothing stands behind them
pub entries_are : (owner : ℕ) (fs : List Entry) (more : List (List ℕ)) → AllByRecursion (Stood owner) fs → stands owner more ≡ false →
    entries owner 0 (lines_of fs ++ more) ≡ fs
entries_are owner [] more hs h = entries_none owner more h
entries_are owner (f ∷ fs) more hs h =
    let s = hs.0 in
    ap (λ (x : Entry). entries owner 0 ((x.lines ++ lines_of fs) ++ more)) s.is
    ∙ ap (entries owner 0) (append_assoc (s.first ∷ s.others) (lines_of fs) more)
    ∙ entries_first owner s.first s.others (lines_of fs ++ more) s.long s.stood
    ∙ rw (← s.is, entries_are owner fs more hs.1 h) refl

-- Lines that run r is writing an entry on

-- a line with the words o that is to become w: it is as it was, or has the mark 0, or is as wanted
pub data Became (o w n : List ℕ) : Type 0 where
  kept : n ≡ o → Became o w n
  torn : word n 7 ≡ 0 → Became o w n
  whole : n ≡ w → Became o w n

-- wanted lines, old lines, new lines; behind the wanted ones nothing has changed
pub data Mixed : List (List ℕ) → List (List ℕ) → List (List ℕ) → Type 0 where
  behind : {ls : List (List ℕ)} → Mixed [] ls ls
  next : {o w n : List ℕ} {os ws ns : List (List ℕ)} → Became o w n → Mixed ws os ns → Mixed (w ∷ ws) (o ∷ os) (n ∷ ns)

-- a line has the mark r, or a mark below r
abbrev pub MarkIs : ℕ → List ℕ → Type 0
MarkIs r l = word l 7 ≡ r

abbrev pub MarkBelow : ℕ → List ℕ → Type 0
MarkBelow r l = word l 7 < r

-- lines with one mark below r are old ones
fit_back : {ws os ns : List (List ℕ)} → Mixed ws os ns → (r : ℕ) → AllByRecursion (MarkIs r) ws → (n e m mark t : ℕ) → 1 ≤ mark → mark < r →
    lines_fit n e m mark t ns ≡ true → lines_fit n e m mark t os ≡ true
fit_back behind r a n e m mark t low high h = h
fit_back (next b x) r a zero e m mark t low high h = refl
fit_back (next {o} {w} {n = l} {os} {ws} {ns} b x) r a (suc n) e m mark t low high h =
    let p = fit_parts n e m mark t l ns h in
    and_from (line_fits e m mark t o) (lines_fit n e m mark (t + 1) os) (line b p.0) (fit_back x r a.1 n e m mark (t + 1) low high p.1)
  where
    line : Became o w l → line_fits e m mark t l ≡ true → line_fits e m mark t o ≡ true
    line (kept q) f = rw q at f
    line (torn q) f = let z = mark_of e m mark t l f in absurd (omega arith)
    line (whole q) f = let z = mark_of e m mark t l f in let y : word l 7 ≡ r = rw q a.0 in absurd (omega arith)

-- where all wanted lines have the mark r, they are whole
fit_whole : {ws os ns : List (List ℕ)} → Mixed ws os ns → (r : ℕ) → 1 ≤ r → AllByRecursion (MarkBelow r) os → (e m t : ℕ) →
    lines_fit (length ws) e m r t ns ≡ true → ns ≡ ws ++ drop (length ws) os
fit_whole behind r low a e m t h = refl
fit_whole (next {o} {w} {n} {os} {ws} {ns} b x) r low a e m t h =
    let p = fit_parts (length ws) e m r t n ns h in
    rw (line b p.0, fit_whole x r low a.1 e m (t + 1) p.1) refl
  where
    line : Became o w n → line_fits e m r t n ≡ true → n ≡ w
    line (kept q) f = let z = mark_of e m r t n f in let y : word n 7 < r = rw q a.0 in absurd (omega arith)
    line (torn q) f = let z = mark_of e m r t n f in absurd (omega arith)
    line (whole q) f = q

-- a line that cannot be the first of an entry
abbrev pub NotFirst : List ℕ → Type 0
NotFirst l = (word l 7 ≡ 0) ⊎ (word l 2 ≡ 0 → ⊥)

not_first_stands : (owner : ℕ) (l : List ℕ) (ls : List (List ℕ)) → NotFirst l → stands owner (l ∷ ls) ≡ false
not_first_stands owner l ls b = elim (cases_Bool (stands owner (l ∷ ls))) [ inl h ↦ absurd (cannot h) | inr h ↦ h ]
  where
    first_fits : (n : ℕ) → 1 ≤ n → lines_fit n (word l 0) (word l 1) (word l 7) 0 (l ∷ ls) ≡ true →
        line_fits (word l 0) (word l 1) (word l 7) 0 l ≡ true
    first_fits zero h f = absurd (omega arith)
    first_fits (suc n) h f = (fit_parts n (word l 0) (word l 1) (word l 7) 0 l ls f).0

    cannot : stands owner (l ∷ ls) ≡ true → ⊥
    cannot h =
        let p = stands_parts owner l ls h in
        let low = mark_begun owner l p.0 in
        let two = number_of (word l 0) (word l 1) (word l 7) 0 l (first_fits (word l 1) (lines_begun owner l p.0) p.1) in
        elim b [ inl z ↦ omega arith | inr z ↦ z two ]

pub not_first_closed : (owner : ℕ) (ls : List (List ℕ)) → AllByRecursion NotFirst ls → stands owner ls ≡ false
not_first_closed owner [] a = refl
not_first_closed owner (l ∷ ls) a = not_first_stands owner l ls a.0

-- the free lines of a log: no entry stands there, none can begin behind their first line, and the marks are below r
pub record Fresh (owner r : ℕ) (ls : List (List ℕ)) : Type 0 where
  pub closed : stands owner ls ≡ false
  pub below : AllByRecursion (MarkBelow r) ls
  pub tail : AllByRecursion NotFirst (drop 1 ls)

-- where an entry stands on a mixture, all wanted lines are whole
pub mixture : {ws os ns : List (List ℕ)} → Mixed ws os ns → (owner r : ℕ) → Fresh owner r os → AllByRecursion (MarkIs r) ws →
    word (get_or ws 0 []) 1 ≡ length ws → 1 ≤ r → stands owner ns ≡ true → ns ≡ ws ++ drop (length ws) os
mixture behind owner r f a k low h = refl
mixture (next {o} {w} {n} {os} {ws} {ns} b x) owner r f a k low h = by b
  where
    p : (begins owner n ≡ true) × (lines_fit (word n 1) (word n 0) (word n 1) (word n 7) 0 (n ∷ ns) ≡ true)
    p = stands_parts owner n ns h

    by : Became o w n → n ∷ ns ≡ (w ∷ ws) ++ drop (length (w ∷ ws)) (o ∷ os)
    by (kept q) =
        let begun : begins owner o ≡ true = rw q at p.0 in
        let fits =
        fit_back (next {o = o} {w = w} {n = n} (kept q) x) r a (word o 1) (word o 0) (word o 1) (word o 7) 0 (mark_begun owner o begun) f.below.0
        (subst (λ (y : List ℕ). lines_fit (word y 1) (word y 0) (word y 1) (word y 7) 0 (n ∷ ns) ≡ true) q p.1) in
        absurd (both_ways (stands owner (o ∷ os)) f.closed
        (and_from (begins owner o) (lines_fit (word o 1) (word o 0) (word o 1) (word o 7) 0 (o ∷ os)) begun fits))
    by (torn q) = let z = mark_begun owner n p.0 in absurd (omega arith)
    by (whole q) =
        fit_whole (next {o = o} {w = w} {n = n} (whole q) x) r low f.below (word n 0) (word n 1) 0
        (subst₂ (λ (i j : ℕ). lines_fit i (word n 0) (word n 1) j 0 (n ∷ ns) ≡ true)
        (ap (λ (y : List ℕ). word y 1) q ∙ k) (ap (λ (y : List ℕ). word y 7) q ∙ a.0) p.1)

-- What is free afterwards

-- behind one free line or more
pub fresh_behind : (owner r n : ℕ) (ls : List (List ℕ)) → Fresh owner r ls → Fresh owner r (drop (suc n) ls)
fresh_behind owner r n [] f = f
fresh_behind owner r n (l ∷ ls) f = record {
  closed = not_first_closed owner (drop n ls) (All-drop NotFirst n ls f.tail);
  below = All-drop (MarkBelow r) n ls f.below.1;
  tail = All-drop NotFirst 1 (drop n ls) (All-drop NotFirst n ls f.tail);
}

-- for the next run
pub fresh_later : (owner r : ℕ) (ls : List (List ℕ)) → Fresh owner r ls → Fresh owner (r + 1) ls
fresh_later owner r ls f = record {
  closed = f.closed;
  below = All-weaker (MarkBelow r) (MarkBelow (r + 1)) (λ l h. omega arith) ls f.below;
  tail = f.tail;
}

mixed_below : {ws os ns : List (List ℕ)} → Mixed ws os ns → (r : ℕ) → AllByRecursion (MarkIs r) ws → AllByRecursion (MarkBelow r) os → AllByRecursion (MarkBelow (r + 1)) ns
mixed_below (behind {ls}) r a b = All-weaker (MarkBelow r) (MarkBelow (r + 1)) (λ l h. omega arith) ls b
mixed_below (next {o} {w} {n} {os} {ws} {ns} x xs) r a b = (line x, mixed_below xs r a.1 b.1)
  where
    line : Became o w n → word n 7 < r + 1
    line (kept q) = rw q (omega arith)
    line (torn q) = omega arith
    line (whole q) = rw q (omega arith)

mixed_not_first : {ws os ns : List (List ℕ)} → Mixed ws os ns → AllByRecursion NotFirst ws → AllByRecursion NotFirst os → AllByRecursion NotFirst ns
mixed_not_first behind a b = b
mixed_not_first (next {o} {w} {n} {os} {ws} {ns} x xs) a b = (line x, mixed_not_first xs a.1 b.1)
  where
    line : Became o w n → NotFirst n
    line (kept q) = rw q b.0
    line (torn q) = inl q
    line (whole q) = rw q a.0

mixed_tail : {ws os ns : List (List ℕ)} → Mixed ws os ns → AllByRecursion NotFirst (drop 1 ws) → AllByRecursion NotFirst (drop 1 os) → AllByRecursion NotFirst (drop 1 ns)
mixed_tail behind a b = b
mixed_tail (next x xs) a b = mixed_not_first xs a b

-- a mixture on which no entry stands is free again
pub mixed_fresh : {ws os ns : List (List ℕ)} → Mixed ws os ns → (owner r : ℕ) → AllByRecursion (MarkIs r) ws → AllByRecursion NotFirst (drop 1 ws) → Fresh owner r os →
    stands owner ns ≡ false → Fresh owner (r + 1) ns
mixed_fresh x owner r a b f h = record { closed = h; below = mixed_below x r a f.below; tail = mixed_tail x b f.tail }

-- The entry that is written

fit_marks : (n e m mark t : ℕ) (ls : List (List ℕ)) → length ls ≡ n → lines_fit n e m mark t ls ≡ true → AllByRecursion (MarkIs mark) ls
fit_marks n e m mark t [] k h = tt
fit_marks zero e m mark t (l ∷ ls) k h = absurd (omega arith)
fit_marks (suc n) e m mark t (l ∷ ls) k h =
    let p = fit_parts n e m mark t l ls h in
    (mark_of e m mark t l p.0, fit_marks n e m mark (t + 1) ls (omega arith) p.1)

fit_numbers : (n e m mark t : ℕ) (ls : List (List ℕ)) → length ls ≡ n → 1 ≤ t → lines_fit n e m mark t ls ≡ true → AllByRecursion NotFirst ls
fit_numbers n e m mark t [] k low h = tt
fit_numbers zero e m mark t (l ∷ ls) k low h = absurd (omega arith)
fit_numbers (suc n) e m mark t (l ∷ ls) k low h =
    let p = fit_parts n e m mark t l ls h in
    let two = number_of e m mark t l p.0 in
    (inr (λ z. omega arith), fit_numbers n e m mark (t + 1) ls (omega arith) (omega arith) p.1)

-- an entry with the mark r on its lines, of eight words each
pub record Target (owner r : ℕ) (f : Entry) : Type 0 where
  pub entry : Stood owner f
  pub run : word entry.first 7 ≡ r
  pub sized : AllByRecursion (λ l. length l ≡ 8) f.lines

module _ (owner r : ℕ) (f : Entry) (w : Target owner r f) where
  lines_are : f.lines ≡ w.entry.first ∷ w.entry.others
  lines_are = ap (λ (x : Entry). x.lines) w.entry.is

  fits : lines_fit (suc (length w.entry.others)) (word w.entry.first 0) (word w.entry.first 1) r 0
      (w.entry.first ∷ w.entry.others) ≡ true
  fits =
      let l = w.entry.first in let ls = w.entry.others in
      subst₂ (λ (i j : ℕ). lines_fit i (word l 0) (word l 1) j 0 (l ∷ ls) ≡ true) w.entry.long w.run
      (stands_parts owner l ls w.entry.stood).1

  pub target_marks : AllByRecursion (MarkIs r) f.lines
  target_marks = rw lines_are (fit_marks _ _ _ r 0 (w.entry.first ∷ w.entry.others) refl fits)

  pub target_numbers : AllByRecursion NotFirst (drop 1 f.lines)
  target_numbers =
      rw lines_are
      (fit_numbers _ _ _ r 1 w.entry.others refl (omega arith)
      (and_parts (line_fits (word w.entry.first 0) (word w.entry.first 1) r 0 w.entry.first) _ fits).1)

  pub target_length : word (get_or f.lines 0 []) 1 ≡ length f.lines
  target_length = rw lines_are w.entry.long

  pub target_run : 1 ≤ r
  target_run =
      let l = w.entry.first in
      let z = mark_begun owner l (stands_parts owner l w.entry.others w.entry.stood).0 in let y = w.run in
      omega arith
