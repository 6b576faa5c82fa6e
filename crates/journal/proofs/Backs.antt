-- The lines of an entry that was laid down are read back as the same updates.
use Rattle.std.proofs.Common.{◌≡◌, ℕ, suc, ◌+◌, ◌-◌, ◌<◌, ◌≤◌, true, List, [], ◌∷◌, ◌++◌, map, length, sym, refl, ap, ◌∙◌, ap₂, subst₂, arith}
use Rattle.std.proofs.lemmas.List.{take_at, drop_at}
use Rattle.std.proofs.lemmas.Bool.{and_from}
use Rattle.std.proofs.lemmas.Bool.Decides.{nat_tests}
use Rattle.model.specs.Journal.{max_place, max_run, station_count, max_lines, entry_line, update_in, line_fits, lines_fit, begins, stands, entries, lines_from, Readable, ReadsBack}
use Rattle.model.specs.declared.types.Update.{Update}
use Rattle.journal.proofs.Fitting.{entries_some}

pub as_many : (e m t : ℕ) (us : List Update) → length (lines_from e m t us) ≡ length us
as_many e m t [] = refl
as_many e m t (u ∷ us) = ap suc (as_many e m (t + 1) us)

pub same_updates : (e m t : ℕ) (us : List Update) → map update_in (lines_from e m t us) ≡ us
same_updates e m t [] = refl
same_updates e m t (u ∷ us) = ap (λ (vs : List Update). u ∷ vs) (same_updates e m (t + 1) us)

one_fits : (e m t mark : ℕ) (u : Update) → t < e → u.run ≡ mark → 1 ≤ u.station → u.station ≤ station_count → 1 ≤ u.call → u.call ≤ max_place →
    line_fits e m mark t (entry_line e m t u) ≡ true
one_fits e m t mark u h r a b c d = grind (arith, nat_tests)

all_fit : (e m t mark : ℕ) (us : List Update) (rest : List (List ℕ)) → t + length us ≤ e → Readable mark us →
    lines_fit (length us) e m mark t (lines_from e m t us ++ rest) ≡ true
all_fit e m t mark [] rest h f = refl
all_fit e m t mark (u ∷ us) rest h f =
    and_from _ _ (one_fits e m t mark u (omega arith) f.0 f.1 f.2 f.3 f.4) (all_fit e m (t + 1) mark us rest (omega arith) f.5)

first_begins : (e m mark : ℕ) (u : Update) → e - 0 ≤ max_place → 1 ≤ m → m ≤ max_lines → u.run ≡ mark → 1 ≤ mark → mark ≤ max_run →
    begins u.station (entry_line e m 0 u) ≡ true
first_begins e m mark u a b c r d f = grind (arith, nat_tests)

pub reads_back : ReadsBack
reads_back e mark u us rest f short low high one top =
    let m = length (u ∷ us) in
    let ls = lines_from e m 0 (u ∷ us) in
    let same : e - 0 ≡ e = omega arith in
    let long : length ls ≡ m = as_many e m 0 (u ∷ us) in
    let fits : lines_fit m (e - 0) m u.run 0 (ls ++ rest) ≡ true =
    subst₂ (λ (k r : ℕ). lines_fit m k m r 0 (ls ++ rest) ≡ true) (sym same) (sym f.0) (all_fit e m 0 mark (u ∷ us) rest (omega arith) f) in
    let stood : stands u.station (ls ++ rest) ≡ true =
    and_from _ _ (first_begins e m mark u (omega arith) (omega arith) short f.0 one top) fits in (
      entries_some u.station (entry_line e m 0 u) (lines_from e m 1 us ++ rest) (omega arith) stood
          ∙ ap₂ (λ (xs ys : List (List ℕ)). record { place = e - 0; lines = xs } ∷ entries u.station 0 ys) (take_at ls rest m long) (drop_at ls rest m long)
          ∙ ap (λ (p : ℕ). record { place = p; lines = ls } ∷ entries u.station 0 rest) same,
      same_updates e m 0 (u ∷ us),
    )
