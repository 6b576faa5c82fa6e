-- The entry that a station writes: it can be read, and it tells the updates at its places.
use Rattle.std.proofs.Common.{◌≡◌, ℕ, zero, suc, pred, ◌+◌, ◌-◌, ◌<◌, ◌≤◌, true, false, eqb, ◌⊎◌, List, [], ◌∷◌, length, get_or, sym, refl, ap, ◌∙◌, subst, ap₂, inl, inr, arith}
use Rattle.std.specs.List.{AllByRecursion}
use Rattle.std.proofs.lemmas.Bool.{and_from, eqb-false, cases_Bool}
use Rattle.std.proofs.lemmas.Bool.Decides.{nat_tests}
use Rattle.model.specs.Journal.{max_run, max_place, max_lines, station_count, entry_line, line_fits, lines_fit, begins, Entry, holding_lines}
use Rattle.model.specs.Machine.{no_update}
use Rattle.model.specs.declared.types.Update.{Update}
use Rattle.model.proofs.Reading.{Target}
use Rattle.model.proofs.Lines.{Sized}
use Rattle.model.proofs.Finding.{Agrees}

-- an update as run `run` writes it
abbrev stamped : ℕ → Update → Update
stamped run u = record { run = run; station = u.station; call = u.call; op = u.op }

-- line t of the entry for e with m lines; `at i` is the update at the place i
abbrev pub line_for : ℕ → (ℕ → Update) → ℕ → ℕ → ℕ → List ℕ
line_for run at e m t = entry_line e m t (stamped run (at (e - t)))

-- n lines from line t on
abbrev pub target_lines : ℕ → (ℕ → Update) → ℕ → ℕ → ℕ → ℕ → List (List ℕ)
target_lines run at e m t zero = []
target_lines run at e m t (suc n) = line_for run at e m t ∷ target_lines run at e m (t + 1) n

abbrev pub target_entry : ℕ → (ℕ → Update) → ℕ → ℕ → Entry
target_entry run at e m = record { place = e; lines = target_lines run at e m 0 m }

-- It can be read

-- station and call number are ones that reading takes
abbrev pub InRange : Update → Type 0
InRange u = (1 ≤ u.station) × (u.station ≤ station_count) × (1 ≤ u.call) × (u.call ≤ max_place)

line_for_fits : (run e m t : ℕ) (u : Update) → t < e → InRange u → line_fits e m run t (entry_line e m t (stamped run u)) ≡ true
line_for_fits run e m t u h n = grind (arith, nat_tests)

target_fits : (run : ℕ) (at : ℕ → Update) (e m t n : ℕ) → t + n ≤ e → ((i : ℕ) → e - (t + n) < i → i ≤ e → InRange (at i)) →
    lines_fit n e m run t (target_lines run at e m t n) ≡ true
target_fits run at e m t zero h a = refl
target_fits run at e m t (suc n) h a =
    and_from _ _ (line_for_fits run e m t (at (e - t)) (omega arith) (a (e - t) (omega arith) (omega arith)))
    (target_fits run at e m (t + 1) n (omega arith) (λ i low high. a i (omega arith) high))

target_sized : (run : ℕ) (at : ℕ → Update) (e m t n : ℕ) → Sized (target_lines run at e m t n)
target_sized run at e m t zero = tt
target_sized run at e m t (suc n) = (refl, target_sized run at e m (t + 1) n)

pub target_count : (run : ℕ) (at : ℕ → Update) (e m t n : ℕ) → length (target_lines run at e m t n) ≡ n
target_count run at e m t zero = refl
target_count run at e m t (suc n) = ap suc (target_count run at e m (t + 1) n)

first_begins : (owner run e m : ℕ) (u : Update) → e - 0 ≤ max_place → 1 ≤ m → m ≤ max_lines → 1 ≤ run → run ≤ max_run → u.station ≡ owner →
    begins owner (entry_line e m 0 (stamped run u)) ≡ true
first_begins owner run e m u a b c d f s = grind (arith, nat_tests)

-- it stands once written, with the mark of its run
pub is_target : (owner run : ℕ) (at : ℕ → Update) (e m : ℕ) → 1 ≤ m → m ≤ max_lines → m ≤ e → e ≤ max_place → 1 ≤ run → run ≤ max_run →
    (at e).station ≡ owner → ((i : ℕ) → e - m < i → i ≤ e → InRange (at i)) → Target owner run (target_entry run at e m)
is_target owner run at e zero a b c d f g s n = absurd (omega arith)
is_target owner run at e (suc m) a b c d f g s n =
    let z : e ≡ e - 0 = omega arith in
    record {
      entry = record {
        first = line_for run at e (suc m) 0;
        others = target_lines run at e (suc m) 1 m;
        is = ap (λ (p : ℕ). record { place = p; lines = target_lines run at e (suc m) 0 (suc m) }) z;
        long = ap suc (sym (target_count run at e (suc m) 1 m));
        stood =
            and_from _ _ (first_begins owner run e (suc m) (at (e - 0)) (omega arith) a b f g (ap (λ (p : ℕ). (at p).station) (sym z) ∙ s))
            (subst (λ (p : ℕ). lines_fit (suc m) p (suc m) run 0 (target_lines run at e (suc m) 0 (suc m)) ≡ true) z
            (target_fits run at e (suc m) 0 (suc m) (omega arith) (λ i low high. n i (omega arith) high)));
      };
      run = refl;
      sized = target_sized run at e (suc m) 0 (suc m);
    }

-- Its lines

-- line i
pub target_at : (run : ℕ) (at : ℕ → Update) (e m t n i : ℕ) → i < n → get_or (target_lines run at e m t n) i [] ≡ line_for run at e m (t + i)
target_at run at e m t zero i h = absurd (omega arith)
target_at run at e m t (suc n) zero h = let z : t ≡ t + 0 = omega arith in ap (line_for run at e m) z
target_at run at e m t (suc n) (suc i) h =
    let z : t + 1 + i ≡ t + suc i = omega arith in
    target_at run at e m (t + 1) n i (omega arith) ∙ ap (line_for run at e m) z

-- the entry looks at its own places only
pub target_same : (run : ℕ) (at at' : ℕ → Update) (e m t n : ℕ) → t + n ≤ e → ((i : ℕ) → e - (t + n) < i → i ≤ e → at i ≡ at' i) →
    target_lines run at e m t n ≡ target_lines run at' e m t n
target_same run at at' e m t zero k h = refl
target_same run at at' e m t (suc n) k h =
    ap₂ (λ (u : Update) (ls : List (List ℕ)). entry_line e m t (stamped run u) ∷ ls) (h (e - t) (omega arith) (omega arith))
    (target_same run at at' e m (t + 1) n (omega arith) (λ i low high. h i (omega arith) high))

-- What it tells

-- an entry for e with m lines, where the updates at its places are of this run
module _ (us : List Update) (run e m : ℕ) (fits : e ≤ length us) (own_run : (i : ℕ) → e - m < i → i ≤ e → (get_or us (pred i) no_update).run ≡ run) where
  abbrev at : ℕ → Update
  at i = get_or us (pred i) no_update

  -- its lines tell these updates
  pub target_agrees : (t n : ℕ) → t + n ≡ m → m ≤ e → AllByRecursion (Agrees us) (target_lines run at e m t n)
  target_agrees t zero k h = tt
  target_agrees t (suc n) k h =
      let u = at (e - t) in
      let told = ap (λ (r : ℕ). stamped r u) (sym (own_run (e - t) (omega arith) (omega arith))) in
      (record { low = omega arith; high = omega arith; told = told }, target_agrees (t + 1) n (omega arith) h)

  -- it holds each of its places
  pub target_holds : (t n i : ℕ) → t + n ≤ e → e - (t + n) < i → i ≤ e - t → 1 ≤ length (holding_lines i (target_lines run at e m t n))
  target_holds t zero i k low high = absurd (omega arith)
  target_holds t (suc n) i k low high = by (cases_Bool (eqb (e - t) i)) (λ h. target_holds (t + 1) n i (omega arith) (omega arith) h)
    where
      by : (eqb (e - t) i ≡ true) ⊎ (eqb (e - t) i ≡ false) → (i ≤ e - (t + 1) → 1 ≤ length (holding_lines i (target_lines run at e m (t + 1) n))) →
          1 ≤ length (holding_lines i (target_lines run at e m t (suc n)))
      by (inl h) r = rw h (omega arith)
      by (inr h) r = rw h (r (let x = eqb-false (e - t) i h in omega arith))
