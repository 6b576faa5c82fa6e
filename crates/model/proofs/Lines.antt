-- The lines of a log while an entry is written on them.
use Rattle.std.proofs.Common.{◌≡◌, ℕ, zero, suc, pred, ◌+◌, ◌-◌, ◌*◌, ◌<◌, ◌≤◌, cond, eqb, ltb, List, [], ◌∷◌, ◌++◌, map, length, get_or, take, drop, set, sym, refl, ap, ◌∙◌, subst, ap₂, inl, inr, arith, length-drop}
use Rattle.std.specs.List.{AllByRecursion}
use Rattle.std.proofs.lemmas.List.{length-take, take_all, take-take, drop_all}
use Rattle.std.proofs.lemmas.Bool.{cases_lt}
use Rattle.memory.specs.Model.{Line, written, each, settle, cut_line, fence_line, push_store, ask}
use Rattle.memory.specs.declared.types.Store.{Store}
use Rattle.memory.proofs.Settling.{length_written}
use Rattle.model.specs.Journal.{word}
use Rattle.model.proofs.Settling.{Stored, stored_none, stored_push, stored_ask, stored_settle, stored_fence, stored_cut, stored_fenced}
use Rattle.model.proofs.Reading.{Became, Mixed}
use Rattle.model.proofs.Words.{stores, became, all_written}

-- the settled words of each line
abbrev pub settled_lines : List Line → List (List ℕ)
settled_lines xs = map (λ (x : Line). x.settled) xs

-- nothing is pending
abbrev pub Quiet : List Line → Type 0
Quiet = AllByRecursion (λ x. x.pending ≡ [])

-- eight words a line
abbrev pub Sized : List (List ℕ) → Type 0
Sized = AllByRecursion (λ l. length l ≡ 8)

-- a line with the words o, of whose ten stages towards w the first ones are made: nine stores and a write-back
pub record Staged (o w : List ℕ) (stage : ℕ) (x : Line) : Type 0 where
  pub made : Stored o (take stage (stores w)) x
  pub asked : 10 ≤ stage → x.asked ≡ length x.pending

-- wanted lines, the words that the lines had, the lines: `stage` stages of the first are made, `stage - 10` of the next, and so on;
-- behind the wanted lines nothing is pending
pub data Writing : ℕ → List (List ℕ) → List (List ℕ) → List Line → Type 0 where
  behind : {stage : ℕ} {os : List (List ℕ)} {xs : List Line} → Quiet xs → settled_lines xs ≡ os → Writing stage [] os xs
  next : {stage : ℕ} {w o : List ℕ} {ws os : List (List ℕ)} {x : Line} {xs : List Line} →
      Staged o w stage x → Writing (stage - 10) ws os xs → Writing stage (w ∷ ws) (o ∷ os) (x ∷ xs)

-- Quiet lines stay as they are

pub quiet_settled : (n : ℕ) (x : Line) → x.pending ≡ [] → written x.settled (take n x.pending) ≡ x.settled
quiet_settled n x e = rw (e, take_all {A = Store} n [] (omega arith)) refl

pub quiet_cut : (ns : List ℕ) (xs : List Line) → Quiet xs → settled_lines (each cut_line ns xs) ≡ settled_lines xs
quiet_cut ns [] q = refl
quiet_cut [] (x ∷ xs) q = rw (quiet_settled 0 x q.0, quiet_cut [] xs q.1) refl
quiet_cut (n ∷ ns) (x ∷ xs) q = rw (quiet_settled n x q.0, quiet_cut ns xs q.1) refl

pub cut_quiet : (ns : List ℕ) (xs : List Line) → Quiet (each cut_line ns xs)
cut_quiet ns [] = tt
cut_quiet [] (x ∷ xs) = (refl, cut_quiet [] xs)
cut_quiet (n ∷ ns) (x ∷ xs) = (refl, cut_quiet ns xs)

pub quiet_early : (ns : List ℕ) (xs : List Line) → Quiet xs → Quiet (each settle ns xs) × (settled_lines (each settle ns xs) ≡ settled_lines xs)
quiet_early ns [] q = (tt, refl)
quiet_early [] (x ∷ xs) q = let h = quiet_early [] xs q.1 in ((q.0, h.0), rw (quiet_settled 0 x q.0, h.1) refl)
quiet_early (n ∷ ns) (x ∷ xs) q =
    let h = quiet_early ns xs q.1 in
    ((rw q.0 (drop_all {X = Store} n [] (omega arith)), h.0), rw (quiet_settled n x q.0, h.1) refl)

pub quiet_fence : (ns : List ℕ) (xs : List Line) → Quiet xs →
    Quiet (each fence_line ns xs) × (settled_lines (each fence_line ns xs) ≡ settled_lines xs)
quiet_fence ns [] q = (tt, refl)
quiet_fence [] (x ∷ xs) q =
    let h = quiet_fence [] xs q.1 in
    ((rw q.0 (drop_all {X = Store} _ [] (omega arith)), h.0), rw (quiet_settled _ x q.0, h.1) refl)
quiet_fence (n ∷ ns) (x ∷ xs) q =
    let h = quiet_fence ns xs q.1 in
    ((rw q.0 (drop_all {X = Store} _ [] (omega arith)), h.0), rw (quiet_settled _ x q.0, h.1) refl)

-- One line

-- a first part of a first part is one
take_first : {A : Type 0} (c n : ℕ) (l : List A) → (k : ℕ) × (take c (take n l) ≡ take k l)
take_first c n l = elim (cases_lt n c) [ inl h ↦ (n, take_all c (take n l) (simp length-take (omega arith))) | inr h ↦ (c, take-take c n l h) ]

cut_became : (o w : List ℕ) (stage : ℕ) (x : Line) → Staged o w stage x → length o ≡ 8 → length w ≡ 8 → (n : ℕ) → Became o w (cut_line n x).settled
cut_became o w stage x m p q n =
    let c = stored_cut m.made n in
    let k = take_first c.0 stage (stores w) in
    rw (c.1, k.1) (became o w p q k.0)

cut_sized : (o w : List ℕ) (stage : ℕ) (x : Line) → Staged o w stage x → length o ≡ 8 → (n : ℕ) → length (cut_line n x).settled ≡ 8
cut_sized o w stage x m p n =
    length_written _ (take n x.pending) ∙ ap length m.made.now ∙ length_written o m.made.done ∙ p

pub asked_settle : (x : Line) (n : ℕ) → x.asked ≡ length x.pending → (settle n x).asked ≡ length (settle n x).pending
asked_settle x n e = let k = length-drop n x.pending in omega arith

staged_settle : {o w : List ℕ} {stage : ℕ} {x : Line} → Staged o w stage x → (n : ℕ) → Staged o w stage (settle n x)
staged_settle {x} m n = record { made = stored_settle m.made n; asked = λ h. asked_settle x n (m.asked h) }

-- another station's fence
staged_fence : {o w : List ℕ} {stage : ℕ} {x : Line} → Staged o w stage x → (n : ℕ) → Staged o w stage (fence_line n x)
staged_fence {x} m n = record { made = stored_fence m.made n; asked = λ h. let e = m.asked h in rw length-drop (omega arith) }

-- with all stages made a fence makes the line as wanted
fence_whole : (o w : List ℕ) (stage : ℕ) (x : Line) → Staged o w stage x → 10 ≤ stage → length o ≡ 8 → length w ≡ 8 → (n : ℕ) →
    ((fence_line n x).settled ≡ w) × ((fence_line n x).pending ≡ [])
fence_whole o w stage x m h p q n =
    let g = stored_fenced m.made (m.asked h) n in
    (g.0 ∙ ap (written o) (take_all stage (stores w) (omega arith)) ∙ all_written o w p q, g.1)

-- stage j of a line
abbrev pub staged : List ℕ → ℕ → Line → Line
staged w j x = cond (eqb j 0) (push_store x 7 0) (cond (ltb j 9) (push_store x (pred j) (word w (pred j))) (ask x))

stage_line : (o w : List ℕ) (x : Line) (j : ℕ) → j < 10 → Stored o (take j (stores w)) x → Staged o w (suc j) (staged w j x)
stage_line o w x zero h m = record { made = stored_push m 7 0; asked = λ g. absurd (omega arith) }
stage_line o w x (suc zero) h m = record { made = stored_push m 0 (word w 0); asked = λ g. absurd (omega arith) }
stage_line o w x (suc (suc zero)) h m = record { made = stored_push m 1 (word w 1); asked = λ g. absurd (omega arith) }
stage_line o w x (suc (suc (suc zero))) h m = record { made = stored_push m 2 (word w 2); asked = λ g. absurd (omega arith) }
stage_line o w x (suc (suc (suc (suc zero)))) h m = record { made = stored_push m 3 (word w 3); asked = λ g. absurd (omega arith) }
stage_line o w x (suc (suc (suc (suc (suc zero))))) h m = record { made = stored_push m 4 (word w 4); asked = λ g. absurd (omega arith) }
stage_line o w x (suc (suc (suc (suc (suc (suc zero)))))) h m = record { made = stored_push m 5 (word w 5); asked = λ g. absurd (omega arith) }
stage_line o w x (suc (suc (suc (suc (suc (suc (suc zero))))))) h m = record { made = stored_push m 6 (word w 6); asked = λ g. absurd (omega arith) }
stage_line o w x (suc (suc (suc (suc (suc (suc (suc (suc zero)))))))) h m = record { made = stored_push m 7 (word w 7); asked = λ g. absurd (omega arith) }
stage_line o w x (suc (suc (suc (suc (suc (suc (suc (suc (suc zero))))))))) h m = record { made = stored_ask m; asked = λ g. refl }
stage_line o w x (suc (suc (suc (suc (suc (suc (suc (suc (suc (suc j)))))))))) h m = absurd (omega arith)

-- AllByRecursion lines

-- the writing begins
pub writing_none : (ws : List (List ℕ)) (xs : List Line) → Quiet xs → length ws ≤ length xs → Writing 0 ws (settled_lines xs) xs
writing_none [] xs q h = behind q refl
writing_none (w ∷ ws) [] q h = absurd (omega arith)
writing_none (w ∷ ws) (x ∷ xs) q h =
    next (record { made = stored_none x q.0; asked = λ g. absurd (omega arith) }) (writing_none ws xs q.1 (omega arith))

-- one stage more, stage j of line t
pub writing_step : {stage : ℕ} {ws os : List (List ℕ)} {xs : List Line} → Writing stage ws os xs → (t j : ℕ) → stage ≡ 10 * t + j → j < 10 →
    t < length ws → (d : Line) → Writing (suc stage) ws os (set xs t (staged (get_or ws t []) j (get_or xs t d)))
writing_step (behind q e) t j k h l d = absurd (omega arith)
writing_step (next {stage} {w} {o} {ws} {os} {x} {xs} m rest) zero j k h l d =
    let e : stage ≡ j = omega arith in
    let s = stage_line o w x j h (rw e at m.made) in
    next (rw e s) (subst (λ (i : ℕ). Writing i ws os xs) (omega arith) rest)
writing_step (next {stage} {w} {o} {ws} {os} {x} {xs} m rest) (suc t) j k h l d =
    let e : take stage (stores w) ≡ take (suc stage) (stores w) =
    take_all stage (stores w) (omega arith) ∙ sym (take_all (suc stage) (stores w) (omega arith)) in
    let others = writing_step rest t j (omega arith) h (omega arith) d in
    next (record { made = subst (λ (ss : List Store). Stored o ss x) e m.made; asked = λ g. m.asked (omega arith) })
    (subst (λ (i : ℕ). Writing i ws os (set xs t (staged (get_or ws t []) j (get_or xs t d)))) (omega arith) others)

pub writing_early : {stage : ℕ} {ws os : List (List ℕ)} {xs : List Line} → Writing stage ws os xs → (ns : List ℕ) →
    Writing stage ws os (each settle ns xs)
writing_early (behind {stage} {os} {xs} q e) ns = let h = quiet_early ns xs q in behind h.0 (h.1 ∙ e)
writing_early (next m rest) [] = next (staged_settle m 0) (writing_early rest [])
writing_early (next m rest) (n ∷ ns) = next (staged_settle m n) (writing_early rest ns)

-- a fence in the midst of the writing is another station's
pub writing_fenced : {stage : ℕ} {ws os : List (List ℕ)} {xs : List Line} → Writing stage ws os xs → (ns : List ℕ) →
    Writing stage ws os (each fence_line ns xs)
writing_fenced (behind {stage} {os} {xs} q e) ns = let h = quiet_fence ns xs q in behind h.0 (h.1 ∙ e)
writing_fenced (next m rest) [] = next (staged_fence m 0) (writing_fenced rest [])
writing_fenced (next m rest) (n ∷ ns) = next (staged_fence m n) (writing_fenced rest ns)

-- with all stages made a fence makes all lines as wanted
pub writing_whole : {stage : ℕ} {ws os : List (List ℕ)} {xs : List Line} → Writing stage ws os xs → 10 * length ws ≤ stage → Sized os → Sized ws →
    (ns : List ℕ) → Quiet (each fence_line ns xs) × (settled_lines (each fence_line ns xs) ≡ ws ++ drop (length ws) os)
writing_whole (behind {stage} {os} {xs} q e) h so sw ns = let g = quiet_fence ns xs q in (g.0, g.1 ∙ e)
writing_whole (next {stage} {w} {o} {ws} {os} {x} {xs} m rest) h so sw [] =
    let p = fence_whole o w stage x m (omega arith) so.0 sw.0 0 in
    let g = writing_whole rest (omega arith) so.1 sw.1 [] in
    ((p.1, g.0), ap₂ (λ (l : List ℕ) (ls : List (List ℕ)). l ∷ ls) p.0 g.1)
writing_whole (next {stage} {w} {o} {ws} {os} {x} {xs} m rest) h so sw (n ∷ ns) =
    let p = fence_whole o w stage x m (omega arith) so.0 sw.0 n in
    let g = writing_whole rest (omega arith) so.1 sw.1 ns in
    ((p.1, g.0), ap₂ (λ (l : List ℕ) (ls : List (List ℕ)). l ∷ ls) p.0 g.1)

-- a cut leaves each line as it was, torn or whole
pub writing_cut : {stage : ℕ} {ws os : List (List ℕ)} {xs : List Line} → Writing stage ws os xs → Sized os → Sized ws → (ns : List ℕ) →
    Mixed ws os (settled_lines (each cut_line ns xs))
writing_cut (behind {stage} {os} {xs} q e) so sw ns = rw (quiet_cut ns xs q, e) Mixed.behind
writing_cut (next {stage} {w} {o} {ws} {os} {x} {xs} m rest) so sw [] =
    Mixed.next (cut_became o w stage x m so.0 sw.0 0) (writing_cut rest so.1 sw.1 [])
writing_cut (next {stage} {w} {o} {ws} {os} {x} {xs} m rest) so sw (n ∷ ns) =
    Mixed.next (cut_became o w stage x m so.0 sw.0 n) (writing_cut rest so.1 sw.1 ns)

-- each line still has eight words
pub writing_sized : {stage : ℕ} {ws os : List (List ℕ)} {xs : List Line} → Writing stage ws os xs → Sized os → (ns : List ℕ) →
    Sized (settled_lines (each cut_line ns xs))
writing_sized (behind {stage} {os} {xs} q e) so ns = rw (quiet_cut ns xs q, e) so
writing_sized (next {stage} {w} {o} {ws} {os} {x} {xs} m rest) so [] = (cut_sized o w stage x m so.0 0, writing_sized rest so.1 [])
writing_sized (next {stage} {w} {o} {ws} {os} {x} {xs} m rest) so (n ∷ ns) = (cut_sized o w stage x m so.0 n, writing_sized rest so.1 ns)

-- with nothing wanted nothing is pending
pub writing_rest : {stage : ℕ} {os : List (List ℕ)} {xs : List Line} → Writing stage [] os xs → Quiet xs × (settled_lines xs ≡ os)
writing_rest (behind q e) = (q, e)
