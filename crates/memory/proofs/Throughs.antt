-- The memory that writes through: its lines are the words of its caller, eight by eight.
use Rattle.std.proofs.Common.{◌≡◌, ℕ, zero, suc, ◌+◌, ◌*◌, ◌/◌, ◌<◌, ◌≤◌, true, false, ltb, List, [], ◌∷◌, ◌++◌, map, length, get_or, take, drop, set, replicate, sym, refl, ap, ◌∙◌, ap₂, arith, length-set, length-take-le, length-append, length-drop}
use Rattle.std.proofs.Math.Seq.{take-set-lt}
use Rattle.std.specs.List.{AllByRecursion}
use Rattle.std.proofs.lemmas.List.{drop-drop, drop-set-lt, drop-set-add, take-set-le, get_or_past, set-get_or, take-take, take-replicate, drop-take, drop-replicate, take-append-le, length-replicate}
use Rattle.std.proofs.lemmas.Bool.{cond-true, cond_both, ltb-true, lt-ltb, le-ltb, and_from}
use Rattle.memory.specs.Model.{Line, Mem, settled_line, blank_line, words_of, settle, each, chosen, push_store, pushed, stored, ask, marked, written_back, fence_line, cut_line}
use Rattle.memory.specs.Through.{lines_of, whole_lines, through_mem, all_pending}
use Rattle.memory.proofs.Each.{Stays, one_settles}

pub length_lines : (n : ℕ) (ws : List ℕ) → length (lines_of n ws) ≡ n
length_lines zero ws = refl
length_lines (suc n) ws = ap suc (length_lines n (drop 8 ws))

-- the words of line l
abbrev pub eight : ℕ → List ℕ → List ℕ
eight l ws = take 8 (drop (8 * l) ws)

eight_behind : (l : ℕ) (ws : List ℕ) → eight l (drop 8 ws) ≡ eight (suc l) ws
eight_behind l ws = ap (take 8) (drop-drop (8 * l) 8 ws ∙ ap (λ k. drop k ws) (omega arith))

pub line_there : (n l : ℕ) (ws : List ℕ) → l < n → get_or (lines_of n ws) l blank_line ≡ settled_line (eight l ws)
line_there zero l ws h = absurd (omega arith)
line_there (suc n) zero ws h = refl
line_there (suc n) (suc l) ws h = line_there n l (drop 8 ws) (omega arith) ∙ ap settled_line (eight_behind l ws)

-- a word written is a word of its line written
pub lines_set : (n l w v : ℕ) (ws : List ℕ) → l < n → w < 8 → lines_of n (set ws (8 * l + w) v) ≡ set (lines_of n ws) l (settled_line (set (eight l ws) w v))
lines_set zero l w v ws h small = absurd (omega arith)
lines_set (suc n) zero w v ws h small =
    let at : 8 * 0 + w ≡ w = omega arith in
    ap (λ k. lines_of (suc n) (set ws k v)) at
    ∙ ap₂ (λ (x : List ℕ) (xs : List ℕ). settled_line x ∷ lines_of n xs) (take-set-lt 8 ws w v small) (drop-set-lt 8 ws w v small)
lines_set (suc n) (suc l) w v ws h small =
    let at : 8 * suc l + w ≡ 8 + (8 * l + w) = omega arith in
    ap (λ k. lines_of (suc n) (set ws k v)) at
    ∙ ap₂ (λ (x : List ℕ) (xs : List ℕ). settled_line x ∷ lines_of n xs) (take-set-le 8 ws (8 + (8 * l + w)) v (omega arith)) (drop-set-add 8 ws (8 * l + w) v)
    ∙ ap (λ (xs : List Line). settled_line (take 8 ws) ∷ xs) (lines_set n l w v (drop 8 ws) (omega arith) small ∙ ap (λ (x : List ℕ). set (lines_of n (drop 8 ws)) l (settled_line (set x w v))) (eight_behind l ws))

-- nothing is pending on a line
pub stay : (n : ℕ) (ws : List ℕ) → AllByRecursion (Stays all_pending) (lines_of n ws)
stay zero ws = tt
stay (suc n) ws = (refl, stay n (drop 8 ws))

pub fence_none : (n : ℕ) (ws : List ℕ) → each fence_line (map all_pending (lines_of n ws)) (lines_of n ws) ≡ lines_of n ws
fence_none zero ws = refl
fence_none (suc n) ws = ap (λ (xs : List Line). settled_line (take 8 ws) ∷ xs) (fence_none n (drop 8 ws))

pub cut_none : (n : ℕ) (ws : List ℕ) → each cut_line [] (lines_of n ws) ≡ lines_of n ws
cut_none zero ws = refl
cut_none (suc n) ws = ap (λ (xs : List Line). settled_line (take 8 ws) ∷ xs) (cut_none n (drop 8 ws))

module _ (ws : List ℕ) (n l : ℕ) where
  within : l < length ws / 8 → ltb l (length (whole_lines ws)) ≡ true
  within h = lt-ltb l _ (rw (length_lines (length ws / 8) ws) h)

  absent : length ws / 8 ≤ l → ltb l (length (whole_lines ws)) ≡ false
  absent h = le-ltb l _ (rw (length_lines (length ws / 8) ws) h)

  abbrev here : Line
  here = get_or (whole_lines ws) l blank_line

  with_lines : {xs ys : List Line} → xs ≡ ys → ◌≡◌ {A = Mem} (record { lines = xs; fences = n }) (record { lines = ys; fences = n })
  with_lines e = ap (λ (xs : List Line). record { lines = xs; fences = n }) e

  -- what a change of line l comes to
  changed : (f : Line → Line) → l < length ws / 8 → each settle (map all_pending (set (whole_lines ws) l (f here))) (set (whole_lines ws) l (f here))
      ≡ set (whole_lines ws) l (settle (all_pending (f (settled_line (eight l ws)))) (f (settled_line (eight l ws))))
  changed f h =
      one_settles all_pending (whole_lines ws) l (f here) (stay (length ws / 8) ws)
      ∙ ap (λ (x : Line). set (whole_lines ws) l (settle (all_pending (f x)) (f x))) (line_there (length ws / 8) l ws h)

  pub asked_none : written_back (chosen all_pending (marked (through_mem ws n) l)) (through_mem ws n) l ≡ through_mem ws n
  asked_none =
      cond_both (ltb l (length (whole_lines ws))) _ _ (λ (m : Mem). m ≡ through_mem ws n)
      (λ e. let h : l < length ws / 8 = let k = ltb-true l _ e in let n = length_lines (length ws / 8) ws in omega arith in
      with_lines (changed ask h ∙ ap (set (whole_lines ws) l) (sym (line_there (length ws / 8) l ws h)) ∙ set-get_or (whole_lines ws) l blank_line))
      (λ _. refl)

  pub stored_there : (w v : ℕ) → w < 8 → l < length ws / 8 →
      through_mem (set ws (8 * l + w) v) n ≡ stored (chosen all_pending (pushed (through_mem ws n) l w v)) (through_mem ws n) l w v
  stored_there w v small h =
      with_lines
      (ap (λ k. lines_of (k / 8) (set ws (8 * l + w) v)) (length-set ws (8 * l + w) v)
      ∙ lines_set (length ws / 8) l w v ws h small
      ∙ sym (changed (λ x. push_store x w v) h))
      ∙ sym (cond-true _ _ _ (and_from _ _ (within h) (lt-ltb w 8 small)))

  pub words_absent : length ws / 8 ≤ l → words_of blank_line ≡ words_of here
  words_absent h = ap words_of (sym (get_or_past (whole_lines ws) l blank_line (rw (length_lines (length ws / 8) ws) h)))

-- lines of words that are all 0
pub lines_blank : (n : ℕ) (ws : List ℕ) → take (8 * n) ws ≡ replicate (8 * n) 0 → lines_of n ws ≡ replicate n blank_line
lines_blank zero ws e = refl
lines_blank (suc n) ws e =
    let front : take 8 ws ≡ replicate 8 0 = sym (take-take 8 (8 * suc n) ws (omega arith)) ∙ ap (take 8) e ∙ take-replicate 8 (8 * suc n) 0 (omega arith) in
    let behind : take (8 * n) (drop 8 ws) ≡ replicate (8 * n) 0 =
    sym (drop-take 8 (8 * n) ws) ∙ ap (λ k. drop 8 (take k ws)) (omega arith) ∙ ap (drop 8) e ∙ drop-replicate 8 (8 * suc n) 0 ∙ ap (λ k. replicate k 0) (omega arith) in
    ap₂ (λ (x : List ℕ) (xs : List Line). settled_line x ∷ xs) front (lines_blank n (drop 8 ws) behind)

-- where the words of the whole lines are made 0, those lines are blank
pub blanked : (ws news : List ℕ) → news ≡ replicate (length (take (8 * (length ws / 8)) ws)) 0 → whole_lines (news ++ drop (8 * (length ws / 8)) ws) ≡ replicate (length ws / 8) blank_line
blanked ws news e =
    let n = length ws / 8 in
    let k = 8 * n in
    let zeros : List ℕ = replicate k 0 in
    let filled : news ≡ zeros = e ∙ ap (λ i. replicate i 0) (length-take-le k ws (omega arith)) in
    let long : length zeros ≡ k = length-replicate {A = ℕ} k 0 in
    let all : length (news ++ drop k ws) ≡ length ws =
    length-append news (drop k ws) ∙ ap₂ (λ i j. i + j) (ap length filled ∙ long) (length-drop k ws) ∙ omega arith in
    let front : take k (news ++ drop k ws) ≡ zeros =
    ap (λ (xs : List ℕ). take k (xs ++ drop k ws)) filled ∙ take-append-le k zeros (drop k ws) (omega (arith, long)) ∙ take-replicate k k 0 (omega arith) in
    ap (λ i. lines_of (i / 8) (news ++ drop k ws)) all ∙ lines_blank n _ front
