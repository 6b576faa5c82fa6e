-- Line 0, which holds the number of the newest run: what touches, a rise and cuts make of it.
use Rattle.std.proofs.Common.{◌≡◌, ℕ, zero, suc, pred, ◌%◌, ◌≤◌, max, ◌&&◌, eqb, ltb, ◌⊎◌, List, [], ◌∷◌, length, get_or, take, drop, set, sym, refl, ap, ◌∙◌, subst, inl, inr, arith}
use Rattle.std.proofs.lemmas.List.{take_all, drop_all, length-set, get_or-set_same, get_or-set_other}
use Rattle.std.proofs.lemmas.Bool.{cond_both}
use Rattle.memory.specs.Model.{Mem, Line, blank_line, written, settle, fence_line, cut_line, early, with_line, line_at, loaded, has_line}
use Rattle.memory.specs.declared.types.Store.{Store}
use Rattle.memory.proofs.Each.{each_at}
use Rattle.model.specs.Journal.{word}
use Rattle.model.specs.Machine.{Machine, Touch, touched, write_touch}
use Rattle.model.specs.Machine.Touch.{nothing, store, write_back, fence}
use Rattle.model.proofs.Settling.{Stored, stored_settle, stored_cut, stored_fenced}
use Rattle.model.proofs.Lines.{quiet_settled}

-- the line holds n, and nothing is pending
pub record Number (n : ℕ) (x : Line) : Type 0 where
  pub quiet : x.pending ≡ []
  pub is : word x.settled 0 ≡ n
  pub some : 1 ≤ length x.settled

-- a load gives the number
pub number_loaded : (n : ℕ) (m : Mem) → Number n (line_at m 0) → loaded m 0 0 ≡ n
number_loaded n m k = ap (λ (ss : List Store). word (written (line_at m 0).settled ss) 0) k.quiet ∙ k.is

-- What is done elsewhere keeps it

number_kept : (n k : ℕ) (x y : Line) → Number n x → y.settled ≡ written x.settled (take k x.pending) → y.pending ≡ [] → Number n y
number_kept n k x y a e d =
    let q = e ∙ quiet_settled k x a.quiet in
    record { quiet = d; is = ap (λ (ws : List ℕ). word ws 0) q ∙ a.is; some = subst (λ (ws : List ℕ). 1 ≤ length ws) (sym q) a.some }

none_left : (n k : ℕ) (x : Line) → Number n x → drop k x.pending ≡ []
none_left n k x a = ap (drop k) a.quiet ∙ drop_all {X = Store} k [] (omega arith)

number_settle : (n k : ℕ) (x : Line) → Number n x → Number n (settle k x)
number_settle n k x a = number_kept n k x (settle k x) a refl (none_left n k x a)

number_fence : (n k : ℕ) (x : Line) → Number n x → Number n (fence_line k x)
number_fence n k x a = number_kept n (max x.asked k) x (fence_line k x) a refl (none_left n (max x.asked k) x a)

pub number_cut : (n k : ℕ) (x : Line) → Number n x → Number n (cut_line k x)
number_cut n k x a = number_kept n k x (cut_line k x) a refl refl

-- the touch is of no line but those behind line 0
abbrev pub BehindNumber : Touch → Type 0
BehindNumber nothing = Unit {0}
BehindNumber (store l w v) = 1 ≤ l
BehindNumber (write_back l) = 1 ≤ l
BehindNumber fence = Unit {0}

-- a stage of writing is such a touch
pub write_behind : {S : Type 0} (r : Machine S) (s own m i : ℕ) → BehindNumber (write_touch r s own m i)
write_behind r s own m i =
    cond_both (eqb (i % 10) 0) _ _ BehindNumber (λ e. omega arith)
    (λ e. cond_both (ltb (i % 10) 9) _ _ BehindNumber (λ e. omega arith) (λ e. omega arith))

number_other : (m : Mem) (l : ℕ) (x : Line) (ns : List ℕ) (n : ℕ) → 1 ≤ length m.lines → 1 ≤ l → Number n (line_at m 0) →
    Number n (line_at (early ns (with_line m l x)) 0)
number_other m l x ns n h a k =
    let e = length-set m.lines l x in
    let is =
    each_at settle ns (set m.lines l x) 0 (omega arith) ∙ ap (settle (get_or ns 0 0)) (get_or-set_other m.lines l 0 x blank_line (omega arith)) in
    subst (Number n) (sym is) (number_settle n (get_or ns 0 0) (line_at m 0) k)

-- such a touch keeps the number
pub number_touched : (m : Mem) (t : Touch) (ns : List ℕ) (n : ℕ) → 1 ≤ length m.lines → BehindNumber t → Number n (line_at m 0) →
    Number n (line_at (touched t ns m) 0)
number_touched m nothing ns n h a k = k
number_touched m (store l w v) ns n h a k =
    cond_both (has_line m l && ltb w 8) _ _ (λ (y : Mem). Number n (line_at y 0)) (λ e. number_other m l _ ns n h a k) (λ e. k)
number_touched m (write_back l) ns n h a k =
    cond_both (has_line m l) _ _ (λ (y : Mem). Number n (line_at y 0)) (λ e. number_other m l _ ns n h a k) (λ e. k)
number_touched m fence ns n h a k = subst (Number n) (sym (each_at fence_line ns m.lines 0 h)) (number_fence n (get_or ns 0 0) (line_at m 0) k)

-- A rise

-- the line held the number before, and the store of num on it is made
pub record Storing (num : ℕ) (x : Line) : Type 0 where
  pub old : List ℕ
  pub made : Stored old (record { word = 0; value = num } ∷ []) x
  pub is : word old 0 ≡ pred num
  pub some : 1 ≤ length old

pub storing_settle : (num k : ℕ) (x : Line) → Storing num x → Storing num (settle k x)
storing_settle num k x a = record { old = a.old; made = stored_settle a.made k; is = a.is; some = a.some }

-- the words with num stored on them
number_stored : (num : ℕ) (x y : Line) (a : Storing num x) → y.settled ≡ set a.old 0 num → y.pending ≡ [] → Number num y
number_stored num x y a e d =
    let l = ap length e in let k = length-set a.old 0 num in
    record { quiet = d; is = ap (λ (ws : List ℕ). word ws 0) e ∙ get_or-set_same a.old 0 num 0 a.some; some = omega (arith, a.some) }

-- a fence, after the write-back, makes it the number
pub storing_fenced : (num k : ℕ) (x : Line) → Storing num x → x.asked ≡ length x.pending → Number num (fence_line k x)
storing_fenced num k x a h = let d = stored_fenced a.made h k in number_stored num x (fence_line k x) a d.0 d.1

-- a cut leaves the number before, or this one
pub storing_cut : (num k : ℕ) (x : Line) → Storing num x → Number (pred num) (cut_line k x) ⊎ Number num (cut_line k x)
storing_cut num k x a = by (stored_cut a.made k).0 (stored_cut a.made k).1
  where
    by : (c : ℕ) → (cut_line k x).settled ≡ written a.old (take c (record { word = 0; value = num } ∷ [])) →
        Number (pred num) (cut_line k x) ⊎ Number num (cut_line k x)
    by zero e = inl (record { quiet = refl; is = ap (λ (ws : List ℕ). word ws 0) e ∙ a.is; some = (let l = ap length e in omega (arith, a.some)) })
    by (suc c) e = inr (number_stored num x (cut_line k x) a (e ∙ ap (written (set a.old 0 num)) (take_all {A = Store} c [] (omega arith))) refl)
