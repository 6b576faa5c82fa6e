-- A log, at rest or while an entry is written to it: what settling, fences and cuts leave of it.
use Rattle.std.proofs.Common.{◌≡◌, ℕ, zero, suc, ◌+◌, ◌-◌, ◌*◌, ◌<◌, ◌≤◌, true, false, ◌⊎◌, List, [], ◌∷◌, ◌++◌, length, get_or, take, drop, set, replicate, sym, refl, ap, ◌∙◌, subst, ap₂, inl, inr, append_assoc, arith}
use Rattle.std.specs.List.{AllByRecursion}
use Rattle.std.proofs.ByRecursion.{All-append, All-push, All-take, All-drop, All-map}
use Rattle.std.proofs.lemmas.List.{append-nil, length-append, take-append-drop, take-map, drop-map, take_at, drop_at, drop_all, length-map, map-append, get_or-append-add, set-append_right}
use Rattle.std.proofs.lemmas.Bool.{cases_Bool}
use Rattle.memory.specs.Model.{Line, blank_line, each, settle, cut_line, fence_line}
use Rattle.model.specs.Journal.{stands, Entry, entries, used_lines}
use Rattle.model.proofs.Reading.{Mixed, MarkBelow, NotFirst, Stood, Target, Fresh, not_first_closed, lines_of, entries_are, mixture, mixed_fresh, fresh_behind, fresh_later, target_marks, target_numbers, target_length, target_run}
use Rattle.model.proofs.Lines.{settled_lines, Quiet, Sized, Writing, staged, quiet_cut, cut_quiet, quiet_early, quiet_fence, writing_none, writing_step, writing_early, writing_fenced, writing_whole, writing_cut, writing_sized, writing_rest}
use Rattle.model.proofs.Lines.Writing.{behind}

-- the entries fs stand on the used lines of the log of `owner`, which run r writes; the free lines had the words `olds` when the writing
-- of the lines ws began, and this is at the given stage
pub record Logged (owner r : ℕ) (fs : List Entry) (ws : List (List ℕ)) (stage : ℕ) (log : List Line) : Type 0 where
  pub used : List Line
  pub free : List Line
  pub olds : List (List ℕ)
  pub is : log ≡ used ++ free
  pub quiet : Quiet used
  pub holds : settled_lines used ≡ lines_of fs
  pub stood : AllByRecursion (Stood owner) fs
  pub sized : Sized olds
  pub fresh : Fresh owner r olds
  pub writing : Writing stage ws olds free

-- Lists

-- what is done to each line, for two lists
pub each_append : (f : ℕ → Line → Line) (ns : List ℕ) (a b : List Line) → each f ns (a ++ b) ≡ each f ns a ++ each f (drop (length a) ns) b
each_append f ns [] b = refl
each_append f [] (x ∷ a) b =
    ap (λ (t : List Line). f 0 x ∷ t) (each_append f [] a b ∙ ap (λ (t : List ℕ). each f [] a ++ each f t b) (drop_all (length a) [] (omega arith)))
each_append f (n ∷ ns) (x ∷ a) b = ap (λ (t : List Line). f n x ∷ t) (each_append f ns a b)

lines_of_push : (fs : List Entry) (f : Entry) → lines_of (fs ++ (f ∷ [])) ≡ lines_of fs ++ f.lines
lines_of_push [] f = append-nil f.lines
lines_of_push (g ∷ fs) f = rw (lines_of_push fs f, append_assoc) refl

length_lines_of : (fs : List Entry) → length (lines_of fs) ≡ used_lines fs
length_lines_of [] = refl
length_lines_of (f ∷ fs) = rw (length-append, length_lines_of fs) refl

-- a change at a line behind the first ones
pub set_behind : (F : Line → Line) (a b : List Line) (n t : ℕ) (d : Line) → length a ≡ n →
    set (a ++ b) (n + t) (F (get_or (a ++ b) (n + t) d)) ≡ a ++ set b t (F (get_or b t d))
set_behind F a b n t d e =
    let g : get_or (a ++ b) (n + t) d ≡ get_or b t d = rw (← e) (get_or-append-add a b t d) in
    let i : n + t - n ≡ t = omega arith in
    set-append_right a b n (n + t) _ e (omega arith) ∙ ap₂ (λ (m : ℕ) (x : Line). a ++ set b m (F x)) i g

-- What reading finds

-- at rest the entries are found
pub logged_reads : {owner r : ℕ} {fs : List Entry} {log : List Line} {stage : ℕ} → Logged owner r fs [] stage log →
    entries owner 0 (settled_lines log) ≡ fs
logged_reads {owner} {r} {fs} {log} k =
    let m = writing_rest k.writing in
    ap (λ (t : List Line). entries owner 0 (settled_lines t)) k.is
    ∙ ap (entries owner 0) (map-append _ k.used k.free ∙ ap₂ (λ (a b : List (List ℕ)). a ++ b) k.holds m.1)
    ∙ entries_are owner fs k.olds k.stood k.fresh.closed

-- where the free lines begin
logged_used : {owner r : ℕ} {fs : List Entry} {ws : List (List ℕ)} {stage : ℕ} {log : List Line} (k : Logged owner r fs ws stage log) →
    length k.used ≡ used_lines fs
logged_used {fs} k = sym (length-map k.used _) ∙ ap length k.holds ∙ length_lines_of fs

-- The writing

-- the writing of ws begins, where there is room for it
pub logged_begin : {owner r : ℕ} {fs : List Entry} {stage : ℕ} {log : List Line} → Logged owner r fs [] stage log → (ws : List (List ℕ)) →
    used_lines fs + length ws ≤ length log → Logged owner r fs ws 0 log
logged_begin {owner} {r} {fs} {stage} {log} k ws h =
    let m = writing_rest k.writing in
    let n : length log ≡ length k.used + length k.free = ap length k.is ∙ length-append k.used k.free in
    let c = logged_used k in
    record {
      used = k.used;
      free = k.free;
      olds = k.olds;
      is = k.is;
      quiet = k.quiet;
      holds = k.holds;
      stood = k.stood;
      sized = k.sized;
      fresh = k.fresh;
      writing = subst (λ (os : List (List ℕ)). Writing 0 ws os k.free) m.1 (writing_none ws k.free m.0 (omega arith));
    }

-- stage j of line t
pub logged_step : {owner r : ℕ} {fs : List Entry} {ws : List (List ℕ)} {stage : ℕ} {log : List Line} → Logged owner r fs ws stage log →
    (t j : ℕ) → stage ≡ 10 * t + j → j < 10 → t < length ws → (d : Line) →
    Logged owner r fs ws (suc stage) (set log (used_lines fs + t) (staged (get_or ws t []) j (get_or log (used_lines fs + t) d)))
logged_step {owner} {r} {fs} {ws} {stage} {log} k t j e h l d = record {
  used = k.used;
  free = set k.free t (staged (get_or ws t []) j (get_or k.free t d));
  olds = k.olds;
  is =
      ap (λ (y : List Line). set y (used_lines fs + t) (staged (get_or ws t []) j (get_or y (used_lines fs + t) d))) k.is
      ∙ set_behind (staged (get_or ws t []) j) k.used k.free (used_lines fs) t d (logged_used k);
  quiet = k.quiet;
  holds = k.holds;
  stood = k.stood;
  sized = k.sized;
  fresh = k.fresh;
  writing = writing_step k.writing t j e h l d;
}

-- What leaves the entries as they are

-- a way to treat each line that leaves quiet lines as they are
abbrev KeepsQuiet : (ℕ → Line → Line) → Type 0
KeepsQuiet f = (ns : List ℕ) (xs : List Line) → Quiet xs → Quiet (each f ns xs) × (settled_lines (each f ns xs) ≡ settled_lines xs)

logged_each : {owner r : ℕ} {fs : List Entry} {ws : List (List ℕ)} {stage then : ℕ} {log : List Line} (f : ℕ → Line → Line) → KeepsQuiet f →
    (k : Logged owner r fs ws stage log) (ns : List ℕ) → Writing then ws k.olds (each f (drop (length k.used) ns) k.free) →
    Logged owner r fs ws then (each f ns log)
logged_each f keeps k ns w =
    let u = keeps ns k.used k.quiet in
    record {
      used = each f ns k.used;
      free = each f (drop (length k.used) ns) k.free;
      olds = k.olds;
      is = ap (each f ns) k.is ∙ each_append f ns k.used k.free;
      quiet = u.0;
      holds = u.1 ∙ k.holds;
      stood = k.stood;
      sized = k.sized;
      fresh = k.fresh;
      writing = w;
    }

pub logged_early : {owner r : ℕ} {fs : List Entry} {ws : List (List ℕ)} {stage : ℕ} {log : List Line} → Logged owner r fs ws stage log →
    (ns : List ℕ) → Logged owner r fs ws stage (each settle ns log)
logged_early k ns = logged_each settle quiet_early k ns (writing_early k.writing _)

-- another station's fence
pub logged_fenced : {owner r : ℕ} {fs : List Entry} {ws : List (List ℕ)} {stage : ℕ} {log : List Line} → Logged owner r fs ws stage log →
    (ns : List ℕ) → Logged owner r fs ws stage (each fence_line ns log)
logged_fenced k ns = logged_each fence_line quiet_fence k ns (writing_fenced k.writing _)

-- a cut at rest
pub logged_cut_idle : {owner r : ℕ} {fs : List Entry} {log : List Line} {stage : ℕ} → Logged owner r fs [] stage log → (ns : List ℕ) →
    Logged owner r fs [] 0 (each cut_line ns log)
logged_cut_idle k ns =
    let m = writing_rest k.writing in
    logged_each cut_line (λ ns xs q. (cut_quiet ns xs, quiet_cut ns xs q)) k ns
    (behind (cut_quiet _ k.free) (quiet_cut _ k.free m.0 ∙ m.1))

-- the same for the next run
pub logged_later : {owner r : ℕ} {fs : List Entry} {ws : List (List ℕ)} {stage : ℕ} {log : List Line} → Logged owner r fs ws stage log →
    Logged owner (r + 1) fs ws stage log
logged_later {owner} {r} k = record {
  used = k.used;
  free = k.free;
  olds = k.olds;
  is = k.is;
  quiet = k.quiet;
  holds = k.holds;
  stood = k.stood;
  sized = k.sized;
  fresh = fresh_later owner r k.olds k.fresh;
  writing = k.writing;
}

-- One entry more

-- the entry f stands on the first free lines
one_more : (owner r : ℕ) (fs : List Entry) (f : Entry) (used free : List Line) (rest : List (List ℕ)) → Quiet used → Quiet free →
    settled_lines used ≡ lines_of fs → AllByRecursion (Stood owner) fs → Stood owner f → settled_lines free ≡ f.lines ++ rest → Sized rest →
    Fresh owner r rest → Logged owner r (fs ++ (f ∷ [])) [] 0 (used ++ free)
one_more owner r fs f used free rest quiet-used quiet-free h a s e z fresh =
    let n = length f.lines in
    record {
      used = used ++ take n free;
      free = drop n free;
      olds = rest;
      is = ap (λ (t : List Line). used ++ t) (sym (take-append-drop n free)) ∙ sym (append_assoc used (take n free) (drop n free));
      quiet = All-append _ used (take n free) quiet-used (All-take _ n free quiet-free);
      holds =
          map-append _ used (take n free)
          ∙ ap₂ (λ (a b : List (List ℕ)). a ++ b) h (sym (take-map _ n free) ∙ ap (take n) e ∙ take_at f.lines rest n refl)
          ∙ sym (lines_of_push fs f);
      stood = All-push (Stood owner) fs f a s;
      sized = z;
      fresh = fresh;
      writing = behind (All-drop _ n free quiet-free) (sym (drop-map _ n free) ∙ ap (drop n) e ∙ drop_at f.lines rest n refl);
    }

fresh_rest : (owner r : ℕ) (f : Entry) (ls : List (List ℕ)) → Stood owner f → Fresh owner r ls → Fresh owner r (drop (length f.lines) ls)
fresh_rest owner r f ls s h =
    let n : length f.lines ≡ suc (length s.others) = ap (λ (x : Entry). length x.lines) s.is in
    rw n (fresh_behind owner r (length s.others) ls h)

-- the own fence, with all stages made
pub logged_written : {owner r : ℕ} {fs : List Entry} {f : Entry} {stage : ℕ} {log : List Line} → Logged owner r fs f.lines stage log →
    10 * length f.lines ≤ stage → Target owner r f → (ns : List ℕ) → Logged owner r (fs ++ (f ∷ [])) [] 0 (each fence_line ns log)
logged_written {owner} {r} {fs} {f} {stage} {log} k h w ns =
    let u = quiet_fence ns k.used k.quiet in
    let x = writing_whole k.writing h k.sized w.sized (drop (length k.used) ns) in
    rw (ap (each fence_line ns) k.is ∙ each_append fence_line ns k.used k.free)
    (one_more owner r fs f _ _ (drop (length f.lines) k.olds) u.0 x.0 (u.1 ∙ k.holds) k.stood w.entry x.1
    (All-drop _ (length f.lines) k.olds k.sized) (fresh_rest owner r f k.olds w.entry k.fresh))

-- a cut while the entry f is written: it is lost, or stands
pub logged_cut : {owner r : ℕ} {fs : List Entry} {f : Entry} {stage : ℕ} {log : List Line} → Logged owner r fs f.lines stage log →
    Target owner r f → (ns : List ℕ) →
    Logged owner (r + 1) fs [] 0 (each cut_line ns log) ⊎ Logged owner (r + 1) (fs ++ (f ∷ [])) [] 0 (each cut_line ns log)
logged_cut {owner} {r} {fs} {f} {stage} {log} k w ns = elim (cases_Bool (stands owner ls)) [ inl h ↦ inr (stays h) | inr h ↦ inl (lost h) ]
  where
    us : List Line
    us = each cut_line ns k.used

    xs : List Line
    xs = each cut_line (drop (length k.used) ns) k.free

    ls : List (List ℕ)
    ls = settled_lines xs

    cuts : each cut_line ns log ≡ us ++ xs
    cuts = ap (each cut_line ns) k.is ∙ each_append cut_line ns k.used k.free

    holds : settled_lines us ≡ lines_of fs
    holds = quiet_cut ns k.used k.quiet ∙ k.holds

    mixed : Mixed f.lines k.olds ls
    mixed = writing_cut k.writing k.sized w.sized (drop (length k.used) ns)

    stays : stands owner ls ≡ true → Logged owner (r + 1) (fs ++ (f ∷ [])) [] 0 (each cut_line ns log)
    stays h =
        rw cuts
        (one_more owner (r + 1) fs f us xs (drop (length f.lines) k.olds) (cut_quiet ns k.used) (cut_quiet _ k.free)
        holds k.stood w.entry
        (mixture mixed owner r k.fresh (target_marks owner r f w) (target_length owner r f w) (target_run owner r f w) h)
        (All-drop _ (length f.lines) k.olds k.sized) (fresh_later owner r _ (fresh_rest owner r f k.olds w.entry k.fresh)))

    lost : stands owner ls ≡ false → Logged owner (r + 1) fs [] 0 (each cut_line ns log)
    lost h = record {
      used = us;
      free = xs;
      olds = ls;
      is = cuts;
      quiet = cut_quiet ns k.used;
      holds = holds;
      stood = k.stood;
      sized = writing_sized k.writing k.sized _;
      fresh = mixed_fresh mixed owner r (target_marks owner r f w) (target_numbers owner r f w) k.fresh h;
      writing = behind (cut_quiet _ k.free) refl;
    }

-- A blank log

pub all_same : {X : Type 0} (P : X → Type 0) (n : ℕ) (x : X) → P x → AllByRecursion P (replicate n x)
all_same P zero x h = tt
all_same P (suc n) x h = (h, all_same P n x h)

pub logged_blank : (owner L : ℕ) → Logged owner 1 [] [] 0 (replicate L blank_line)
logged_blank owner L = record {
  used = [];
  free = replicate L blank_line;
  olds = settled_lines (replicate L blank_line);
  is = refl;
  quiet = tt;
  holds = refl;
  stood = tt;
  sized = blank (λ l. length l ≡ 8) refl;
  fresh = record { closed = not_first_closed owner _ not_first; below = blank (MarkBelow 1) (omega arith); tail = All-drop NotFirst 1 _ not_first };
  writing = behind (all_same _ L blank_line refl) refl;
}
  where
    blank : (P : List ℕ → Type 0) → P (replicate 8 0) → AllByRecursion P (settled_lines (replicate L blank_line))
    blank P h = All-map P (λ (x : Line). x.settled) (replicate L blank_line) (all_same _ L blank_line h)

    not_first : AllByRecursion NotFirst (settled_lines (replicate L blank_line))
    not_first = blank NotFirst (inl refl)
