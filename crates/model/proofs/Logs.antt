-- Logs one behind the other: what is done to their lines, and what reading finds.
use Rattle.std.proofs.Common.{◌≡◌, ℕ, zero, suc, ◌+◌, ◌*◌, ◌<◌, ◌≤◌, List, [], ◌∷◌, ◌++◌, map, length, get_or, take, drop, set, replicate, Some, None, Option, sym, refl, ap, ◌∙◌, subst, ap₂, inl, inr, arith}
use Rattle.std.specs.List.{AllByRecursion}
use Rattle.std.proofs.ByRecursion.{All-append}
use Rattle.std.proofs.lemmas.List.{length-append, length-replicate, replicate-append-replicate, take_at, drop_at, drop-drop, length-map, set-append_left, get_or_append_left, length-set, map-append}
use Rattle.memory.specs.Model.{Mem, Line, blank_line, each, settle, cut_line, fence_line, words_of}
use Rattle.memory.proofs.Each.{length_each}
use Rattle.model.specs.Journal.{station_count, Entry, entries, used_lines, logs, log_length, log_start}
use Rattle.model.proofs.Reading.{Target}
use Rattle.model.proofs.Lines.{settled_lines, Quiet, writing_rest}
use Rattle.model.proofs.Log.{Logged, logged_reads, logged_begin, logged_written, logged_cut, logged_cut_idle, logged_later, logged_early, logged_fenced, logged_blank, each_append, set_behind}

-- a log: the entries that stand, the one that is being written, and its stage
pub record Part : Type 0 where
  pub standing : List Entry
  pub begun : Option Entry
  pub stage : ℕ

abbrev pub at_rest : List Entry → Part
at_rest fs = record { standing = fs; begun = None; stage = 0 }

abbrev pub no_part : Part
no_part = at_rest []

-- the writing of f begins
abbrev pub beginning : Part → Entry → Part
beginning p f = record { standing = p.standing; begun = Some f; stage = 0 }

abbrev pub at_stage : Part → ℕ → Part
at_stage p n = record { standing = p.standing; begun = p.begun; stage = n }

-- the entry f is written
abbrev pub with_entry : Part → Entry → Part
with_entry p f = at_rest (p.standing ++ (f ∷ []))

-- the lines that are wanted
abbrev pub begun_lines : Option Entry → List (List ℕ)
begun_lines None = []
begun_lines (Some f) = f.lines

-- the entry that is being written is one that can be read
abbrev Begun : ℕ → ℕ → Option Entry → Type 0
Begun owner r None = Unit
Begun owner r (Some f) = Target owner r f

-- the lines of a log are as the part says
pub record Holds (owner r : ℕ) (p : Part) (log : List Line) : Type 0 where
  pub logged : Logged owner r p.standing (begun_lines p.begun) p.stage log
  pub target : Begun owner r p.begun

-- the logs of the stations owner, owner + 1, .., of L lines each
pub data Parts (r L : ℕ) : ℕ → List Part → List Line → Type 0 where
  none : {owner : ℕ} → Parts r L owner [] []
  more : {owner : ℕ} {p : Part} {ps : List Part} {xs : List Line} (log rest : List Line) → Holds owner r p log → length log ≡ L →
      xs ≡ log ++ rest → Parts r L (suc owner) ps rest → Parts r L owner (p ∷ ps) xs

-- the entries that stand, log by log
abbrev pub stands_of : List Part → List (List Entry)
stands_of [] = []
stands_of (p ∷ ps) = p.standing ∷ stands_of ps

-- nothing is being written
abbrev pub AllRest : List Part → Type 0
AllRest = AllByRecursion (λ p. p.begun ≡ None)

pub parts_length : {r L owner : ℕ} {ps : List Part} {xs : List Line} → Parts r L owner ps xs → length xs ≡ length ps * L
parts_length {L} none = omega arith
parts_length {r} {L} (more log rest x l e others) =
    let n = parts_length others in let k = length-append log rest in let j = ap length e in omega arith

rest_logged : {owner r : ℕ} {p : Part} {log : List Line} → Holds owner r p log → p.begun ≡ None → Logged owner r p.standing [] p.stage log
rest_logged {owner} {r} {p} {log} k e = subst (λ (d : Option Entry). Logged owner r p.standing (begun_lines d) p.stage log) e k.logged

-- blank logs
pub parts_blank : (L n owner : ℕ) → Parts 1 L owner (replicate n no_part) (replicate (n * L) blank_line)
parts_blank L zero owner = let e : 0 ≡ 0 * L = omega arith in subst (λ (k : ℕ). Parts 1 L owner [] (replicate k blank_line)) e none
parts_blank L (suc n) owner =
    let e : suc n * L ≡ L + n * L = omega arith in
    more (replicate L blank_line) (replicate (n * L) blank_line) (record { logged = logged_blank owner L; target = tt })
    (length-replicate L blank_line)
    (ap (λ (k : ℕ). replicate k blank_line) e ∙ sym (replicate-append-replicate L (n * L) blank_line)) (parts_blank L n (suc owner))

-- What is done to all lines

-- the first log, and those behind it
parts_next : {r L owner : ℕ} {q : Part} {qs : List Part} {xs : List Line} (f : ℕ → Line → Line) (ns : List ℕ) (log rest : List Line) →
    length log ≡ L → xs ≡ log ++ rest → Holds owner r q (each f ns log) → Parts r L (suc owner) qs (each f (drop (length log) ns) rest) →
    Parts r L owner (q ∷ qs) (each f ns xs)
parts_next f ns log rest l e k others =
    more (each f ns log) (each f (drop (length log) ns) rest) k (length_each f ns log ∙ l) (ap (each f ns) e ∙ each_append f ns log rest) others

pub parts_early : {r L owner : ℕ} {ps : List Part} {xs : List Line} → Parts r L owner ps xs → (ns : List ℕ) → Parts r L owner ps (each settle ns xs)
parts_early none ns = none
parts_early (more log rest k l e others) ns =
    parts_next settle ns log rest l e (record { logged = logged_early k.logged ns; target = k.target }) (parts_early others _)

pub parts_fenced : {r L owner : ℕ} {ps : List Part} {xs : List Line} → Parts r L owner ps xs → (ns : List ℕ) →
    Parts r L owner ps (each fence_line ns xs)
parts_fenced none ns = none
parts_fenced (more log rest k l e others) ns =
    parts_next fence_line ns log rest l e (record { logged = logged_fenced k.logged ns; target = k.target }) (parts_fenced others _)

-- what a cut makes of a log: the entry that was being written is lost, or stands
pub data After (p : Part) : Part → Type 0 where
  same : After p (at_rest p.standing)
  grown : (f : Entry) → p.begun ≡ Some f → After p (with_entry p f)

-- the same for all logs
pub data Afters : List Part → List Part → Type 0 where
  none : Afters [] []
  more : {p q : Part} {ps qs : List Part} → After p q → Afters ps qs → Afters (p ∷ ps) (q ∷ qs)

pub afters_rest : {ps qs : List Part} → Afters ps qs → AllRest qs
afters_rest none = tt
afters_rest (more same bs) = (refl, afters_rest bs)
afters_rest (more (grown f e) bs) = (refl, afters_rest bs)

pub afters_length : {ps qs : List Part} → Afters ps qs → length qs ≡ length ps
afters_length none = refl
afters_length (more a bs) = ap suc (afters_length bs)

holds_cut : (owner r : ℕ) (p : Part) (log : List Line) → Holds owner r p log → (ns : List ℕ) →
    (q : Part) × After p q × Holds owner (r + 1) q (each cut_line ns log)
holds_cut owner r p log h ns = by p.begun refl
  where
    by : (d : Option Entry) → p.begun ≡ d → (q : Part) × After p q × Holds owner (r + 1) q (each cut_line ns log)
    by None e = (at_rest p.standing, same, record { logged = logged_later (logged_cut_idle (rest_logged h e) ns); target = tt })
    by (Some f) e =
        let k = subst (λ (d : Option Entry). Logged owner r p.standing (begun_lines d) p.stage log) e h.logged in
        elim (logged_cut k (subst (λ (d : Option Entry). Begun owner r d) e h.target) ns) [
          | inl lost ↦ (at_rest p.standing, same, record { logged = lost; target = tt })
          | inr stays ↦ (with_entry p f, grown f e, record { logged = stays; target = tt })
        ]

-- a cut goes through all logs
pub parts_cut : {r L owner : ℕ} {ps : List Part} {xs : List Line} → Parts r L owner ps xs → (ns : List ℕ) →
    (qs : List Part) × Afters ps qs × Parts (r + 1) L owner qs (each cut_line ns xs)
parts_cut none ns = ([], none, none)
parts_cut (more {owner} {p} log rest k l e others) ns =
    let h = holds_cut owner _ p log k ns in
    let t = parts_cut others (drop (length log) ns) in
    (h.0 ∷ t.0, more h.1 t.1, parts_next cut_line ns log rest l e h.2 t.2)

-- At rest

-- the same entries, and nothing begun
abbrev pub rested : List Part → List Part
rested [] = []
rested (p ∷ ps) = at_rest p.standing ∷ rested ps

pub rested_stands : (ps : List Part) → stands_of (rested ps) ≡ stands_of ps
rested_stands [] = refl
rested_stands (p ∷ ps) = ap (λ (fss : List (List Entry)). p.standing ∷ fss) (rested_stands ps)

pub rested_rest : (ps : List Part) → AllRest (rested ps)
rested_rest [] = tt
rested_rest (p ∷ ps) = (refl, rested_rest ps)

pub rested_length : (ps : List Part) → length (rested ps) ≡ length ps
rested_length [] = refl
rested_length (p ∷ ps) = ap suc (rested_length ps)

-- a cut leaves all entries, and no mark of a later run
pub parts_idle : {r L owner : ℕ} {ps : List Part} {xs : List Line} → Parts r L owner ps xs → AllRest ps → (ns : List ℕ) →
    Parts r L owner (rested ps) (each cut_line ns xs)
parts_idle none a ns = none
parts_idle (more log rest k l e others) a ns =
    parts_next cut_line ns log rest l e (record { logged = logged_cut_idle (rest_logged k a.0) ns; target = tt }) (parts_idle others a.1 _)

-- the same for the next run
pub parts_later : {r L owner : ℕ} {ps : List Part} {xs : List Line} → Parts r L owner ps xs → AllRest ps → Parts (r + 1) L owner ps xs
parts_later none a = none
parts_later {r} (more {owner} log rest k l e others) a =
    more log rest (record { logged = logged_later k.logged; target = subst (λ (d : Option Entry). Begun owner (r + 1) d) (sym a.0) tt }) l e
    (parts_later others a.1)

pub parts_quiet : {r L owner : ℕ} {ps : List Part} {xs : List Line} → Parts r L owner ps xs → AllRest ps → Quiet xs
parts_quiet none a = tt
parts_quiet (more log rest k l e others) a =
    let i = rest_logged k a.0 in
    let here : Quiet log = subst Quiet (sym i.is) (All-append _ i.used i.free i.quiet (writing_rest i.writing).0) in
    subst Quiet (sym e) (All-append _ log rest here (parts_quiet others a.1))

-- What station s does to its own log

-- what holds of station s holds of the first log's owner
at_owner : (s owner : ℕ) → s ≡ owner + 0 → (P Q : ℕ → Type 0) → (P s → Q s) → P owner → Q owner
at_owner s owner e P Q g x = let o : s ≡ owner = omega arith in subst Q o (g (subst P (sym o) x))

-- it changes one line
pub parts_change : {r L owner : ℕ} {ps : List Part} {xs : List Line} → Parts r L owner ps xs → (s i k : ℕ) (d : Line) (F : Line → Line) (q : Part) →
    s ≡ owner + i → i < length ps → k < L →
    ((log : List Line) → length log ≡ L → Holds s r (get_or ps i no_part) log → Holds s r q (set log k (F (get_or log k d)))) →
    Parts r L owner (set ps i q) (set xs (i * L + k) (F (get_or xs (i * L + k) d)))
parts_change none s i k d F q o h hk g = absurd (omega arith)
parts_change {r} {L} (more {owner} {p} {ps} {xs} log rest x l e others) s zero k d F q o h hk g =
    let i : 0 * L + k ≡ k = omega arith in
    let new = set log k (F (get_or log k d)) in
    more new rest (at_owner s owner o (λ w. Holds w r p log) (λ w. Holds w r q new) (g log l) x) (length-set log k _ ∙ l)
    (ap₂ (λ (j : ℕ) (ys : List Line). set ys j (F (get_or ys j d))) i e
    ∙ ap (λ (y : Line). set (log ++ rest) k (F y)) (get_or_append_left log rest d k (omega arith)) ∙ set-append_left log rest k _ (omega arith))
    others
parts_change {r} {L} (more {owner} {p} {ps} {xs} log rest x l e others) s (suc i) k d F q o h hk g =
    let n : suc i * L + k ≡ L + (i * L + k) = omega arith in
    more log (set rest (i * L + k) (F (get_or rest (i * L + k) d))) x l
    (ap₂ (λ (j : ℕ) (ys : List Line). set ys j (F (get_or ys j d))) n e ∙ set_behind F log rest L (i * L + k) d l)
    (parts_change others s i k d F q (omega arith) (omega arith) hk g)

-- it begins an entry
pub parts_begin : {r L owner : ℕ} {ps : List Part} {xs : List Line} → Parts r L owner ps xs → (s i : ℕ) (f : Entry) → s ≡ owner + i →
    (get_or ps i no_part).begun ≡ None → Target s r f → used_lines (get_or ps i no_part).standing + length f.lines ≤ L →
    Parts r L owner (set ps i (beginning (get_or ps i no_part) f)) xs
parts_begin none s i f o b w fit = none
parts_begin {r} (more {owner} {p} log rest x l e others) s zero f o b w fit =
    let here : Target owner r f → Holds owner r (beginning p f) log =
    λ w. record { logged = logged_begin (rest_logged x b) f.lines (omega arith); target = w } in
    more log rest (here (subst (λ (i : ℕ). Target i r f) (omega arith) w)) l e others
parts_begin (more log rest x l e others) s (suc i) f o b w fit = more log rest x l e (parts_begin others s i f (omega arith) b w fit)

-- it fences, with all stages made
pub parts_written : {r L owner : ℕ} {ps : List Part} {xs : List Line} → Parts r L owner ps xs → (i : ℕ) (f : Entry) →
    (get_or ps i no_part).begun ≡ Some f → 10 * length f.lines ≤ (get_or ps i no_part).stage → (ns : List ℕ) →
    Parts r L owner (set ps i (with_entry (get_or ps i no_part) f)) (each fence_line ns xs)
parts_written none i f b h ns = none
parts_written {r} (more {owner} {p} log rest x l e others) zero f b h ns =
    let k = subst (λ (d : Option Entry). Logged owner r p.standing (begun_lines d) p.stage log) b x.logged in
    parts_next fence_line ns log rest l e
    (record { logged = logged_written k h (subst (λ (d : Option Entry). Begun owner r d) b x.target) ns; target = tt }) (parts_fenced others _)
parts_written (more log rest x l e others) (suc i) f b h ns =
    parts_next fence_line ns log rest l e (record { logged = logged_fenced x.logged ns; target = x.target }) (parts_written others i f b h _)

-- Reading

-- n logs are read, one behind the other
abbrev pub reading : ℕ → ℕ → ℕ → List (List ℕ) → List (List Entry)
reading L owner zero ls = []
reading L owner (suc n) ls = entries owner 0 (take L ls) ∷ reading L (suc owner) n (drop L ls)

-- at rest the entries that stand are found
pub parts_read : {r L owner : ℕ} {ps : List Part} {xs : List Line} → Parts r L owner ps xs → AllRest ps →
    reading L owner (length ps) (settled_lines xs) ≡ stands_of ps
parts_read none a = refl
parts_read {r} {L} (more {owner} {p} {ps} {xs} log rest k l e others) a =
    let s : settled_lines xs ≡ settled_lines log ++ settled_lines rest = ap settled_lines e ∙ map-append _ log rest in
    let n : length (settled_lines log) ≡ L = length-map log _ ∙ l in
    ap₂ (λ (x : List (List ℕ)) (y : List (List ℕ)). entries owner 0 x ∷ reading L (suc owner) (length ps) y)
    (ap (take L) s ∙ take_at (settled_lines log) _ L n) (ap (drop L) s ∙ drop_at (settled_lines log) _ L n)
    ∙ ap₂ (λ (x : List Entry) (y : List (List Entry)). x ∷ y) (logged_reads (rest_logged k a.0)) (parts_read others a.1)

abbrev range : ℕ → ℕ → List ℕ
range k zero = []
range k (suc n) = k ∷ range (suc k) n

logs_from : (W : List (List ℕ)) (L k n : ℕ) →
    map (λ (s : ℕ). entries s 0 (take L (drop (log_start L s) W))) (range (suc k) n) ≡ reading L (suc k) n (drop (1 + k * L) W)
logs_from W L k zero = refl
logs_from W L k (suc n) =
    let d : 1 + k * L + L ≡ 1 + suc k * L = omega arith in
    let here = entries (suc k) 0 (take L (drop (1 + k * L) W)) in
    ap (λ (fss : List (List Entry)). here ∷ fss) (logs_from W L (suc k) n)
    ∙ ap (λ (ls : List (List ℕ)). here ∷ reading L (suc (suc k)) n ls) (sym (drop-drop L (1 + k * L) W ∙ ap (λ (i : ℕ). drop i W) d))

-- reading a memory reads its eight logs behind line 0
pub logs_are : (m : Mem) → logs m ≡ reading (log_length m) 1 station_count (drop 1 (map words_of m.lines))
logs_are m =
    let L = log_length m in
    let z : 1 + 0 * L ≡ 1 = omega arith in
    logs_from (map words_of m.lines) L 0 8 ∙ ap (λ (i : ℕ). reading L 1 8 (drop i (map words_of m.lines))) z
