-- A memory at rest, with its history: what a start reads of it.
use Rattle.std.proofs.Common.{◌≡◌, ℕ, suc, ◌+◌, ◌*◌, ◌<◌, ◌≤◌, Bool, true, false, ltb, List, [], ◌∷◌, ◌++◌, length, get_or, replicate, Some, None, Ok, Err, Option, sym, refl, ap, ◌∙◌, subst, ap₂, inl, inr, arith}
use Rattle.std.proofs.lemmas.List.{length-append}
use Rattle.std.proofs.lemmas.Bool.{eq-eqb, le-leb, ltb-true, ltb-false, and_from, cond-true}
use Rattle.memory.specs.Model.{Mem, blank, blank_line, line_at, loaded}
use Rattle.book.specs.declared.types.Op.{Op}
use Rattle.book.specs.Rules.{Rules, is_update}
use Rattle.model.specs.Journal.{station_count, min_log, max_log, max_run, Entry, tops, last_place, logs, log_length}
use Rattle.model.specs.Machine.{no_update, ask, first_of, found, updates_from, right_size, place_questions, start_question}
use Rattle.model.specs.History.{Moment, Came, ledger, updates}
use Rattle.model.specs.History.Moment.{started, risen, called, stepped, told, cut}
use Rattle.model.specs.declared.types.Update.{Update}
use Rattle.model.specs.declared.types.Refusal.{Refusal}
use Rattle.model.specs.declared.types.Refusal.TheVariants.{LineCount, RunNumber}
use Rattle.model.specs.declared.types.Outcome.{Outcome}
use Rattle.model.proofs.Logs.{Part, no_part, stands_of, AllRest}
use Rattle.model.proofs.Memory.{Memory, memory_lines, memory_length, memory_blank, memory_reads}
use Rattle.model.proofs.Finding.{Covers, tops_reach, no_questions}
use Rattle.model.proofs.Cover.{blank_rests, covers_blank}
use Rattle.model.proofs.Number.{Number, number_loaded}
use Rattle.model.proofs.History.{came_cases}
use Rattle.model.proofs.Final.{Numbered}

-- an update of the book, of a run up to n, by a call with a number
pub record Proper {S : Type 0} (R : Rules S) (n : ℕ) (u : Update) : Type 0 where
  pub sort : is_update (R.sort u.op) ≡ true
  pub run : u.run ≤ n
  pub call : 1 ≤ u.call

abbrev pub AllProper : {S : Type 0} → Rules S → ℕ → List Update → Type 0
AllProper R n us = (i : ℕ) → i < length us → Proper R n (get_or us i no_update)

-- Calls and outcomes came in runs up to n

pub record RunsUpTo (n : ℕ) (h : List Moment) : Type 0 where
  pub calls : (s k : ℕ) (o : Op) (e : List Moment) → Came h (called s o (Ok k)) e → (ledger e).run ≤ n
  pub tells : (run s k : ℕ) (a : Outcome) (e : List Moment) → Came h (told run s k (Ok a)) e → (ledger e).run ≤ n

-- a moment that is neither a call nor an outcome with an answer
abbrev pub Silent : Moment → Type 0
Silent (started a) = Unit {0}
Silent (risen a) = Unit {0}
Silent (called s o (Ok n)) = ⊥
Silent (called s o (Err q)) = Unit {0}
Silent (stepped s a b) = Unit {0}
Silent (told run s n (Ok a)) = ⊥
Silent (told run s n (Err q)) = Unit {0}
Silent (cut k) = Unit {0}

-- such a moment adds nothing
pub up_to_silent : (h : List Moment) (n : ℕ) (x : Moment) → Silent x → RunsUpTo n h → RunsUpTo n (x ∷ h)
up_to_silent h n x q b = record {
  calls = λ s k o e c. elim (came_cases x (called s o (Ok k)) h e c) [ inl w ↦ absurd (subst Silent w.0 q) | inr w ↦ b.calls s k o e w ];
  tells = λ run s k a e c. elim (came_cases x (told run s k (Ok a)) h e c) [ inl w ↦ absurd (subst Silent w.0 q) | inr w ↦ b.tells run s k a e w ];
}

-- any moment in a run up to n
pub up_to_any : (h : List Moment) (n : ℕ) (x : Moment) → (ledger h).run ≤ n → RunsUpTo n h → RunsUpTo n (x ∷ h)
up_to_any h n x q b = record {
  calls = λ s k o e c. elim (came_cases x (called s o (Ok k)) h e c) [
    | inl w ↦ subst (λ (e : List Moment). (ledger e).run ≤ n) w.1 q
    | inr w ↦ b.calls s k o e w
  ];
  tells = λ run s k a e c. elim (came_cases x (told run s k (Ok a)) h e c) [
    | inl w ↦ subst (λ (e : List Moment). (ledger e).run ≤ n) w.1 q
    | inr w ↦ b.tells run s k a e w
  ];
}

pub up_to_more : (h : List Moment) (n k : ℕ) → n ≤ k → RunsUpTo n h → RunsUpTo k h
up_to_more h n k l b = record {
  calls = λ s i o e c. (let x = b.calls s i o e c in omega arith);
  tells = λ run s i a e c. (let x = b.tells run s i a e c in omega arith);
}

-- At rest

-- line 0 holds `number`, and the logs ps of L lines tell the updates of the history
pub record Rest {S : Type 0} (R : Rules S) (h : List Moment) (m : Mem) : Type 0 where
  pub number : ℕ
  pub L : ℕ
  pub ps : List Part
  pub low : min_log ≤ L
  pub high : L ≤ max_log
  pub memory : Memory (number + 1) L ps m
  pub rests : AllRest ps
  pub head : Number number (line_at m 0)
  pub covers : Covers (updates h) ps
  pub proper : AllProper R number (updates h)
  pub up_to : RunsUpTo number h
  pub under : number ≤ (ledger h).run
  pub few : (ledger h).run ≤ max_run

-- the next run has a number that was not used
pub rest_numbered : {S : Type 0} (R : Rules S) (h : List Moment) (m : Mem) → Rest R h m → Numbered h m
rest_numbered R h m z =
    let e = sym (number_loaded z.number m z.head) in
    record {
      calls_below = λ s n o f c. subst (λ (k : ℕ). (ledger f).run ≤ k) e (z.up_to.calls s n o f c);
      updates_below = λ i l. subst (λ (k : ℕ). (get_or (updates h) i no_update).run ≤ k) e (z.proper i l).run;
      tells_below = λ run s n a f c. subst (λ (k : ℕ). (ledger f).run ≤ k) e (z.up_to.tells run s n a f c);
    }

-- A start asks for nothing but a run number

rest_places : {S : Type 0} (R : Rules S) (h : List Moment) (m : Mem) → Rest R h m → place_questions R (logs m) 1 (last_place m) ≡ None
rest_places R h m z =
    let G = stands_of z.ps in
    subst (λ (fss : List (List Entry)). place_questions R fss 1 (tops 0 fss) ≡ None) (sym (memory_reads z.memory z.rests))
    (no_questions R (updates h) (λ i l. (z.proper i l).sort) G z.covers.agree (tops 0 G) 0
    (λ i low high. tops_reach G G 0 z.covers.reach (λ i low high. absurd (omega arith)) i low (omega arith)))

rest_size : {S : Type 0} (R : Rules S) (h : List Moment) (m : Mem) → Rest R h m → right_size m ≡ true
rest_size R h m z =
    let e = memory_length z.memory in let k = memory_lines z.memory in let low = z.low in let high = z.high in
    let within = and_from _ _ (le-leb min_log (log_length m) (omega arith)) (le-leb (log_length m) max_log (omega arith)) in
    and_from _ _ within (eq-eqb (length m.lines) (1 + station_count * log_length m) (omega arith))

-- the only question left
rest_question : {S : Type 0} (R : Rules S) (h : List Moment) (m : Mem) → Rest R h m → start_question R m ≡ ask (ltb (loaded m 0 0) max_run) RunNumber
rest_question R h m z =
    ap₂ (λ (a b : Option Refusal). first_of a (first_of (ask (ltb (loaded m 0 0) max_run) RunNumber) b))
    (cond-true (right_size m) None (Some LineCount) (rest_size R h m z)) (rest_places R h m z)
    ∙ last (ltb (loaded m 0 0) max_run)
  where
    last : (b : Bool) → first_of (ask b RunNumber) None ≡ ask b RunNumber
    last true = refl
    last false = refl

asked_none : (b : Bool) (q : Refusal) → ask b q ≡ None → b ≡ true
asked_none true q e = refl
asked_none false q e = let y : ◌≡◌ {A = ℕ} 0 1 = cc in absurd (omega arith)

asked_some : (b : Bool) (p q : Refusal) → ask b p ≡ Some q → (b ≡ false) × (q ≡ p)
asked_some true p q e = let y : ◌≡◌ {A = ℕ} 0 1 = cc in absurd (omega arith)
asked_some false p q e = (refl, (cc))

-- and else there is one
pub rest_accepted : {S : Type 0} (R : Rules S) (h : List Moment) (m : Mem) → Rest R h m → start_question R m ≡ None → loaded m 0 0 < max_run
rest_accepted R h m z f = ltb-true (loaded m 0 0) max_run (asked_none _ RunNumber (sym (rest_question R h m z) ∙ f))

-- a start is refused only for want of a run number
pub rest_refusals : {S : Type 0} (R : Rules S) (h : List Moment) (m : Mem) (q : Refusal) → Rest R h m → start_question R m ≡ Some q →
    (q ≡ RunNumber) × ((ledger h).run ≡ max_run)
rest_refusals R h m q z f =
    let a = asked_some (ltb (loaded m 0 0) max_run) RunNumber q (sym (rest_question R h m z) ∙ f) in
    let k = ltb-false (loaded m 0 0) max_run a.0 in
    let e = number_loaded z.number m z.head in let under = z.under in let few = z.few in
    (a.1, omega arith)

-- The blank memory

-- a blank memory is at rest, with no updates
pub blank_rest : {S : Type 0} (R : Rules S) (L : ℕ) → min_log ≤ L → L ≤ max_log →
    Rest R [] (blank (1 + station_count * L)) × (found (blank (1 + station_count * L)) ≡ [])
blank_rest R L low high = (
  record {
    number = 0;
    L = L;
    ps = replicate station_count no_part;
    low = low;
    high = high;
    memory = memory_blank L;
    rests = rests;
    head = subst (Number 0) (sym first) (record { quiet = refl; is = refl; some = omega arith });
    covers = covers_blank [] station_count;
    proper = λ i l. absurd (omega arith);
    up_to = record { calls = λ s k o e c. absurd (never c.0 _ _ c.1); tells = λ run s k a e c. absurd (never c.0 _ _ c.1) };
    under = omega arith;
    few = omega arith;
  },
  ap (λ (fss : List (List Entry)). updates_from fss 1 (tops 0 fss)) (memory_reads (memory_blank L) rests),
)
  where
    rests : AllRest (replicate station_count no_part)
    rests = blank_rests station_count

    first : line_at (blank (1 + station_count * L)) 0 ≡ blank_line
    first = let e : 1 + 8 * L ≡ suc (8 * L) = omega arith in ap (λ (k : ℕ). get_or (replicate k blank_line) 0 blank_line) e

    never : (l : List Moment) (y : Moment) (e : List Moment) → [] ≡ l ++ (y ∷ e) → ⊥
    never l y e q = let k = ap length q in let n = length-append l (y ∷ e) in omega arith
