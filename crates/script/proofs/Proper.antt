-- Whatever is read has its numbers in the ranges that scripts allow.
use Rattle.std.proofs.Common.{◌≡◌, ℕ, zero, suc, ◌+◌, ◌^◌, ◌<◌, ◌≤◌, Bool, true, false, cond, ◌&&◌, leb, List, [], ◌∷◌, ◌++◌, length, Ok, Err, codes, Result, sym, ◌∙◌, subst, IfOk, arith, length-append}
use Rattle.std.proofs.ByRecursion.{All-push}
use Rattle.std.proofs.lemmas.Bool.{cond_both, and_parts, leb-true}
use Rattle.std.specs.List.{AllByRecursion}
use Rattle.std.specs.Str.{bytes_eq}
use Rattle.tokens.specs.declared.types.Fault.{Fault}
use Rattle.tokens.specs.Tokens.{Shape, opening, closing, word, number, odd, Placed, plain, value, tokens_of, unreadable}
use Rattle.forms.specs.declared.types.Form.{Form}
use Rattle.forms.specs.Spoken.{Spoken, memory, object, start, rise, call, steps, outcome, cut, spoken_by, Proper, ProperRequest, ProperPair}
use Rattle.script.specs.Grammar.{table, read_by, said}
use Rattle.script.specs.Reading as by
use Rattle.script.specs.Reading.{Step, then, next_token, if_number, if_pair, number_within, any_number, open_bracket, close_bracket, some_word, closed, pair, cut_form, form_by, some_form, alone, finished}
use Rattle.script.proofs.Cutting.{cut_turn}
use Rattle.script.proofs.Whole.{form_reads}

abbrev Holds : {X : Type 0} → (X → Type 0) → Step X → Type 0
Holds P s = IfOk s (λ p. P p.0)

next : {X Y : Type 0} (P : X → Type 0) (Q : Y → Type 0) (s : Step X) (k : X → List Placed → Step Y) → Holds P s → ((x : X) (ts : List Placed) → P x → Holds Q (k x ts)) → Holds Q (then s k)
next P Q (Ok p) k h g = g p.0 p.1 h
next P Q (Err f) k h g = tt

-- the same behind a step of which nothing matters
behind : {X Y : Type 0} (Q : Y → Type 0) (s : Step X) (k : X → List Placed → Step Y) → ((x : X) (ts : List Placed) → Holds Q (k x ts)) → Holds Q (then s k)
behind Q (Ok p) k g = g p.0 p.1
behind Q (Err f) k g = tt

either : {X : Type 0} (P : X → Type 0) (t : Bool) (a b : Step X) → Holds P a → Holds P b → Holds P (cond t a b)
either P true a b h g = h
either P false a b h g = g

module _ (len : ℕ) where
  ends : {X : Type 0} (P : X → Type 0) (x : X) (ts : List Placed) → P x → Holds P (closed x len ts)
  ends P x ts h = behind P (close_bracket len ts) (λ _ ts. Ok (x, ts)) (λ _ ts. h)

  module _ (low high : ℕ) where
    abbrev Within : ℕ → Type 0
    Within n = (low ≤ n) × (n ≤ high)

    within_at : (s : Shape) (col : ℕ) (ts : List Placed) → Holds Within (if_number low high s col ts)
    within_at opening col ts = tt
    within_at closing col ts = tt
    within_at (word w) col ts = tt
    within_at (number ds) col ts =
        cond_both (plain ds && (leb low (value ds) && leb (value ds) high)) (Ok (value ds, ts)) (Err (unreadable col)) (λ (s : Step ℕ). Holds Within s)
        (λ t. let parts = and_parts (leb low (value ds)) (leb (value ds) high) (and_parts (plain ds) _ t).1 in (leb-true low (value ds) parts.0, leb-true (value ds) high parts.1))
        (λ _. tt)
    within_at odd col ts = tt

    -- a step that begins with a number
    counted : {Y : Type 0} (Q : Y → Type 0) (ts : List Placed) (k : ℕ → List Placed → Step Y) → ((n : ℕ) (ts : List Placed) → low ≤ n → n ≤ high → Holds Q (k n ts)) → Holds Q (then (number_within low high len ts) k)
    counted Q ts k g =
        next Within Q (number_within low high len ts) k (behind Within (next_token len ts) (λ t ts. if_number low high t.shape t.column ts) (λ t ts. within_at t.shape t.column ts)) (λ n ts h. g n ts h.0 h.1)

  reserved : (ts : List Placed) → Holds ProperRequest (by.reserve_request len ts)
  reserved ts = counted 0 4294967295 ProperRequest ts _ (λ s ts _ hs. counted 0 4294967295 ProperRequest ts _ (λ b ts _ hb. (omega arith, omega arith)))

  asked : (w : List ℕ) (col : ℕ) (ts : List Placed) → Holds ProperRequest (by.request_by w col len ts)
  asked w col ts =
      either ProperRequest (bytes_eq w (codes "add")) _ _ (counted 0 18446744073709551615 ProperRequest ts _ (λ n ts _ h. let below : n < 2 ^ 64 = omega arith in below))
      (either ProperRequest (bytes_eq w (codes "read")) _ _ tt
      (either ProperRequest (bytes_eq w (codes "reserve")) _ _ (reserved ts)
      (either ProperRequest (bytes_eq w (codes "cancel")) _ _ (counted 0 18446744073709551615 ProperRequest ts _ (λ n ts _ h. let below : n < 2 ^ 64 = omega arith in below))
      (either ProperRequest (bytes_eq w (codes "holder")) _ _ (counted 0 18446744073709551615 ProperRequest ts _ (λ n ts _ h. let below : n < 2 ^ 64 = omega arith in below)) tt))))

  request_proper : (ts : List Placed) → Holds ProperRequest (by.request len ts)
  request_proper ts =
      behind ProperRequest (open_bracket len ts) _ (λ _ ts. behind ProperRequest (some_word len ts) _ (λ w ts.
      next ProperRequest ProperRequest (by.request_by w.0 w.1 len ts) _ (asked w.0 w.1 ts) (λ q ts h. ends ProperRequest q ts h)))

  call_proper : (ts : List Placed) → Holds Proper (by.call_form len ts)
  call_proper ts =
      counted 0 18446744073709551615 Proper ts _ (λ s ts _ h.
      next ProperRequest Proper (by.request len ts) _ (request_proper ts) (λ q ts p. ends Proper (call s q) ts (omega arith, p)))

  pair_proper : (ts : List Placed) → Holds ProperPair (pair len ts)
  pair_proper ts = counted 0 128 ProperPair ts _ (λ l ts _ hl. counted 0 255 ProperPair ts _ (λ k ts _ hk. ends ProperPair (l, k) ts (hl, hk)))

  pair_at : (s : Shape) (col : ℕ) (ps : List (ℕ × ℕ)) (ts : List Placed) (more : Step Spoken) → Proper (cut ps) → Holds Proper more → Holds Proper (if_pair s col ps ts more)
  pair_at opening col ps ts more h g = g
  pair_at closing col ps ts more h g = h
  pair_at (word w) col ps ts more h g = tt
  pair_at (number ds) col ps ts more h g = tt
  pair_at odd col ps ts more h g = tt

  -- with the pairs read so far, and room for m more
  cut_proper : (m : ℕ) (ps : List (ℕ × ℕ)) (ts : List Placed) → length ps + m ≤ 16 → AllByRecursion ProperPair ps → Holds Proper (cut_form m ps len ts)
  cut_proper zero ps ts few h =
      subst (Holds Proper) (sym (cut_turn zero ps len ts))
      (behind Proper (next_token len ts) _ (λ t ts. pair_at t.shape t.column ps ts _ (omega arith, h) tt))
  cut_proper (suc m) ps ts few h =
      subst (Holds Proper) (sym (cut_turn (suc m) ps len ts))
      (behind Proper (next_token len ts) _ (λ t ts. pair_at t.shape t.column ps ts _ (omega arith, h)
      (next ProperPair Proper (pair len ts) _ (pair_proper ts) (λ p ts q. cut_proper m (ps ++ p ∷ []) ts (simp length-append (omega arith)) (All-push ProperPair ps p h q)))))

  form_proper : (w : List ℕ) (col : ℕ) (ts : List Placed) → Holds Proper (form_by w col len ts)
  form_proper w col ts =
      either Proper (bytes_eq w (codes "memory")) _ _ (behind Proper (by.kind_word len ts) _ (λ k ts. counted 8 16 Proper ts _ (λ n ts low high. ends Proper (memory k n) ts (low, high))))
      (either Proper (bytes_eq w (codes "object")) _ _ (behind Proper (by.book_word len ts) _ (λ b ts. ends Proper (object b) ts tt))
      (either Proper (bytes_eq w (codes "start")) _ _ (ends Proper start ts tt)
      (either Proper (bytes_eq w (codes "rise")) _ _ (ends Proper rise ts tt)
      (either Proper (bytes_eq w (codes "call")) _ _ (call_proper ts)
      (either Proper (bytes_eq w (codes "steps")) _ _ (counted 0 18446744073709551615 Proper ts _ (λ s ts _ hs. counted 1 18446744073709551615 Proper ts _ (λ c ts low hc. ends Proper (steps s c) ts (omega arith, low, omega arith))))
      (either Proper (bytes_eq w (codes "outcome")) _ _
      (counted 0 18446744073709551615 Proper ts _ (λ r ts _ hr. counted 0 18446744073709551615 Proper ts _ (λ s ts _ hs. counted 0 18446744073709551615 Proper ts _ (λ n ts _ hn.
      ends Proper (outcome r s n) ts (omega arith, omega arith, omega arith)))))
      (either Proper (bytes_eq w (codes "cut")) _ _ (cut_proper 16 [] ts (omega arith) tt) tt)))))))

  some_proper : (ts : List Placed) → Holds Proper (some_form len ts)
  some_proper ts = behind Proper (open_bracket len ts) _ (λ _ ts. behind Proper (some_word len ts) _ (λ w ts. form_proper w.0 w.1 ts))

alone_proper : (m : Spoken) (ts : List Placed) → Proper m → IfOk (alone m ts) Proper
alone_proper m [] h = h
alone_proper m (t ∷ ts) h = tt

finished_proper : (s : Step Spoken) → Holds Proper s → IfOk (finished s) Proper
finished_proper (Ok p) h = alone_proper p.0 p.1 h
finished_proper (Err f) h = tt

said_proper : (r : Result Form Fault) → IfOk (said r) Proper → IfOk r (λ f. Proper (spoken_by f))
said_proper (Ok f) h = h
said_proper (Err f) h = tt

pub proper : (r : Result Form Fault) (line : List ℕ) → said r ≡ read_by table [] (length line) (tokens_of line) → IfOk r (λ f. Proper (spoken_by f))
proper r line e =
    said_proper r (subst (λ (s : Result Spoken Fault). IfOk s Proper) (form_reads (length line) (tokens_of line) ∙ sym e) (finished_proper (some_form (length line) (tokens_of line)) (some_proper (length line) (tokens_of line))))
