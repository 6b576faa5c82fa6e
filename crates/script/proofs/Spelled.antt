-- The plain spelling of a form is read as that form.
use Rattle.std.proofs.Common.{◌≡◌, ℕ, zero, suc, ◌+◌, ◌*◌, ◌^◌, ◌<◌, ◌≤◌, false, List, [], ◌∷◌, ◌++◌, length, Ok, codes, decimal, Result, sym, refl, ap, ◌∙◌, arith, length-append}
use Rattle.std.proofs.lemmas.Fmt.{length-decimal-le}
use Rattle.std.proofs.lemmas.List.{append-nil, append_assoc}
use Rattle.std.proofs.lemmas.Bool.{cond-false, le-ltb}
use Rattle.std.specs.List.{AllByRecursion}
use Rattle.tokens.specs.declared.types.Fault.{Fault}
use Rattle.tokens.specs.declared.types.Class.{Class}
use Rattle.tokens.specs.declared.types.Class.TheVariants.{Open, Close, Letter, Blank, Digit}
use Rattle.tokens.specs.Tokens.{closing, class_of, is_digit, Placed, tokens_from, tokens_of}
use Rattle.forms.specs.declared.types.MemoryKind.{MemoryKind}
use Rattle.forms.specs.declared.types.MemoryKind.TheVariants.{Lazy, Through}
use Rattle.forms.specs.declared.types.BookKind.TheVariants.{Tally, Slots}
use Rattle.forms.specs.declared.types.Request.{Request}
use Rattle.forms.specs.declared.types.Request.TheVariants.{Add, Read, Reserve, Cancel, Holder}
use Rattle.forms.specs.Spoken.{Spoken, memory, object, start, rise, call, steps, outcome, cut, Proper, ProperRequest, ProperPair}
use Rattle.forms.specs.Spelling.{spelled_request, spelled_pairs, spelled}
use Rattle.script.specs.Laws.{ReadsBack}
use Rattle.script.specs.Reading.{Step, then, number_within, request, pair, cut_form, some_form, finished}
use Rattle.script.proofs.Numbers.{reads_number}
use Rattle.script.proofs.Cutting.{cut_turn}
use Rattle.script.proofs.Whole.{form_reads}

-- what follows a step whose answer is known, alone and as the first of two steps
then_on : {X Z : Type 0} {s : Step X} {x : X} {ts : List Placed} (k : X → List Placed → Result Z Fault) → s ≡ Ok (x, ts) → then s k ≡ k x ts
then_on {X} k e = ap (λ (s : Step X). then s k) e

both_on : {X Y Z : Type 0} {s : Step X} {x : X} {ts : List Placed} (k : X → List Placed → Step Y) (l : Y → List Placed → Result Z Fault) →
    s ≡ Ok (x, ts) → then (then s k) l ≡ then (k x ts) l
both_on {X} k l e = ap (λ (s : Step X). then (then s k) l) e

module _ (len : ℕ) where
  -- a number of 64 bits, and one of 32, behind a blank and before a byte that is no digit
  any_reads : (n b : ℕ) → n < 2 ^ 64 → is_digit (class_of b) ≡ false → (col : ℕ) (rest : List ℕ) →
      number_within 0 18446744073709551615 len (tokens_from Blank col (decimal n ++ b ∷ rest)) ≡ Ok (n, tokens_from Digit (col + length (decimal n)) (b ∷ rest))
  any_reads n b h other col rest = reads_number 0 18446744073709551615 len n (omega arith) (omega arith) h Blank col b rest refl other

  half_reads : (n b : ℕ) → n < 2 ^ 32 → is_digit (class_of b) ≡ false → (col : ℕ) (rest : List ℕ) →
      number_within 0 4294967295 len (tokens_from Blank col (decimal n ++ b ∷ rest)) ≡ Ok (n, tokens_from Digit (col + length (decimal n)) (b ∷ rest))
  half_reads n b h other col rest = reads_number 0 4294967295 len n (omega arith) (omega arith) (omega arith) Blank col b rest refl other

  abbrev Back : Spoken → Type 0
  Back m = finished (some_form len (tokens_of (spelled m))) ≡ Ok m

  memory_back : (k : MemoryKind) (n : ℕ) → 8 ≤ n → n ≤ 16 → Back (memory k n)
  memory_back Lazy n low high = both_on _ _ (reads_number 8 16 len n low high (omega arith) Blank _ 41 _ refl refl)
  memory_back Through n low high = both_on _ _ (reads_number 8 16 len n low high (omega arith) Blank _ 41 _ refl refl)

  steps_back : (s c : ℕ) → s < 2 ^ 64 → 1 ≤ c → c < 2 ^ 64 → Back (steps s c)
  steps_back s c hs low hc = both_on _ _ (any_reads s 32 hs refl _ _) ∙ both_on _ _ (reads_number 1 18446744073709551615 len c low (omega arith) hc Blank _ 41 _ refl refl)

  outcome_back : (r s n : ℕ) → r < 2 ^ 64 → s < 2 ^ 64 → n < 2 ^ 64 → Back (outcome r s n)
  outcome_back r s n hr hs hn = both_on _ _ (any_reads r 32 hr refl _ _) ∙ both_on _ _ (any_reads s 32 hs refl _ _) ∙ both_on _ _ (any_reads n 41 hn refl _ _)

  -- a request, before the bracket that ends the call
  abbrev Asked : Request → ℕ → Type 0
  Asked q col = (end : ℕ) × (request len (tokens_from Blank col (spelled_request q ++ codes ")")) ≡ Ok (q, tokens_from Close end (codes ")")))

  request_back : (q : Request) (col : ℕ) → ProperRequest q → Asked q col
  request_back (Add n) col h =
      (_, ap (λ t. request len (tokens_from Blank col (codes "(add " ++ t))) (append_assoc (decimal n) (codes ")") (codes ")")) ∙ both_on _ _ (any_reads n 41 h refl _ _))
  request_back Read col h = (_, refl)
  request_back (Reserve s b) col h = (
    _,
    ap (λ t. request len (tokens_from Blank col (codes "(reserve " ++ t)))
        (append_assoc (decimal s) (32 ∷ (decimal b ++ codes ")")) (codes ")") ∙ ap (λ t. decimal s ++ 32 ∷ t) (append_assoc (decimal b) (codes ")") (codes ")")))
        ∙ both_on _ _ (half_reads s 32 h.0 refl _ _)
        ∙ both_on _ _ (half_reads b 41 h.1 refl _ _),
  )
  request_back (Cancel n) col h =
      (_, ap (λ t. request len (tokens_from Blank col (codes "(cancel " ++ t))) (append_assoc (decimal n) (codes ")") (codes ")")) ∙ both_on _ _ (any_reads n 41 h refl _ _))
  request_back (Holder n) col h =
      (_, ap (λ t. request len (tokens_from Blank col (codes "(holder " ++ t))) (append_assoc (decimal n) (codes ")") (codes ")")) ∙ both_on _ _ (any_reads n 41 h refl _ _))

  call_back : (s : ℕ) (q : Request) → s < 2 ^ 64 → ProperRequest q → Back (call s q)
  call_back s q hs hq = both_on _ _ (any_reads s 32 hs refl _ _) ∙ both_on _ _ (request_back q _ hq).1

  -- the pairs of a cut, one after the other
  pair_back : (a b col : ℕ) (rest : List ℕ) → a ≤ 128 → b ≤ 255 →
      (end : ℕ) × (pair len (tokens_from Open col (decimal a ++ 32 ∷ (decimal b ++ 41 ∷ rest))) ≡ Ok ((a, b), tokens_from Close end rest))
  pair_back a b col rest ha hb = (
    _,
    then_on _ (reads_number 0 128 len a (omega arith) ha (omega arith) Open col 32 _ refl refl)
        ∙ then_on _ (reads_number 0 255 len b (omega arith) hb (omega arith) Blank _ 41 rest refl refl),
  )

  pair_text : (q : ℕ × ℕ) (qs : List (ℕ × ℕ)) → spelled_pairs (q ∷ qs) ++ codes ")" ≡ 32 ∷ 40 ∷ (decimal q.0 ++ 32 ∷ (decimal q.1 ++ 41 ∷ (spelled_pairs qs ++ codes ")")))
  pair_text q qs = simp append_assoc

  -- p is the class of the byte before
  pairs_back : (p : Class) → ((col : ℕ) → tokens_from p col (codes ")") ≡ record { column = col; shape = closing } ∷ []) →
      (m : ℕ) (ps qs : List (ℕ × ℕ)) (col : ℕ) → length qs ≤ m → AllByRecursion ProperPair qs →
      finished (cut_form m ps len (tokens_from p col (spelled_pairs qs ++ codes ")"))) ≡ Ok (cut (ps ++ qs))
  pairs_back p ends m ps [] col few h =
      ap (λ ts. finished (cut_form m ps len ts)) (ends col)
      ∙ ap finished (cut_turn m ps len (record { column = col; shape = closing } ∷ []))
      ∙ ap (λ qs. Ok (cut qs)) (sym (append-nil ps))
  pairs_back p ends zero ps (q ∷ qs) col few h = absurd (omega arith)
  pairs_back p ends (suc m) ps (q ∷ qs) col few h =
      let here = pair_back q.0 q.1 (col + 1 + 1) (spelled_pairs qs ++ codes ")") h.0.0 h.0.1 in
      ap (λ bs. finished (cut_form (suc m) ps len (tokens_from p col bs))) (pair_text q qs)
      ∙ ap finished (cut_turn (suc m) ps len (tokens_from p col (32 ∷ 40 ∷ (decimal q.0 ++ 32 ∷ (decimal q.1 ++ 41 ∷ (spelled_pairs qs ++ codes ")"))))))
      ∙ both_on _ _ here.1
      ∙ pairs_back Close (λ col. refl) m (ps ++ q ∷ []) qs here.0 (omega arith) h.1
      ∙ ap (λ qs. Ok (cut qs)) (append_assoc ps (q ∷ []) qs)

  form_back : (m : Spoken) → Proper m → Back m
  form_back (memory k n) h = memory_back k n h.0 h.1
  form_back (object Tally) h = refl
  form_back (object Slots) h = refl
  form_back start h = refl
  form_back rise h = refl
  form_back (call s q) h = call_back s q h.0 h.1
  form_back (steps s c) h = steps_back s c h.0 h.1 h.2
  form_back (outcome r s n) h = outcome_back r s n h.0 h.1 h.2
  form_back (cut []) h = pairs_back Letter (λ col. refl) 16 [] [] 5 h.0 h.1
  form_back (cut (p ∷ ps)) h = pairs_back Letter (λ col. refl) 16 [] (p ∷ ps) 5 h.0 h.1

-- No spelling is too long

long_decimal : (n : ℕ) → n < 2 ^ 64 → length (decimal n) ≤ 20
long_decimal n h = length-decimal-le 20 n (omega arith) (omega arith) h

short_decimal : (n : ℕ) → n ≤ 255 → length (decimal n) ≤ 3
short_decimal n h = length-decimal-le 3 n (omega arith) (omega arith) (omega arith)

long_request : (q : Request) → ProperRequest q → length (spelled_request q) ≤ 51
long_request (Add n) h = simp length-append (omega (arith, long_decimal n h))
long_request Read h = omega arith
long_request (Reserve s b) h = simp length-append (omega (arith, long_decimal s (omega arith), long_decimal b (omega arith)))
long_request (Cancel n) h = simp length-append (omega (arith, long_decimal n h))
long_request (Holder n) h = simp length-append (omega (arith, long_decimal n h))

long_pairs : (ps : List (ℕ × ℕ)) → AllByRecursion ProperPair ps → length (spelled_pairs ps) ≤ 10 * length ps
long_pairs [] h = omega arith
long_pairs (p ∷ ps) h = simp length-append (omega (arith, short_decimal p.0 (omega arith), short_decimal p.1 h.0.1, long_pairs ps h.1))

long_form : (m : Spoken) → Proper m → length (spelled m) ≤ 200
long_form (memory Lazy n) h = simp length-append (omega (arith, long_decimal n (omega arith)))
long_form (memory Through n) h = simp length-append (omega (arith, long_decimal n (omega arith)))
long_form (object Tally) h = omega arith
long_form (object Slots) h = omega arith
long_form start h = omega arith
long_form rise h = omega arith
long_form (call s q) h = simp length-append (omega (arith, long_decimal s h.0, long_request q h.1))
long_form (steps s c) h = simp length-append (omega (arith, long_decimal s h.0, long_decimal c h.2))
long_form (outcome r s n) h = simp length-append (omega (arith, long_decimal r h.0, long_decimal s h.1, long_decimal n h.2))
long_form (cut ps) h = simp length-append (omega (arith, long_pairs ps h.1))

pub reads_back : ReadsBack
reads_back m h =
    cond-false _ _ _ (le-ltb 200 (length (spelled m)) (long_form m h))
    ∙ sym (form_reads (length (spelled m)) (tokens_of (spelled m)))
    ∙ form_back (length (spelled m)) m h
