-- Reading by a table of patterns tells which pattern has the tokens, or where none goes on.
use Rattle.std.proofs.Common.{◌≡◌, ℕ, ◌+◌, Bool, true, false, cond, ◌⊎◌, List, [], ◌∷◌, ◌++◌, length, Ok, Err, Result, sym, refl, ap, subst, inl, inr, MatchResult}
use Rattle.std.proofs.lemmas.Bool.{cond-false, le-ltb}
use Rattle.tokens.specs.declared.types.Fault.{Fault}
use Rattle.tokens.specs.Tokens.{Shape, Placed, tokens_of, unreadable}
use Rattle.forms.specs.Spoken.{Spoken}
use Rattle.script.specs.Grammar.{Slot, Pattern, accepts, rest_by, after, with_token, complete, meant, unless_none, read_by, table, read_line}
use Rattle.script.specs.Laws.{Some, shapes, numbers, Has, GoesOn, SomeGoesOn, SomeHas, SomeMeans, Misfit, Unfinished, ReadsExactly}

-- what is told of a list of tokens
abbrev Told : List Pattern → List ℕ → ℕ → List Placed → Result Spoken Fault → Type 0
Told ps ns len ts r =
    MatchResult r (λ m. SomeMeans ps (shapes ts) (numbers ns ts) m)
    (λ f. (f.number ≡ 16) × (Misfit ps ts f.column ⊎ Unfinished ps ts len f.column) × (SomeHas ps (shapes ts) → ⊥))

-- A claim on what is left to read, made of a token and a claim on what is left behind it
pub record Steps (s : Shape) (P Q : List Slot → (List ℕ → Spoken) → Type 0) : Type 0 where
  pub none : (f : List ℕ → Spoken) → P [] f → ⊥
  pub accepted : (x : Slot) (xs : List Slot) (f : List ℕ → Spoken) → P (x ∷ xs) f → accepts x s ≡ true
  pub inner : (x : Slot) (xs : List Slot) (f : List ℕ → Spoken) → P (x ∷ xs) f → Q xs f
  pub outer : (x : Slot) (xs : List Slot) (f : List ℕ → Spoken) → accepts x s ≡ true → Q xs f → P (x ∷ xs) f

module _ {s : Shape} {P Q : List Slot → (List ℕ → Spoken) → Type 0} (step : Steps s P Q) where
  -- a table with one pattern more, if a test says so
  abbrev with_one : Bool → List Slot → (List ℕ → Spoken) → List Pattern → List Pattern
  with_one t xs f qs = cond t (record { slots = xs; meaning = f } ∷ []) [] ++ qs

  more : (t : Bool) (xs : List Slot) (f : List ℕ → Spoken) (qs : List Pattern) → Some Q qs → Some Q (with_one t xs f qs)
  more true xs f qs h = inr h
  more false xs f qs h = h

  first : (xs : List Slot) (f : List ℕ → Spoken) (qs : List Pattern) → P xs f → Some Q (rest_by s xs f ++ qs)
  first [] f qs h = absurd (step.none f h)
  first (x ∷ xs) f qs h = subst (λ t. Some Q (with_one t xs f qs)) (sym (step.accepted x xs f h)) (inl (step.inner x xs f h))

  later : (xs : List Slot) (f : List ℕ → Spoken) (qs : List Pattern) → Some Q qs → Some Q (rest_by s xs f ++ qs)
  later [] f qs h = h
  later (x ∷ xs) f qs h = more (accepts x s) xs f qs h

  pub onward : (ps : List Pattern) → Some P ps → Some Q (after s ps)
  onward [] h = h
  onward (p ∷ ps) (inl h) = first p.slots p.meaning (after s ps) h
  onward (p ∷ ps) (inr h) = later p.slots p.meaning (after s ps) (onward ps h)

  split_one : (t : Bool) (x : Slot) (xs : List Slot) (f : List ℕ → Spoken) (qs : List Pattern) → accepts x s ≡ t → Some Q (with_one t xs f qs) → P (x ∷ xs) f ⊎ Some Q qs
  split_one true x xs f qs e (inl h) = inl (step.outer x xs f e h)
  split_one true x xs f qs e (inr h) = inr h
  split_one false x xs f qs e h = inr h

  split_rest : (xs : List Slot) (f : List ℕ → Spoken) (qs : List Pattern) → Some Q (rest_by s xs f ++ qs) → P xs f ⊎ Some Q qs
  split_rest [] f qs h = inr h
  split_rest (x ∷ xs) f qs h = split_one (accepts x s) x xs f qs refl h

  pub back : (ps : List Pattern) → Some Q (after s ps) → Some P ps
  back [] h = h
  back (p ∷ ps) h = elim (split_rest p.slots p.meaning (after s ps) h) [ inl here ↦ inl here | inr there ↦ inr (back ps there) ]

go_steps : (s : Shape) (ss : List Shape) → Steps s (λ xs f. GoesOn xs (s ∷ ss)) (λ xs f. GoesOn xs ss)
go_steps s ss = record { none = λ f h. h; accepted = λ x xs f h. h.0; inner = λ x xs f h. h.1; outer = λ x xs f a h. (a, h) }

has_steps : (s : Shape) (ss : List Shape) → Steps s (λ xs f. Has xs (s ∷ ss)) (λ xs f. Has xs ss)
has_steps s ss = record { none = λ f h. h; accepted = λ x xs f h. h.0; inner = λ x xs f h. h.1; outer = λ x xs f a h. (a, h) }

mean_steps : (s : Shape) (ss : List Shape) (ns : List ℕ) (m : Spoken) → Steps s (λ xs f. Has xs (s ∷ ss) × (f ns ≡ m)) (λ xs f. Has xs ss × (f ns ≡ m))
mean_steps s ss ns m = record { none = λ f h. h.0; accepted = λ x xs f h. h.0.0; inner = λ x xs f h. (h.0.1, h.1); outer = λ x xs f a h. ((a, h.0), h.1) }

-- every pattern goes on with nothing
starts : (ps : List Pattern) → Some (λ xs f. Unit) ps → SomeGoesOn ps []
starts [] h = h
starts (p ∷ ps) (inl h) = inl tt
starts (p ∷ ps) (inr h) = inr (starts ps h)

-- at the end of the tokens
abbrev Ends : List Pattern → List ℕ → ℕ → Result Spoken Fault → Type 0
Ends ps ns len r = MatchResult r (λ m. SomeMeans ps [] ns m) (λ f. (f ≡ unreadable (len + 1)) × (SomeHas ps [] → ⊥))

ends_more : (xs : List Slot) (f : List ℕ → Spoken) (ps : List Pattern) (ns : List ℕ) (len : ℕ) (r : Result Spoken Fault) → Ends ps ns len r →
    Ends (record { slots = xs; meaning = f } ∷ ps) ns len (complete xs (f ns) r)
ends_more [] f ps ns len r h = inl (tt, refl)
ends_more (x ∷ xs) f ps ns len (Ok m) h = inr h
ends_more (x ∷ xs) f ps ns len (Err e) h = (h.0, λ k. elim k [ inl no' ↦ no' | inr k ↦ h.1 k ])

ends : (ps : List Pattern) (ns : List ℕ) (len : ℕ) → Ends ps ns len (meant ps ns len)
ends [] ns len = (refl, λ h. h)
ends (p ∷ ps) ns len = ends_more p.slots p.meaning ps ns len (meant ps ns len) (ends ps ns len)

told_end : (ps : List Pattern) (ns : List ℕ) (len : ℕ) (r : Result Spoken Fault) → Some (λ xs f. Unit) ps → Ends ps ns len r → Told ps ns len [] r
told_end ps ns len (Ok m) some h = h
told_end ps ns len (Err f) some h = (ap (λ (x : Fault). x.number) h.0, inr (record { end = ap (λ (x : Fault). x.column) h.0; fits = starts ps some; not_all = h.1 }), h.1)

-- one token further
module _ (ps : List Pattern) (ns : List ℕ) (len : ℕ) (t : Placed) (ts : List Placed) where
  lift : (r : Result Spoken Fault) → Told (after t.shape ps) (with_token ns t.shape) len ts r → Told ps ns len (t ∷ ts) r
  lift (Ok m) h = back (mean_steps t.shape (shapes ts) (numbers (with_token ns t.shape) ts) m) ps h
  lift (Err f) h = (
    h.0,
    elim h.1 [
      | inl x ↦ inl (record {
        before = t ∷ x.before;
        token = x.token;
        behind = x.behind;
        split = ap (λ (l : List Placed). t ∷ l) x.split;
        there = x.there;
        fits = back (go_steps t.shape (shapes x.before)) ps x.fits;
        not_on = λ k. x.not_on (onward (go_steps t.shape (shapes (x.before ++ (x.token ∷ [])))) ps k);
      })
      | inr x ↦ inr (record {
        end = x.end;
        fits = back (go_steps t.shape (shapes ts)) ps x.fits;
        not_all = λ k. x.not_all (onward (has_steps t.shape (shapes ts)) ps k);
      })
    ],
    λ k. h.2 (onward (has_steps t.shape (shapes ts)) ps k),
  )

  misfit : Some (λ xs f. Unit) ps → after t.shape ps ≡ [] → Told ps ns len (t ∷ ts) (Err (unreadable t.column))
  misfit some none = (
    refl,
    inl (record {
      before = [];
      token = t;
      behind = ts;
      split = refl;
      there = refl;
      fits = starts ps some;
      not_on = λ k. subst (λ (qs : List Pattern). SomeGoesOn qs []) none (onward (go_steps t.shape []) ps k);
    }),
    λ k. subst (λ (qs : List Pattern). SomeHas qs (shapes ts)) none (onward (has_steps t.shape (shapes ts)) ps k),
  )

  pub one_token : Some (λ xs f. Unit) ps → (qs : List Pattern) → after t.shape ps ≡ qs →
      ((some : Some (λ xs f. Unit) qs) → Told qs (with_token ns t.shape) len ts (read_by qs (with_token ns t.shape) len ts)) →
      Told ps ns len (t ∷ ts) (unless_none qs t.column (read_by qs (with_token ns t.shape) len ts))
  one_token some [] e rest = misfit some e
  one_token some (q ∷ qs) e rest =
      lift (read_by (q ∷ qs) (with_token ns t.shape) len ts)
      (subst (λ (xs : List Pattern). Told xs (with_token ns t.shape) len ts (read_by (q ∷ qs) (with_token ns t.shape) len ts)) (sym e) (rest (inl tt)))

told : (ts : List Placed) (ps : List Pattern) (ns : List ℕ) (len : ℕ) → Some (λ xs f. Unit) ps → Told ps ns len ts (read_by ps ns len ts)
told [] ps ns len some = told_end ps ns len (meant ps ns len) some (ends ps ns len)
told (t ∷ ts) ps ns len some = one_token ps ns len t ts some (after t.shape ps) refl (λ more. told ts (after t.shape ps) (with_token ns t.shape) len more)

pub reads_exactly : ReadsExactly
reads_exactly line short =
    let whole : read_line line ≡ read_by table [] (length line) (tokens_of line) = cond-false _ _ _ (le-ltb 200 (length line) short) in
    subst (λ (r : Result Spoken Fault). Told table [] (length line) (tokens_of line) r) (sym whole) (told (tokens_of line) table [] (length line) (inl tt))
