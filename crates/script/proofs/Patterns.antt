-- Reading by patterns that begin alike: the first token is read, and the patterns go on behind it.
use Rattle.std.proofs.Common.{◌≡◌, ℕ, ◌+◌, Bool, true, false, cond, not, ◌&&◌, leb, List, [], ◌∷◌, ◌++◌, map, Ok, Err, Result, sym, refl, ap, ◌∙◌}
use Rattle.std.proofs.lemmas.Bool.{false≢true}
use Rattle.tokens.specs.declared.types.Fault.{Fault}
use Rattle.tokens.specs.Tokens.{Shape, opening, closing, word, number, odd, Placed, plain, value, unreadable}
use Rattle.forms.specs.Spoken.{Spoken}
use Rattle.script.specs.Grammar.{Slot, opens, closes, counts, Pattern, accepts, after, with_token, meant, unless_none, read_by, prefix}
use Rattle.script.specs.Reading.{Step, then, if_opening, if_closing, if_number, open_bracket, close_bracket, number_within, alone}

abbrev pub some : List Pattern → Bool
some [] = false
some (p ∷ ps) = true

pub goes_on : (ps : List Pattern) (col : ℕ) (r : Result Spoken Fault) → some ps ≡ true → unless_none ps col r ≡ r
goes_on [] col r h = absurd (false≢true h)
goes_on (p ∷ ps) col r h = refl

cons_if : (b : Bool) (p : Pattern) (ps : List Pattern) → cond b (p ∷ []) [] ++ cond b ps [] ≡ cond b (p ∷ ps) []
cons_if true p ps = refl
cons_if false p ps = refl

pub after_prefix : (x : Slot) (s : Shape) (ps : List Pattern) → after s (map (prefix x) ps) ≡ cond (accepts x s) ps []
after_prefix x s [] = elim (accepts x s) as (λ b. ◌≡◌ {A = List Pattern} [] (cond b [] [])) [ true ↦ refl | false ↦ refl ]
after_prefix x s (p ∷ ps) = ap (λ rs. cond (accepts x s) (p ∷ []) [] ++ rs) (after_prefix x s ps) ∙ cons_if (accepts x s) p ps

-- none of them is complete
pub meant_prefix : (x : Slot) (ps : List Pattern) (ns : List ℕ) (len : ℕ) → meant (map (prefix x) ps) ns len ≡ Err (unreadable (len + 1))
meant_prefix x [] ns len = refl
meant_prefix x (p ∷ ps) ns len = meant_prefix x ps ns len

-- reading on by the patterns that a token leaves
abbrev pub onward : List Pattern → ℕ → List ℕ → ℕ → List Placed → Result Spoken Fault
onward ps col ns len ts = unless_none ps col (read_by ps ns len ts)

-- a number that does not fit, whether it is plain or not
pub not_here : {X : Type 0} (b : Bool) (col : ℕ) (t : Placed) (ts : List Placed) (j : Placed → List Placed → Step X) (k : X → List Placed → Result Spoken Fault) →
    j t ts ≡ Err (unreadable col) → Err (unreadable col) ≡ then (then (cond b (Err (unreadable col)) (Ok (t, ts))) j) k
not_here true col t ts j k e = refl
not_here false col t ts j k e = sym (ap (λ s. then s k) e)

module _ (ps : List Pattern) (h : some ps ≡ true) (ns : List ℕ) (len : ℕ) where
  opens_at : (s : Shape) (col : ℕ) (ts : List Placed) →
      onward (cond (accepts opens s) ps []) col (with_token ns s) len ts ≡ then (open_bracket len (record { column = col; shape = s } ∷ ts)) (λ _ ts. read_by ps ns len ts)
  opens_at opening col ts = goes_on ps col _ h
  opens_at closing col ts = refl
  opens_at (word w) col ts = refl
  opens_at (number ds) col ts = not_here (not (plain ds)) col (record { column = col; shape = number ds }) ts (λ t ts. if_opening t.shape t.column ts) (λ _ ts. read_by ps ns len ts) refl
  opens_at odd col ts = refl

  pub read_opens : (ts : List Placed) → read_by (map (prefix opens) ps) ns len ts ≡ then (open_bracket len ts) (λ _ ts. read_by ps ns len ts)
  read_opens [] = meant_prefix opens ps ns len
  read_opens (t ∷ ts) = ap (λ rs. onward rs t.column (with_token ns t.shape) len ts) (after_prefix opens t.shape ps) ∙ opens_at t.shape t.column ts

  closes_at : (s : Shape) (col : ℕ) (ts : List Placed) →
      onward (cond (accepts closes s) ps []) col (with_token ns s) len ts ≡ then (close_bracket len (record { column = col; shape = s } ∷ ts)) (λ _ ts. read_by ps ns len ts)
  closes_at opening col ts = refl
  closes_at closing col ts = goes_on ps col _ h
  closes_at (word w) col ts = refl
  closes_at (number ds) col ts = not_here (not (plain ds)) col (record { column = col; shape = number ds }) ts (λ t ts. if_closing t.shape t.column ts) (λ _ ts. read_by ps ns len ts) refl
  closes_at odd col ts = refl

  pub read_closes : (ts : List Placed) → read_by (map (prefix closes) ps) ns len ts ≡ then (close_bracket len ts) (λ _ ts. read_by ps ns len ts)
  read_closes [] = meant_prefix closes ps ns len
  read_closes (t ∷ ts) = ap (λ rs. onward rs t.column (with_token ns t.shape) len ts) (after_prefix closes t.shape ps) ∙ closes_at t.shape t.column ts

  -- a number: a is whether it is plain, b whether it is in range
  number_at : (a b : Bool) (n col : ℕ) (t : Placed) (ts : List Placed) (j : Placed → List Placed → Step ℕ) → j t ts ≡ cond (a && b) (Ok (n, ts)) (Err (unreadable col)) →
      onward (cond (a && b) ps []) col (ns ++ n ∷ []) len ts ≡ then (then (cond (not a) (Err (unreadable col)) (Ok (t, ts))) j) (λ n ts. read_by ps (ns ++ n ∷ []) len ts)
  number_at true true n col t ts j e = goes_on ps col _ h ∙ sym (ap (λ s. then s (λ n ts. read_by ps (ns ++ n ∷ []) len ts)) e)
  number_at true false n col t ts j e = sym (ap (λ s. then s (λ n ts. read_by ps (ns ++ n ∷ []) len ts)) e)
  number_at false b n col t ts j e = refl

  module _ (low high : ℕ) where
    counts_at : (s : Shape) (col : ℕ) (ts : List Placed) →
        onward (cond (accepts (counts low high) s) ps []) col (with_token ns s) len ts ≡ then (number_within low high len (record { column = col; shape = s } ∷ ts)) (λ n ts. read_by ps (ns ++ n ∷ []) len ts)
    counts_at opening col ts = refl
    counts_at closing col ts = refl
    counts_at (word w) col ts = refl
    counts_at (number ds) col ts = number_at (plain ds) (leb low (value ds) && leb (value ds) high) (value ds) col (record { column = col; shape = number ds }) ts (λ t ts. if_number low high t.shape t.column ts) refl
    counts_at odd col ts = refl

    pub read_counts : (ts : List Placed) → read_by (map (prefix (counts low high)) ps) ns len ts ≡ then (number_within low high len ts) (λ n ts. read_by ps (ns ++ n ∷ []) len ts)
    read_counts [] = meant_prefix (counts low high) ps ns len
    read_counts (t ∷ ts) = ap (λ rs. onward rs t.column (with_token ns t.shape) len ts) (after_prefix (counts low high) t.shape ps) ∙ counts_at t.shape t.column ts

-- a complete pattern
pub read_end : (f : List ℕ → Spoken) (ns : List ℕ) (len : ℕ) (ts : List Placed) → read_by (record { slots = []; meaning = f } ∷ []) ns len ts ≡ alone (f ns) ts
read_end f ns len [] = refl
read_end f ns len (t ∷ ts) = refl
