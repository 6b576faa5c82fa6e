-- Reading by patterns that begin with words: the word chooses among them.
use Rattle.std.proofs.Common.{◌≡◌, ℕ, ◌+◌, Bool, true, false, cond, not, ◌&&◌, List, [], ◌∷◌, ◌++◌, map, Ok, Err, Result, sym, refl, ap, ◌∙◌, ap₂, inl, inr}
use Rattle.std.proofs.lemmas.Slice.Eq.{bytes_eq-Decides}
use Rattle.std.proofs.lemmas.List.{append-nil, append_assoc}
use Rattle.std.proofs.lemmas.Bool.{cases_Bool, cond-true, cond-false, and_parts, not-true}
use Rattle.std.specs.Str.{bytes_eq}
use Rattle.tokens.specs.declared.types.Fault.{Fault}
use Rattle.tokens.specs.Tokens.{Shape, opening, closing, word, number, odd, Placed, plain, value, unreadable}
use Rattle.forms.specs.Spoken.{Spoken}
use Rattle.script.specs.Grammar.{Slot, says, Pattern, accepts, rest_by, after, with_token, meant, unless_none, read_by, prefix}
use Rattle.script.specs.Reading.{Step, then, some_word, if_word}
use Rattle.script.proofs.Patterns.{some, goes_on, after_prefix, onward, not_here}

-- the patterns that go on behind a word
pub record Group : Type 0 where
  pub name : List ℕ
  pub rest : List Pattern

abbrev pub of_groups : List Group → List Pattern
of_groups [] = []
of_groups (g ∷ gs) = map (prefix (says g.name)) g.rest ++ of_groups gs

after_append : (s : Shape) (ps qs : List Pattern) → after s (ps ++ qs) ≡ after s ps ++ after s qs
after_append s [] qs = refl
after_append s (p ∷ ps) qs =
    ap (λ rs. rest_by s p.slots p.meaning ++ rs) (after_append s ps qs) ∙ sym (append_assoc (rest_by s p.slots p.meaning) (after s ps) (after s qs))

-- what a word leaves
abbrev pub picked : List ℕ → List Group → List Pattern
picked w [] = []
picked w (g ∷ gs) = cond (bytes_eq w g.name) g.rest [] ++ picked w gs

after_word : (w : List ℕ) (gs : List Group) → after (word w) (of_groups gs) ≡ picked w gs
after_word w [] = refl
after_word w (g ∷ gs) =
    after_append (word w) (map (prefix (says g.name)) g.rest) (of_groups gs)
    ∙ ap₂ (λ (ps qs : List Pattern). ps ++ qs) (after_prefix (says g.name) (word w) g.rest) (after_word w gs)

-- any other token leaves nothing
after_other : (s : Shape) → ((v : List ℕ) → accepts (says v) s ≡ false) → (gs : List Group) → after s (of_groups gs) ≡ []
after_other s h [] = refl
after_other s h (g ∷ gs) =
    after_append s (map (prefix (says g.name)) g.rest) (of_groups gs)
    ∙ ap₂ (λ (ps qs : List Pattern). ps ++ qs) (after_prefix (says g.name) s g.rest ∙ cond-false _ g.rest [] (h g.name)) (after_other s h gs)

meant_append : (x : Slot) (ps qs : List Pattern) (ns : List ℕ) (len : ℕ) → meant (map (prefix x) ps ++ qs) ns len ≡ meant qs ns len
meant_append x [] qs ns len = refl
meant_append x (p ∷ ps) qs ns len = meant_append x ps qs ns len

meant_groups : (gs : List Group) (ns : List ℕ) (len : ℕ) → meant (of_groups gs) ns len ≡ Err (unreadable (len + 1))
meant_groups [] ns len = refl
meant_groups (g ∷ gs) ns len = meant_append (says g.name) g.rest (of_groups gs) ns len ∙ meant_groups gs ns len

module _ (gs : List Group) (ns : List ℕ) (len : ℕ) where
  abbrev behind : List ℕ × ℕ → List Placed → Result Spoken Fault
  behind w ts = onward (picked w.0 gs) w.1 ns len ts

  word_at : (s : Shape) (col : ℕ) (ts : List Placed) → onward (after s (of_groups gs)) col (with_token ns s) len ts ≡ then (some_word len (record { column = col; shape = s } ∷ ts)) behind
  word_at opening col ts = ap (λ rs. onward rs col ns len ts) (after_other opening (λ v. refl) gs)
  word_at closing col ts = ap (λ rs. onward rs col ns len ts) (after_other closing (λ v. refl) gs)
  word_at (word w) col ts = ap (λ rs. onward rs col ns len ts) (after_word w gs)
  word_at (number ds) col ts =
      ap (λ rs. onward rs col (ns ++ value ds ∷ []) len ts) (after_other (number ds) (λ v. refl) gs)
      ∙ not_here (not (plain ds)) col (record { column = col; shape = number ds }) ts (λ t ts. if_word t.shape t.column ts) behind refl
  word_at odd col ts = ap (λ rs. onward rs col ns len ts) (after_other odd (λ v. refl) gs)

  read_word : (ts : List Placed) → read_by (of_groups gs) ns len ts ≡ then (some_word len ts) behind
  read_word [] = meant_groups gs ns len
  read_word (t ∷ ts) = word_at t.shape t.column ts

-- no two groups have one word, and none is empty
abbrev pub absent : List ℕ → List Group → Bool
absent v [] = true
absent v (g ∷ gs) = not (bytes_eq v g.name) && absent v gs

abbrev pub distinct : List Group → Bool
distinct [] = true
distinct (g ∷ gs) = some g.rest && (absent g.name gs && distinct gs)

absent_picked : (v : List ℕ) (gs : List Group) → absent v gs ≡ true → picked v gs ≡ []
absent_picked v [] h = refl
absent_picked v (g ∷ gs) h =
    let parts = and_parts (not (bytes_eq v g.name)) (absent v gs) h in
    ap₂ (λ (ps qs : List Pattern). ps ++ qs) (cond-false _ g.rest [] (not-true (bytes_eq v g.name) parts.0)) (absent_picked v gs parts.1)

-- the first group of that word
abbrev pub choose : List ℕ → List Group → ℕ → (List Pattern → Result Spoken Fault) → Result Spoken Fault
choose w [] col k = Err (unreadable col)
choose w (g ∷ gs) col k = cond (bytes_eq w g.name) (k g.rest) (choose w gs col k)

chosen : (w : List ℕ) (gs : List Group) (col : ℕ) (k : List Pattern → Result Spoken Fault) → distinct gs ≡ true → unless_none (picked w gs) col (k (picked w gs)) ≡ choose w gs col k
chosen w [] col k h = refl
chosen w (g ∷ gs) col k h =
    let there = and_parts (some g.rest) (absent g.name gs && distinct gs) h in
    let parts = and_parts (absent g.name gs) (distinct gs) there.1 in
    elim (cases_Bool (bytes_eq w g.name)) [
      | inl e ↦
          let same : w ≡ g.name = (bytes_eq-Decides w g.name).0 e in
          let none : picked w gs ≡ [] = ap (λ v. picked v gs) same ∙ absent_picked g.name gs parts.0 in
          let only : picked w (g ∷ gs) ≡ g.rest = ap₂ (λ (ps qs : List Pattern). ps ++ qs) (cond-true _ g.rest [] e) none ∙ append-nil g.rest in
          ap (λ ps. unless_none ps col (k ps)) only ∙ goes_on g.rest col (k g.rest) there.0 ∙ sym (cond-true _ (k g.rest) (choose w gs col k) e)
      | inr e ↦
          let others : picked w (g ∷ gs) ≡ picked w gs = ap (λ ps. ps ++ picked w gs) (cond-false _ g.rest [] e) in
          ap (λ ps. unless_none ps col (k ps)) others ∙ chosen w gs col k parts.1 ∙ sym (cond-false _ (k g.rest) (choose w gs col k) e)
    ]

pub then_same : {X Y : Type 0} (s : Step X) (k m : X → List Placed → Result Y Fault) → ((x : X) (ts : List Placed) → k x ts ≡ m x ts) → then s k ≡ then s m
then_same (Ok p) k m h = h p.0 p.1
then_same (Err f) k m h = refl

pub read_choice : (gs : List Group) (ns : List ℕ) (len : ℕ) (ts : List Placed) → distinct gs ≡ true →
    read_by (of_groups gs) ns len ts ≡ then (some_word len ts) (λ w ts. choose w.0 gs w.1 (λ ps. read_by ps ns len ts))
read_choice gs ns len ts h =
    read_word gs ns len ts
    ∙ then_same (some_word len ts) (behind gs ns len) (λ w ts. choose w.0 gs w.1 (λ ps. read_by ps ns len ts)) (λ w ts. chosen w.0 gs w.1 (λ ps. read_by ps ns len ts) h)
