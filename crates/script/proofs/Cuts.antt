-- The reader and the table agree on cuts.
use Rattle.std.proofs.Common.{◌≡◌, ℕ, zero, suc, true, cond, not, List, [], ◌∷◌, ◌++◌, map, Ok, Err, sym, refl, ap, ◌∙◌}
use Rattle.tokens.specs.Tokens.{Shape, opening, closing, word, number, odd, Placed, plain, value, unreadable}
use Rattle.forms.specs.Spoken.{cut}
use Rattle.script.specs.Grammar.{opens, closes, counts, Pattern, accepts, after, with_token, meant, read_by, prefix, paired, with_pair, pairs_up_to}
use Rattle.script.specs.Reading.{then, close_bracket, number_within, next_token, alone, finished, closed, pair, if_pair, cut_form}
use Rattle.script.proofs.Cutting.{another, turn, cut_turn}
use Rattle.script.proofs.Patterns.{some, goes_on, after_prefix, meant_prefix, onward, not_here, read_closes, read_counts, read_end}
use Rattle.script.proofs.Chains.{seq}

abbrev flat : List (ℕ × ℕ) → List ℕ
flat [] = []
flat (p ∷ ps) = p.0 ∷ p.1 ∷ flat ps

flat_push : (ps : List (ℕ × ℕ)) (l k : ℕ) → (flat ps ++ l ∷ []) ++ k ∷ [] ≡ flat (ps ++ (l, k) ∷ [])
flat_push [] l k = refl
flat_push (p ∷ ps) l k = ap (λ ns. p.0 ∷ p.1 ∷ ns) (flat_push ps l k)

paired_flat : (ps : List (ℕ × ℕ)) → paired (flat ps) ≡ ps
paired_flat [] = refl
paired_flat (p ∷ ps) = ap (λ qs. p ∷ qs) (paired_flat ps)

-- what an opening bracket leaves of patterns with a pair in front
abbrev inner : List Pattern → List Pattern
inner ps = map (prefix (counts 0 128)) (map (prefix (counts 0 255)) (map (prefix closes) ps))

parted : (ps : List Pattern) → map with_pair ps ≡ map (prefix opens) (inner ps)
parted [] = refl
parted (p ∷ ps) = ap (λ rs. with_pair p ∷ rs) (parted ps)

some_inner : (m : ℕ) → some (inner (pairs_up_to m)) ≡ true
some_inner zero = refl
some_inner (suc m) = refl

some_last : (m : ℕ) → some (map (prefix closes) (pairs_up_to m)) ≡ true
some_last zero = refl
some_last (suc m) = refl

some_second : (m : ℕ) → some (map (prefix (counts 0 255)) (map (prefix closes) (pairs_up_to m))) ≡ true
some_second zero = refl
some_second (suc m) = refl

some_pairs : (m : ℕ) → some (pairs_up_to m) ≡ true
some_pairs zero = refl
some_pairs (suc m) = refl

after_pairs : (s : Shape) (ps : List Pattern) → after s (map with_pair ps) ≡ cond (accepts opens s) (inner ps) []
after_pairs s ps = ap (after s) (parted ps) ∙ after_prefix opens s (inner ps)

-- the pairs read are what is said
closes_cut : (ps : List (ℕ × ℕ)) (len : ℕ) (ts : List Placed) → alone (cut ps) ts ≡ read_by (record { slots = []; meaning = λ ns. cut (paired ns) } ∷ []) (flat ps) len ts
closes_cut ps len ts = ap (λ qs. alone (cut qs) ts) (sym (paired_flat ps)) ∙ sym (read_end (λ ns. cut (paired ns)) (flat ps) len ts)

odd_number : (ds : List ℕ) (m : ℕ) (ps : List (ℕ × ℕ)) (len col : ℕ) (ts : List Placed) → finished (turn m ps len (next_token len (record { column = col; shape = number ds } ∷ ts))) ≡ Err (unreadable col)
odd_number ds m ps len col ts =
    sym (not_here (not (plain ds)) col (record { column = col; shape = number ds }) ts (λ t ts. if_pair t.shape t.column ps ts (another m ps t.column len ts)) alone refl)

-- no place is left for a pair
none_at : (ps : List (ℕ × ℕ)) (len : ℕ) (s : Shape) (col : ℕ) (ts : List Placed) →
    finished (turn 0 ps len (next_token len (record { column = col; shape = s } ∷ ts))) ≡ onward (after s (pairs_up_to 0)) col (with_token (flat ps) s) len ts
none_at ps len opening col ts = refl
none_at ps len closing col ts = closes_cut ps len ts
none_at ps len (word w) col ts = refl
none_at ps len (number ds) col ts = odd_number ds 0 ps len col ts
none_at ps len odd col ts = refl

some_at : (m : ℕ) (ps : List (ℕ × ℕ)) (len : ℕ) → ((p : ℕ × ℕ) (ts : List Placed) → finished (cut_form m (ps ++ p ∷ []) len ts) ≡ read_by (pairs_up_to m) (flat (ps ++ p ∷ [])) len ts) → (s : Shape) (col : ℕ) (ts : List Placed) →
    finished (turn (suc m) ps len (next_token len (record { column = col; shape = s } ∷ ts))) ≡ onward (after s (pairs_up_to (suc m))) col (with_token (flat ps) s) len ts
some_at m ps len more opening col ts =
    seq (pair len ts) (λ p ts. cut_form m (ps ++ p ∷ []) len ts) alone (λ p ts. read_by (pairs_up_to m) (flat (ps ++ p ∷ [])) len ts) more
    ∙ seq (number_within 0 128 len ts) (λ l ts. then (number_within 0 255 len ts) (λ k ts. closed (l, k) len ts)) (λ p ts. read_by (pairs_up_to m) (flat (ps ++ p ∷ [])) len ts) _ (λ l ts.
    seq (number_within 0 255 len ts) (λ k ts. closed (l, k) len ts) (λ p ts. read_by (pairs_up_to m) (flat (ps ++ p ∷ [])) len ts) _ (λ k ts.
    seq (close_bracket len ts) (λ _ ts. Ok ((l, k), ts)) (λ p ts. read_by (pairs_up_to m) (flat (ps ++ p ∷ [])) len ts) _ (λ _ ts. ap (λ ns. read_by (pairs_up_to m) ns len ts) (sym (flat_push ps l k)))
    ∙ sym (read_closes (pairs_up_to m) (some_pairs m) ((flat ps ++ l ∷ []) ++ k ∷ []) len ts))
    ∙ sym (read_counts (map (prefix closes) (pairs_up_to m)) (some_last m) (flat ps ++ l ∷ []) len 0 255 ts))
    ∙ sym (read_counts (map (prefix (counts 0 255)) (map (prefix closes) (pairs_up_to m))) (some_second m) (flat ps) len 0 128 ts)
    ∙ sym (goes_on (inner (pairs_up_to m)) col (read_by (inner (pairs_up_to m)) (flat ps) len ts) (some_inner m))
    ∙ ap (λ rs. onward rs col (flat ps) len ts) (sym (after_pairs opening (pairs_up_to m)))
some_at m ps len more closing col ts =
    closes_cut ps len ts ∙ ap (λ rs. onward (record { slots = []; meaning = λ ns. cut (paired ns) } ∷ rs) col (flat ps) len ts) (sym (after_pairs closing (pairs_up_to m)))
some_at m ps len more (word w) col ts = ap (λ rs. onward rs col (flat ps) len ts) (sym (after_pairs (word w) (pairs_up_to m)))
some_at m ps len more (number ds) col ts =
    odd_number ds (suc m) ps len col ts ∙ ap (λ rs. onward rs col (flat ps ++ value ds ∷ []) len ts) (sym (after_pairs (number ds) (pairs_up_to m)))
some_at m ps len more odd col ts = ap (λ rs. onward rs col (flat ps) len ts) (sym (after_pairs odd (pairs_up_to m)))

pub cut_reads : (m : ℕ) (ps : List (ℕ × ℕ)) (len : ℕ) (ts : List Placed) → finished (cut_form m ps len ts) ≡ read_by (pairs_up_to m) (flat ps) len ts
cut_reads zero ps len [] = ap finished (cut_turn 0 ps len [])
cut_reads zero ps len (t ∷ ts) = ap finished (cut_turn 0 ps len (t ∷ ts)) ∙ none_at ps len t.shape t.column ts
cut_reads (suc m) ps len [] =
    ap finished (cut_turn (suc m) ps len []) ∙ sym (ap (λ rs. meant rs (flat ps) len) (parted (pairs_up_to m)) ∙ meant_prefix opens (inner (pairs_up_to m)) (flat ps) len)
cut_reads (suc m) ps len (t ∷ ts) =
    ap finished (cut_turn (suc m) ps len (t ∷ ts)) ∙ some_at m ps len (λ p ts. cut_reads m (ps ++ p ∷ []) len ts) t.shape t.column ts
