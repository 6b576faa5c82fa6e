-- The lazy memory as a whole: what one record's change makes of it.
use Rattle.std.proofs.Common.{◌≡◌, ℕ, ◌<◌, true, ltb, List, [], ◌∷◌, map, length, get_or, set, replicate, zero, suc, sym, refl, ap, ◌∙◌, ap₂, arith}
use Rattle.std.specs.List.{AllByRecursion}
use Rattle.std.proofs.lemmas.List.{length-map, map-set}
use Rattle.std.proofs.lemmas.Bool.{cond-true, lt-ltb, and_from}
use Rattle.memory.specs.Model.{Line, blank_line, settle, each, early, chosen, push_store, pushed, stored, ask, marked, written_back, fence_line}
use Rattle.memory.specs.Lazy.{line_of, lazy_mem, pending_length, early_count}
use Rattle.memory.specs.declared.types.LineRec.{LineRec}
use Rattle.memory.proofs.Each.{Stays, one_settles}
use Rattle.memory.proofs.Records.{settle_none, early_none}
use Rattle.memory.proofs.Sweeps.{line_read}

-- a record's line never has more than sixteen stores, so none settles early
calm : (r : LineRec) → early_count (line_of r) ≡ 0
calm r = early_none (line_of r) (let e = pending_length r in let c = r.counted in omega arith)

stays : (r : LineRec) → settle (early_count (line_of r)) (line_of r) ≡ line_of r
stays r = ap (λ n. settle n (line_of r)) (calm r) ∙ settle_none (line_of r)

asks : (r : LineRec) → ask (line_of r) ≡ settle (early_count (ask (line_of r))) (ask (line_of r))
asks r = sym (ap (λ n. settle n (ask (line_of r))) (calm r) ∙ settle_none (ask (line_of r)))

all_stay : (rs : List LineRec) → AllByRecursion (Stays early_count) (map line_of rs)
all_stay [] = tt
all_stay (r ∷ rs) = (stays r, all_stay rs)

pub blanked : (n : ℕ) (r : LineRec) → line_of r ≡ blank_line → map line_of (replicate n r) ≡ replicate n blank_line
blanked zero r e = refl
blanked (suc n) r e = ap₂ (λ (x : Line) (xs : List Line). x ∷ xs) e (blanked n r e)

-- a fence settles just what was asked for
pub fence_calm : (rs : List LineRec) → each fence_line [] (map line_of rs) ≡ each fence_line (map early_count (map line_of rs)) (map line_of rs)
fence_calm [] = refl
fence_calm (r ∷ rs) = ap₂ (λ (x : Line) (xs : List Line). x ∷ xs) (ap (λ n. fence_line n (line_of r)) (sym (calm r))) (fence_calm rs)

module _ (rs : List LineRec) (n l : ℕ) where
  abbrev here : Line
  here = get_or (map line_of rs) l blank_line

  changed : (s : LineRec) (y : Line) → line_of s ≡ settle (early_count y) y → lazy_mem (set rs l s) n ≡ early (chosen early_count (record { lines = set (map line_of rs) l y; fences = n })) (record { lines = set (map line_of rs) l y; fences = n })
  changed s y e = ap (λ (xs : List Line). record { lines = xs; fences = n }) (map-set line_of rs l s ∙ ap (set (map line_of rs) l) e ∙ sym (one_settles early_count (map line_of rs) l y (all_stay rs)))

  within : l < length rs → ltb l (length (map line_of rs)) ≡ true
  within h = lt-ltb l _ (rw (length-map rs line_of) h)

  pub stored_there : (w v : ℕ) (r s : LineRec) → w < 8 → l < length rs → line_of s ≡ settle (early_count (push_store (line_of (get_or rs l r)) w v)) (push_store (line_of (get_or rs l r)) w v) →
      lazy_mem (set rs l s) n ≡ stored (chosen early_count (pushed (lazy_mem rs n) l w v)) (lazy_mem rs n) l w v
  stored_there w v r s small h left =
      changed s (push_store here w v) (left ∙ ap (λ (x : Line). settle (early_count (push_store x w v)) (push_store x w v)) (line_read rs l r h))
      ∙ sym (cond-true _ _ _ (and_from _ _ (within h) (lt-ltb w 8 small)))

  pub asked_there : (r s : LineRec) → l < length rs → line_of s ≡ ask (line_of (get_or rs l r)) →
      lazy_mem (set rs l s) n ≡ written_back (chosen early_count (marked (lazy_mem rs n) l)) (lazy_mem rs n) l
  asked_there r s h left =
      changed s (ask here) (left ∙ asks (get_or rs l r) ∙ ap (λ (x : Line). settle (early_count (ask x)) (ask x)) (line_read rs l r h))
      ∙ sym (cond-true _ _ _ (within h))
