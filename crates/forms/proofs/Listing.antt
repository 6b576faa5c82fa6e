-- The pairs of a cut, spelled one after the other.
use Rattle.std.proofs.Common.{◌≡◌, ℕ, ◌+◌, ◌<◌, List, [], ◌∷◌, ◌++◌, map, length, get_or, take, sym, ap, ◌∙◌}
use Rattle.std.proofs.lemmas.List.{append-nil, append_assoc, map_push, take_more}
use Rattle.forms.specs.declared.types.Pair.{Pair}
use Rattle.forms.specs.Spoken.{pair_of}
use Rattle.forms.specs.Spelling.{spelled_pair, spelled_pairs}

spelled_push : (ps : List (ℕ × ℕ)) (p : ℕ × ℕ) → spelled_pairs ps ++ spelled_pair p ≡ spelled_pairs (ps ++ p ∷ [])
spelled_push [] p = sym (append-nil (spelled_pair p))
spelled_push (q ∷ ps) p = append_assoc (spelled_pair q) (spelled_pairs ps) (spelled_pair p) ∙ ap (λ bs. spelled_pair q ++ bs) (spelled_push ps p)

abbrev pub so_far : List Pair → ℕ → List ℕ
so_far ps i = spelled_pairs (map pair_of (take i ps))

pub pair_more : (ps : List Pair) (i : ℕ) (d : Pair) → i < length ps → so_far ps i ++ spelled_pair (pair_of (get_or ps i d)) ≡ so_far ps (i + 1)
pair_more ps i d h =
    spelled_push (map pair_of (take i ps)) (pair_of (get_or ps i d))
    ∙ ap spelled_pairs (sym (map_push pair_of (take i ps) (get_or ps i d)) ∙ ap (map pair_of) (sym (take_more ps i d h)))
