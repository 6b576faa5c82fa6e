-- One line: what stores, settling, fences and a cut make of it.
use Rattle.std.proofs.Common.{◌≡◌, ℕ, max, List, [], ◌∷◌, ◌++◌, length, take, drop, sym, refl, ap, ◌∙◌, append_assoc, arith, take-append-drop}
use Rattle.std.proofs.lemmas.List.{take_at, take_all, drop_all}
use Rattle.memory.specs.Model.{Line, written, words_of, settle, push_store, ask, fence_line, cut_line}
use Rattle.memory.specs.declared.types.Store.{Store}
use Rattle.memory.proofs.Settling.{written_append}

-- the stores ss were made on a line that held `old`: some of them, the first ones, have settled, and the others are pending
pub record Stored (old : List ℕ) (ss : List Store) (x : Line) : Type 0 where
  pub done : List Store
  pub all : done ++ x.pending ≡ ss
  pub now : x.settled ≡ written old done

pub stored_none : (x : Line) → x.pending ≡ [] → Stored x.settled [] x
stored_none x e = record { done = []; all = e; now = refl }

module _ {old : List ℕ} {ss : List Store} {x : Line} (h : Stored old ss x) where
  -- one store more
  pub stored_push : (w v : ℕ) → Stored old (ss ++ (record { word = w; value = v } ∷ [])) (push_store x w v)
  stored_push w v = record { done = h.done; all = rw (← h.all, append_assoc h.done) refl; now = h.now }

  pub stored_ask : Stored old ss (ask x)
  stored_ask = record { done = h.done; all = h.all; now = h.now }

  pub stored_settle : (n : ℕ) → Stored old ss (settle n x)
  stored_settle n = record {
    done = h.done ++ take n x.pending;
    all = rw (append_assoc, take-append-drop) h.all;
    now = rw (h.now, written_append) refl;
  }

  pub stored_fence : (n : ℕ) → Stored old ss (fence_line n x)
  stored_fence n = let s = stored_settle (max x.asked n) in record { done = s.done; all = s.all; now = s.now }

  pub stored_words : words_of x ≡ written old ss
  stored_words = rw (h.now, ← written_append, h.all) refl

  -- a cut keeps a first part of the stores
  pub stored_cut : (n : ℕ) → (c : ℕ) × ((cut_line n x).settled ≡ written old (take c ss))
  stored_cut n =
      let s = stored_settle n in
      let c = length s.done in
      (c, s.now ∙ ap (written old) (sym (take_at s.done (drop n x.pending) c refl) ∙ ap (take c) s.all))

  -- where all were asked for, a fence settles all
  pub stored_fenced : x.asked ≡ length x.pending → (n : ℕ) → ((fence_line n x).settled ≡ written old ss) × ((fence_line n x).pending ≡ [])
  stored_fenced a n =
      let k = max x.asked n in
      (ap (written x.settled) (take_all k x.pending (omega arith)) ∙ stored_words, drop_all k x.pending (omega arith))
