-- One line: what stores, write-backs, settling, fences and a cut make of it.
use Rattle.std.proofs.Common.{◌≡◌, ℕ, ◌+◌, ◌<◌, ◌≤◌, min, max, cond, eqb, List, [], ◌∷◌, ◌++◌, length, get_or, take, drop, set, sym, refl, ap, ◌∙◌, inl, inr, append_assoc, arith, length-append, length-drop, length-set, take-append-drop, length-take}
use Rattle.std.proofs.lemmas.List.{take_at, take-append-le, length_push, get_or-set_same, get_or-set_other}
use Rattle.std.proofs.lemmas.Bool.{cond-true, cond-false, cases_lt, eq-eqb, ne_eqb, cases_eq}
use Rattle.memory.specs.Model.{Line, written, words_of, settle, push_store, ask, fence_line, cut_line}
use Rattle.memory.specs.Laws.{Count, newest, Survived}
use Rattle.memory.specs.declared.types.Store.{Store}

pub written_append : (ws : List ℕ) (a b : List Store) → written ws (a ++ b) ≡ written (written ws a) b
written_append ws [] b = refl
written_append ws (s ∷ a) b = written_append (set ws s.word s.value) a b

pub length_written : (ws : List ℕ) (ss : List Store) → length (written ws ss) ≡ length ws
length_written ws [] = refl
length_written ws (s ∷ ss) = length_written (set ws s.word s.value) ss ∙ length-set ws s.word s.value

set_newest : (ws : List ℕ) (s : Store) (w : ℕ) → w < length ws → get_or (set ws s.word s.value) w 0 ≡ cond (eqb s.word w) s.value (get_or ws w 0)
set_newest ws s w h =
    elim (cases_eq s.word w) [
      | inl e ↦ ap (λ k. get_or (set ws k s.value) w 0) e ∙ get_or-set_same ws w s.value 0 h ∙ sym (cond-true _ _ _ (eq-eqb _ _ e))
      | inr e ↦ get_or-set_other ws s.word w s.value 0 (λ q. e (sym q)) ∙ sym (cond-false _ _ _ (ne_eqb _ _ e))
    ]

pub written_newest : (ss : List Store) (ws : List ℕ) (w : ℕ) → w < length ws → get_or (written ws ss) w 0 ≡ newest w ss (get_or ws w 0)
written_newest [] ws w h = refl
written_newest (s ∷ ss) ws w h =
    written_newest ss (set ws s.word s.value) w (rw (length-set ws s.word s.value) h) ∙ ap (newest w ss) (set_newest ws s w h)

-- the stores ss were made on a line that held `old`: some of them, the first ones, have settled
pub record Made (old : List ℕ) (ss : List Store) (c : Count) (x : Line) : Type 0 where
  pub done : List Store
  pub all : done ++ x.pending ≡ ss
  pub now : x.settled ≡ written old done
  pub many : c.made ≡ length ss
  pub fits : x.asked ≤ length x.pending
  pub asked : c.asked ≤ length done + x.asked
  pub promised : c.promised ≤ length done

module _ {old : List ℕ} {ss : List Store} {c : Count} {x : Line} (h : Made old ss c x) where
  together : length h.done + length x.pending ≡ length ss
  together = sym (length-append h.done x.pending) ∙ ap length h.all

  pub made_words : words_of x ≡ written old ss
  made_words = ap (λ (ws : List ℕ). written ws x.pending) h.now ∙ sym (written_append old h.done x.pending) ∙ ap (written old) h.all

  pub made_push : (w v : ℕ) → Made old (ss ++ (record { word = w; value = v } ∷ [])) (record { made = c.made + 1; asked = c.asked; promised = c.promised }) (push_store x w v)
  made_push w v =
      let s : Store = record { word = w; value = v } in
      let longer = length_push x.pending s in let long = length_push ss s in
      record {
        done = h.done;
        all = sym (append_assoc h.done x.pending (s ∷ [])) ∙ ap (λ (l : List Store). l ++ (s ∷ [])) h.all;
        now = h.now;
        many = omega (arith, h.many);
        fits = omega (arith, h.fits);
        asked = h.asked;
        promised = h.promised;
      }

  pub made_ask : Made old ss (record { made = c.made; asked = c.made; promised = c.promised }) (ask x)
  made_ask = record {
    done = h.done;
    all = h.all;
    now = h.now;
    many = h.many;
    fits = omega arith;
    asked = omega (arith, together, h.many);
    promised = h.promised;
  }

  first_settled : (n : ℕ) → length (h.done ++ take n x.pending) ≡ length h.done + min n (length x.pending)
  first_settled n = length-append h.done (take n x.pending) ∙ ap (λ k. length h.done + k) (length-take n x.pending)

  settled_all : (n : ℕ) → (h.done ++ take n x.pending) ++ drop n x.pending ≡ ss
  settled_all n = append_assoc h.done (take n x.pending) (drop n x.pending) ∙ ap (λ (l : List Store). h.done ++ l) (take-append-drop n x.pending) ∙ h.all

  settled_now : (n : ℕ) → written x.settled (take n x.pending) ≡ written old (h.done ++ take n x.pending)
  settled_now n = ap (λ (ws : List ℕ). written ws (take n x.pending)) h.now ∙ sym (written_append old h.done (take n x.pending))

  pub made_settle : (n : ℕ) → Made old ss c (settle n x)
  made_settle n =
      let more = first_settled n in let left = length-drop n x.pending in
      record {
        done = h.done ++ take n x.pending;
        all = settled_all n;
        now = settled_now n;
        many = h.many;
        fits = omega (arith, h.fits);
        asked = omega (arith, h.asked);
        promised = omega (arith, h.promised);
      }

  pub made_fence : (n : ℕ) → Made old ss (record { made = c.made; asked = c.asked; promised = c.asked }) (fence_line n x)
  made_fence n =
      let k = max x.asked n in
      let more = first_settled k in let left = length-drop k x.pending in
      record {
        done = h.done ++ take k x.pending;
        all = settled_all k;
        now = settled_now k;
        many = h.many;
        fits = omega arith;
        asked = omega (arith, h.asked, h.fits);
        promised = omega (arith, h.asked, h.fits);
      }

  -- a cut keeps a first part, with all that was promised
  pub made_cut : (n : ℕ) → Survived old ss c.promised (cut_line n x).settled
  made_cut n =
      let kept = h.done ++ take n x.pending in
      let more = first_settled n in
      let first : take (length kept) ss ≡ kept = ap (take (length kept)) (sym (settled_all n)) ∙ take_at kept (drop n x.pending) (length kept) refl in
      let found : (cut_line n x).settled ≡ written old (take (length kept) ss) = settled_now n ∙ ap (written old) (sym first) in
      record {
        kept = length kept;
        at_most = omega (arith, together);
        at_least = omega (arith, h.promised);
        first_part = found;
        in_order = λ before behind s split only seen. elim (cases_lt (length before) (length kept)) [
          | inl later ↦ later
          | inr early ↦ absurd (only (length kept)
              (ap (λ (l : List Store). get_or (written old l) s.word 0) (sym (take-append-le (length kept) before (s ∷ behind) early) ∙ ap (take (length kept)) (sym split))
              ∙ ap (λ (l : List ℕ). get_or l s.word 0) (sym found) ∙ seen))
        ];
      }
