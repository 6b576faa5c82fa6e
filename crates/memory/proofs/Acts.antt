-- Any list of acts on a memory: what each line has come to.
use Rattle.std.proofs.Common.{◌≡◌, ℕ, ◌+◌, ◌<◌, ◌≤◌, Bool, true, false, cond, ◌&&◌, eqb, ltb, List, [], ◌∷◌, ◌++◌, length, get_or, set, replicate, sym, refl, ap, ◌∙◌, subst, subst₂, inl, inr, append_assoc, arith, length-set}
use Rattle.std.proofs.ByRecursion.{All-get_or}
use Rattle.std.proofs.lemmas.List.{append-nil, get_or-set_same, get_or-set_other, get_or_past, get_or-replicate}
use Rattle.std.proofs.lemmas.Bool.{cases_eq, cases_lt, cond_both, cond-true, lt-ltb, le-ltb, eq-eqb, ne_eqb, and_parts, and_from, and_left, and_right, both_ways}
use Rattle.memory.specs.Model.{Line, Mem, blank_line, line_at, has_line, written, words_of, loaded, loaded_line, settle, early, with_line, push_store, stored, ask, written_back, fence_line, cut_line, WholeLine, Whole}
use Rattle.memory.specs.Laws.{Act, Done, acted, after, store_on, made_on, Count, counted, counted_all, stores_of, promised_of, Survived, SettlesInOrder}
use Rattle.memory.specs.Laws.Act.{store, write_back, fence}
use Rattle.memory.specs.declared.types.Store.{Store}
use Rattle.memory.proofs.Each.{length_each, each_at}
use Rattle.memory.proofs.Settling.{Made, written_append, length_written, written_newest, made_words, made_push, made_ask, made_settle, made_fence, made_cut}

pub lines_kept : (a : Act) (ns : List ℕ) (m : Mem) → length (acted a ns m).lines ≡ length m.lines
lines_kept (store l w v) ns m =
    cond_both (has_line m l && ltb w 8) _ _ (λ (x : Mem). length x.lines ≡ length m.lines) (λ _. length_each settle ns _ ∙ length-set m.lines l _) (λ _. refl)
lines_kept (write_back l) ns m =
    cond_both (has_line m l) _ _ (λ (x : Mem). length x.lines ≡ length m.lines) (λ _. length_each settle ns _ ∙ length-set m.lines l _) (λ _. refl)
lines_kept fence ns m = length_each fence_line ns m.lines

pub all_lines_kept : (ds : List Done) (m : Mem) → length (after ds m).lines ≡ length m.lines
all_lines_kept [] m = refl
all_lines_kept (d ∷ ds) m = all_lines_kept ds (acted d.act d.early m) ∙ lines_kept d.act d.early m

module _ (old : List ℕ) (l : ℕ) where
  -- a change of line k, with what settles early after it
  changed_here : (ns : List ℕ) (m : Mem) (y : Line) → l < length m.lines → line_at (early ns (with_line m l y)) l ≡ settle (get_or ns l 0) y
  changed_here ns m y h =
      each_at settle ns (set m.lines l y) l (rw (length-set m.lines l y) h) ∙ ap (settle (get_or ns l 0)) (get_or-set_same m.lines l y blank_line h)

  changed_elsewhere : (ns : List ℕ) (m : Mem) (k : ℕ) (y : Line) → l < length m.lines → (k ≡ l → ⊥) → line_at (early ns (with_line m k y)) l ≡ settle (get_or ns l 0) (line_at m l)
  changed_elsewhere ns m k y h other =
      each_at settle ns (set m.lines k y) l (rw (length-set m.lines k y) h) ∙ ap (settle (get_or ns l 0)) (get_or-set_other m.lines k l y blank_line (λ e. other (sym e)))

  module _ (ss : List Store) (c : Count) (m : Mem) (ns : List ℕ) (h : l < length m.lines) (made : Made old ss c (line_at m l)) where
    -- what is not done to this line leaves its story as it is, but for early settling
    elsewhere : (t : Bool) (k : ℕ) (y : Line) → (t ≡ true → k ≡ l → ⊥) → Made old ss c (line_at (cond t (early ns (with_line m k y)) m) l)
    elsewhere t k y other =
        cond_both t _ _ (λ (x : Mem). Made old ss c (line_at x l))
        (λ e. subst (Made old ss c) (sym (changed_elsewhere ns m k y h (other e))) (made_settle made (get_or ns l 0)))
        (λ _. made)

    stores : (k w v : ℕ) → Made old (ss ++ store_on l (store k w v)) (counted l (store k w v) c) (line_at (stored ns m k w v) l)
    stores k w v =
        let s : Store = record { word = w; value = v } in
        let one : Count = record { made = c.made + 1; asked = c.asked; promised = c.promised } in
        let P : Bool → Type 0 = λ b. Made old (ss ++ cond b (s ∷ []) []) (cond b one c) (line_at (stored ns m k w v) l) in
        let not_here : (eqb k l && ltb w 8) ≡ false → P (eqb k l && ltb w 8) =
        λ e. subst P (sym e) (subst (λ (ls : List Store). Made old ls c (line_at (stored ns m k w v) l)) (sym (append-nil ss))
        (elsewhere (has_line m k && ltb w 8) k (push_store (line_at m k) w v)
        (λ t same. both_ways (eqb k l && ltb w 8) e (and_from _ _ (eq-eqb k l same) (and_parts _ _ t).1)))) in
        elim (cases_eq k l) [
          | inl same ↦ elim (cases_lt w 8) [
            | inl small ↦ subst P (sym (and_from _ _ (eq-eqb k l same) (lt-ltb w 8 small)))
                (subst (λ j. Made old (ss ++ (s ∷ [])) one (line_at (stored ns m j w v) l)) (sym same)
                (subst (λ (x : Mem). Made old (ss ++ (s ∷ [])) one (line_at x l)) (sym (cond-true _ _ _ (and_from _ _ (lt-ltb l _ h) (lt-ltb w 8 small))))
                (subst (Made old (ss ++ (s ∷ [])) one) (sym (changed_here ns m (push_store (line_at m l) w v) h)) (made_settle (made_push made w v) (get_or ns l 0)))))
            | inr large ↦ not_here (and_right _ _ (le-ltb w 8 large))
          ]
          | inr other ↦ not_here (and_left _ _ (ne_eqb k l other))
        ]

    asks : (k : ℕ) → Made old (ss ++ []) (counted l (write_back k) c) (line_at (written_back ns m k) l)
    asks k =
        let all : Count = record { made = c.made; asked = c.made; promised = c.promised } in
        let P : Bool → Type 0 = λ b. Made old ss (cond b all c) (line_at (written_back ns m k) l) in
        subst (λ (ls : List Store). Made old ls (counted l (write_back k) c) (line_at (written_back ns m k) l)) (sym (append-nil ss))
        (elim (cases_eq k l) [
          | inl same ↦ subst P (sym (eq-eqb k l same))
              (subst (λ j. Made old ss all (line_at (written_back ns m j) l)) (sym same)
              (subst (λ (x : Mem). Made old ss all (line_at x l)) (sym (cond-true _ _ _ (lt-ltb l _ h)))
              (subst (Made old ss all) (sym (changed_here ns m (ask (line_at m l)) h)) (made_settle (made_ask made) (get_or ns l 0)))))
          | inr other ↦ subst P (sym (ne_eqb k l other)) (elsewhere (has_line m k) k (ask (line_at m k)) (λ _. other))
        ])

    pub one_act : (a : Act) → Made old (ss ++ store_on l a) (counted l a c) (line_at (acted a ns m) l)
    one_act (store k w v) = stores k w v
    one_act (write_back k) = asks k
    one_act fence =
        let fenced-count : Count = record { made = c.made; asked = c.asked; promised = c.asked } in
        subst₂ (λ (ls : List Store) (x : Line). Made old ls fenced-count x) (sym (append-nil ss)) (sym (each_at fence_line ns m.lines l h)) (made_fence made (get_or ns l 0))

  pub all_acts : (ds : List Done) (ss : List Store) (c : Count) (m : Mem) → l < length m.lines → Made old ss c (line_at m l) → Made old (ss ++ made_on l ds) (counted_all l ds c) (line_at (after ds m) l)
  all_acts [] ss c m h made = subst (λ (ls : List Store). Made old ls c (line_at m l)) (sym (append-nil ss)) made
  all_acts (d ∷ ds) ss c m h made =
      let n = acted d.act d.early m in
      subst (λ (ls : List Store). Made old ls (counted_all l ds (counted l d.act c)) (line_at (after ds n) l)) (append_assoc ss (store_on l d.act) (made_on l ds))
      (all_acts ds (ss ++ store_on l d.act) (counted l d.act c) n (rw (lines_kept d.act d.early m) h) (one_act ss c m d.early h made d.act))

-- where a line begins
begins : (x : Line) → WholeLine x → Made x.settled x.pending (record { made = length x.pending; asked = x.asked; promised = 0 }) x
begins x w = record { done = []; all = refl; now = refl; many = refl; fits = w.asked_pending; asked = omega arith; promised = omega arith }

module _ (m : Mem) (whole : Whole m) where
  story : (ds : List Done) (l : ℕ) → l < length m.lines → Made (line_at m l).settled (stores_of l m ds)
      (counted_all l ds (record { made = length (line_at m l).pending; asked = (line_at m l).asked; promised = 0 })) (line_at (after ds m) l)
  story ds l h = all_acts (line_at m l).settled l ds (line_at m l).pending _ m h (begins (line_at m l) (All-get_or WholeLine m.lines l blank_line h whole))

  words_eight : (l : ℕ) → l < length m.lines → length (words_of (line_at m l)) ≡ 8
  words_eight l h = length_written _ (line_at m l).pending ∙ (All-get_or WholeLine m.lines l blank_line h whole).eight_words

  loads : (ds : List Done) (l : ℕ) → l < length m.lines → loaded_line (after ds m) l ≡ written (words_of (line_at m l)) (made_on l ds)
  loads ds l h = made_words (story ds l h) ∙ written_append _ (line_at m l).pending (made_on l ds)

  no_line : (ds : List Done) (l w : ℕ) → length m.lines ≤ l → loaded (after ds m) l w ≡ 0
  no_line ds l w past =
      ap (λ (x : Line). get_or (words_of x) w 0) (get_or_past (after ds m).lines l blank_line (rw (all_lines_kept ds m) past))
      ∙ elim (cases_lt w 8) [ inl small ↦ get_or-replicate 8 w 0 0 small | inr large ↦ get_or_past (replicate 8 0) w 0 large ]

  no_word : (ds : List Done) (l w : ℕ) → 8 ≤ w → loaded (after ds m) l w ≡ 0
  no_word ds l w large =
      elim (cases_lt l (length m.lines)) [
        | inl h ↦ ap (λ (ws : List ℕ). get_or ws w 0) (loads ds l h)
            ∙ get_or_past _ w 0 (rw (length_written (words_of (line_at m l)) (made_on l ds), words_eight l h) large)
        | inr past ↦ no_line ds l w past
      ]

  pub settles_in_order : SettlesInOrder m
  settles_in_order = record {
    loads_newest = λ ds l w h small.
        ap (λ (ws : List ℕ). get_or ws w 0) (loads ds l h) ∙ written_newest (made_on l ds) (words_of (line_at m l)) w (let e = words_eight l h in omega arith);
    absent_line = no_line;
    absent_word = no_word;
    survives = λ ds ns l h.
        subst (Survived (line_at m l).settled (stores_of l m ds) (promised_of l m ds))
        (sym (ap words_of (each_at cut_line ns (after ds m).lines l (rw (all_lines_kept ds m) h))))
        (made_cut (story ds l h) (get_or ns l 0));
  }
