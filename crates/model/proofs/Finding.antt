-- What the entries of all logs tell together: a first part of the updates, and no question at a start.
use Rattle.std.proofs.Common.{◌≡◌, ℕ, zero, suc, pred, ◌+◌, ◌-◌, ◌<◌, ◌≤◌, max, true, eqb, List, [], ◌∷◌, ◌++◌, length, get_or, take, drop, Some, None, Option, sym, refl, ap, ◌∙◌, subst, ap₂, inl, inr, arith}
use Rattle.std.specs.List.{AllByRecursion}
use Rattle.std.proofs.ByRecursion.{All-append, All-push, All-weaker}
use Rattle.std.proofs.lemmas.List.{length-append, drop_more}
use Rattle.std.proofs.lemmas.Bool.{cases_Bool, cases_lt, eqb-true, eq-eqb, and_from, cond-true, cond_both}
use Rattle.memory.specs.Model.{Mem, cut}
use Rattle.book.specs.Rules.{Rules, is_update}
use Rattle.model.specs.Journal.{word, Entry, holding_lines, holding_entries, holding, top, tops, last_place, update_in, same_update, agree}
use Rattle.model.specs.Machine.{no_update, update_found, updates_from, found, first_of, place_question, place_questions}
use Rattle.model.specs.declared.types.Update.{Update}
use Rattle.model.specs.declared.types.Refusal.TheVariants.{Disagreement, NotAnUpdate}
use Rattle.model.proofs.Logs.{Part, Afters, stands_of}
use Rattle.model.proofs.Logs.After.{same, grown}
use Rattle.model.proofs.Logs.Afters.{none, more}
use Rattle.model.proofs.Memory.{Memory, memory_cut}

-- what holds of each entry of each log
abbrev pub AllEntries : (Entry → Type 0) → List (List Entry) → Type 0
AllEntries P = AllByRecursion (AllByRecursion P)

pub all_entries_weaker : (P Q : Entry → Type 0) → ((f : Entry) → P f → Q f) → (fss : List (List Entry)) → AllEntries P fss → AllEntries Q fss
all_entries_weaker P Q g fss a = All-weaker (AllByRecursion P) (AllByRecursion Q) (All-weaker P Q g) fss a

-- Lines that hold a place

-- a line tells an update of us
pub record Agrees (us : List Update) (l : List ℕ) : Type 0 where
  pub low : 1 ≤ word l 0
  pub high : word l 0 ≤ length us
  pub told : update_in l ≡ get_or us (pred (word l 0)) no_update

abbrev pub EntryAgrees : List Update → Entry → Type 0
EntryAgrees us f = AllByRecursion (Agrees us) f.lines

-- a line that holds the place i
abbrev Held : List Update → ℕ → List ℕ → Type 0
Held us i l = Agrees us l × (word l 0 ≡ i)

held_lines : (us : List Update) (i : ℕ) (ls : List (List ℕ)) → AllByRecursion (Agrees us) ls → AllByRecursion (Held us i) (holding_lines i ls)
held_lines us i [] a = tt
held_lines us i (l ∷ ls) a =
    let rest = held_lines us i ls a.1 in
    cond_both (eqb (word l 0) i) _ _ (AllByRecursion (Held us i)) (λ h. ((a.0, eqb-true (word l 0) i h), rest)) (λ h. rest)

held_entries : (us : List Update) (i : ℕ) (fs : List Entry) → AllByRecursion (EntryAgrees us) fs → AllByRecursion (Held us i) (holding_entries i fs)
held_entries us i [] a = tt
held_entries us i (f ∷ fs) a = All-append _ _ _ (held_lines us i f.lines a.0) (held_entries us i fs a.1)

held : (us : List Update) (i : ℕ) (fss : List (List Entry)) → AllEntries (EntryAgrees us) fss → AllByRecursion (Held us i) (holding i fss)
held us i [] a = tt
held us i (fs ∷ fss) a = All-append _ _ _ (held_entries us i fs a.0) (held us i fss a.1)

-- What is found

-- all places up to n are held
abbrev pub Reach : List (List Entry) → ℕ → Type 0
Reach fss n = (i : ℕ) → 1 ≤ i → i ≤ n → 1 ≤ length (holding i fss)

found_at : (us : List Update) (i : ℕ) (ls : List (List ℕ)) → 1 ≤ length ls → AllByRecursion (Held us i) ls →
    (update_found ls ≡ get_or us (pred i) no_update) × (i ≤ length us)
found_at us i [] h a = absurd (omega arith)
found_at us i (l ∷ ls) h a = let w = a.0.1 in let t = a.0.0.told in let k = a.0.0.high in (rw (← w) t, omega arith)

found_from : (us : List Update) (fss : List (List Entry)) → AllEntries (EntryAgrees us) fss → (n i : ℕ) → Reach fss (i + n) →
    updates_from fss (i + 1) n ≡ take n (drop i us)
found_from us fss a zero i r = refl
found_from us fss a (suc n) i r =
    let h = found_at us (i + 1) (holding (i + 1) fss) (r (i + 1) (omega arith) (omega arith)) (held us (i + 1) fss a) in
    let p : pred (i + 1) ≡ i = omega arith in
    let t = found_from us fss a n (i + 1) (λ j low high. r j low (omega arith)) in
    rw (drop_more us i no_update (omega arith)) (ap₂ (λ (u : Update) (vs : List Update). u ∷ vs) (h.0 ∙ ap (λ (j : ℕ). get_or us j no_update) p) t)

-- what is found is a first part of the updates
found_is : (us : List Update) (fss : List (List Entry)) → AllEntries (EntryAgrees us) fss → (n : ℕ) → Reach fss n → updates_from fss 1 n ≡ take n us
found_is us fss a n r = found_from us fss a n 0 (λ i low high. r i low (omega arith))

-- where each entry reaches its place, the last place is reached
pub tops_reach : (G : List (List Entry)) (fss : List (List Entry)) (n : ℕ) → AllEntries (λ f. Reach G f.place) fss → Reach G n →
    Reach G (tops n fss)
tops_reach G [] n a r = r
tops_reach G (fs ∷ fss) n a r = tops_reach G fss (top n fs) a.1 (one fs n a.0 r)
  where
    one : (fs : List Entry) (n : ℕ) → AllByRecursion (λ f. Reach G f.place) fs → Reach G n → Reach G (top n fs)
    one [] n a r = r
    one (f ∷ fs) n a r =
        one fs (max n f.place) a.1 (λ i low high. elim (cases_lt n i) [ inl h ↦ a.0 i low (omega arith) | inr h ↦ r i low h ])

-- More entries

-- G holds no fewer lines for any place
abbrev pub More : List (List Entry) → List (List Entry) → Type 0
More F G = (i : ℕ) → length (holding i F) ≤ length (holding i G)

pub reach_more : (F G : List (List Entry)) → More F G → (n : ℕ) → Reach F n → Reach G n
reach_more F G h n r i low high = let a = r i low high in let b = h i in omega arith

pub entries_push : (i : ℕ) (fs : List Entry) (f : Entry) →
    length (holding_entries i (fs ++ (f ∷ []))) ≡ length (holding_entries i fs) + length (holding_lines i f.lines)
entries_push i [] f = rw length-append (omega arith)
entries_push i (g ∷ fs) f = let h = entries_push i fs f in simp length-append (omega arith)

-- an entry that holds its own places, where the places before them are held
pub record Owns (us : List Update) (G : List (List Entry)) (f : Entry) : Type 0 where
  pub agrees : EntryAgrees us f
  pub before : Reach G (f.place - length f.lines)
  pub own : (i : ℕ) → f.place - length f.lines < i → i ≤ f.place → 1 ≤ length (holding_lines i f.lines)

abbrev pub BegunOwns : List Update → List (List Entry) → Option Entry → Type 0
BegunOwns us G None = Unit
BegunOwns us G (Some f) = Owns us G f

-- each entry that is being written is such a one
abbrev pub AllBegun : List Update → List (List Entry) → List Part → Type 0
AllBegun us G = AllByRecursion (λ p. BegunOwns us G p.begun)

-- the entries that stand, and those that are being written, tell the updates us without a gap
pub record Covers (us : List Update) (ps : List Part) : Type 0 where
  pub agree : AllEntries (EntryAgrees us) (stands_of ps)
  pub reach : AllEntries (λ f. Reach (stands_of ps) f.place) (stands_of ps)
  pub begun : AllBegun us (stands_of ps) ps

-- After a cut

-- nothing that stood is lost
pub afters_more : {ps qs : List Part} → Afters ps qs → More (stands_of ps) (stands_of qs)
afters_more none i = omega arith
afters_more (more {p} {q} {ps} {qs} same bs) i = let h = afters_more bs i in simp length-append (omega arith)
afters_more (more {p} {q} {ps} {qs} (grown f e) bs) i =
    let h = afters_more bs i in let k = entries_push i p.standing f in simp length-append (omega arith)

-- what stands tells updates of us
pub afters_agree : (us : List Update) (G : List (List Entry)) {ps qs : List Part} → Afters ps qs → AllEntries (EntryAgrees us) (stands_of ps) →
    AllBegun us G ps → AllEntries (EntryAgrees us) (stands_of qs)
afters_agree us G none a d = tt
afters_agree us G (more same bs) a d = (a.0, afters_agree us G bs a.1 d.1)
afters_agree us G (more {p} (grown f e) bs) a d =
    let o : Owns us G f = rw e at d.0 in
    (All-push _ p.standing f a.0 o.agrees, afters_agree us G bs a.1 d.1)

-- F stood before the cut, G stands after it
pub afters_reach : (us : List Update) (F G : List (List Entry)) → More F G → {ps qs : List Part} → Afters ps qs → More (stands_of qs) G →
    AllEntries (λ f. Reach G f.place) (stands_of ps) → AllBegun us F ps → AllEntries (λ f. Reach G f.place) (stands_of qs)
afters_reach us F G m none g a d = tt
afters_reach us F G m (more {p} {q} {ps} {qs} same bs) g a d =
    let less : More (stands_of qs) G =
    λ i. let h = g i in let k = length-append (holding_entries i p.standing) (holding i (stands_of qs)) in omega arith in
    (a.0, afters_reach us F G m bs less a.1 d.1)
afters_reach us F G m (more {p} {q} {ps} {qs} (grown f e) bs) g a d =
    let o : Owns us F f = rw e at d.0 in
    let less : More (stands_of qs) G =
    λ i. let h = g i in let k = length-append (holding_entries i (p.standing ++ (f ∷ []))) (holding i (stands_of qs)) in omega arith in
    (All-push _ p.standing f a.0 (λ i low high. reach o i low high (g i)), afters_reach us F G m bs less a.1 d.1)
  where
    reach : Owns us F f → (i : ℕ) → 1 ≤ i → i ≤ f.place → length (holding i (stands_of (q ∷ qs))) ≤ length (holding i G) → 1 ≤ length (holding i G)
    reach o i low high h = elim (cases_lt (f.place - length f.lines) i) [
      | inl x ↦ (let y = o.own i x high in let k = entries_push i p.standing f in
          let j = length-append (holding_entries i (p.standing ++ (f ∷ []))) (holding i (stands_of qs)) in omega arith)
      | inr x ↦ reach_more F G m (f.place - length f.lines) o.before i low x
    ]

afters_found : (us : List Update) {ps qs : List Part} → Covers us ps → Afters ps qs →
    updates_from (stands_of qs) 1 (tops 0 (stands_of qs)) ≡ take (tops 0 (stands_of qs)) us
afters_found us {ps} {qs} c a =
    let F = stands_of ps in let G = stands_of qs in
    let m = afters_more a in
    let reach = afters_reach us F G m a (λ i. omega arith) (all_entries_weaker _ _ (λ f r. reach_more F G m f.place r) F c.reach) c.begun in
    found_is us G (afters_agree us F a c.agree c.begun) (tops 0 G) (tops_reach G G 0 reach (λ i low high. absurd (omega arith)))

-- after a cut a first part of the updates is found
pub cut_found : {r L : ℕ} {ps : List Part} {m : Mem} (us : List Update) → Memory r L ps m → Covers us ps → (ns : List ℕ) →
    found (cut ns m) ≡ take (last_place (cut ns m)) us
cut_found us x c ns =
    let y = memory_cut x ns in
    subst (λ (fss : List (List Entry)). updates_from fss 1 (tops 0 fss) ≡ take (tops 0 fss) us) (sym y.3) (afters_found us c y.1)

-- The last place

-- no line of the entry holds a place above the entry's
abbrev pub Within : Entry → Type 0
Within f = AllByRecursion (λ l. word l 0 ≤ f.place) f.lines

held_within : (i : ℕ) (f : Entry) → Within f → 1 ≤ length (holding_lines i f.lines) → i ≤ f.place
held_within i f a h = by f.lines a h
  where
    by : (ls : List (List ℕ)) → AllByRecursion (λ l. word l 0 ≤ f.place) ls → 1 ≤ length (holding_lines i ls) → i ≤ f.place
    by [] b h = absurd (omega arith)
    by (l ∷ ls) b h = elim (cases_Bool (eqb (word l 0) i)) [
      | inl x ↦ (let y = eqb-true (word l 0) i x in let z = b.0 in omega arith)
      | inr x ↦ by ls b.1 (rw x at h)
    ]

pub top_grows : (fs : List Entry) (n : ℕ) → n ≤ top n fs
top_grows [] n = omega arith
top_grows (f ∷ fs) n = let h = top_grows fs (max n f.place) in omega arith

pub tops_grows : (fss : List (List Entry)) (n : ℕ) → n ≤ tops n fss
tops_grows [] n = omega arith
tops_grows (fs ∷ fss) n = let h = tops_grows fss (top n fs) in let k = top_grows fs n in omega arith

top_above : (i : ℕ) (fs : List Entry) (n : ℕ) → AllByRecursion Within fs → 1 ≤ length (holding_entries i fs) → i ≤ top n fs
top_above i [] n a h = absurd (omega arith)
top_above i (f ∷ fs) n a h = elim (cases_lt 0 (length (holding_lines i f.lines))) [
  | inl x ↦ (let y = held_within i f a.0 x in let z = top_grows fs (max n f.place) in omega arith)
  | inr x ↦ top_above i fs (max n f.place) a.1 (let k = length-append (holding_lines i f.lines) (holding_entries i fs) in omega arith)
]

-- a place that is held is not above the last place
pub tops_above : (i : ℕ) (fss : List (List Entry)) (n : ℕ) → AllEntries Within fss → 1 ≤ length (holding i fss) → i ≤ tops n fss
tops_above i [] n a h = absurd (omega arith)
tops_above i (fs ∷ fss) n a h = elim (cases_lt 0 (length (holding_entries i fs))) [
  | inl x ↦ (let y = top_above i fs n a.0 x in let z = tops_grows fss (top n fs) in omega arith)
  | inr x ↦ tops_above i fss (top n fs) a.1 (let k = length-append (holding_entries i fs) (holding i fss) in omega arith)
]

-- No question at a start

same_told : (us : List Update) (i : ℕ) (a b : List ℕ) → Held us i a → Held us i b → same_update a b ≡ true
same_told us i a b p q =
    let e : update_in a ≡ update_in b = p.0.told ∙ ap (λ (k : ℕ). get_or us (pred k) no_update) (p.1 ∙ sym q.1) ∙ sym q.0.told in
    and_from _ _ (eq-eqb _ _ (ap (λ (u : Update). u.station) e))
    (and_from _ _ (eq-eqb _ _ (ap (λ (u : Update). u.call) e))
    (and_from _ _ (eq-eqb _ _ (ap (λ (u : Update). u.op.code) e))
    (and_from _ _ (eq-eqb _ _ (ap (λ (u : Update). u.op.argument) e)) (eq-eqb _ _ (ap (λ (u : Update). u.run) e)))))

all_agree : (us : List Update) (i : ℕ) (l : List ℕ) (ls : List (List ℕ)) → Held us i l → AllByRecursion (Held us i) ls → agree l ls ≡ true
all_agree us i l [] h a = refl
all_agree us i l (k ∷ ls) h a = and_from _ _ (same_told us i l k h a.0) (all_agree us i l ls h a.1)

-- all are updates of the book
abbrev AllUpdates : {S : Type 0} → Rules S → List Update → Type 0
AllUpdates R us = (i : ℕ) → i < length us → is_update (R.sort (get_or us i no_update).op) ≡ true

no_question : {S : Type 0} (R : Rules S) (us : List Update) → AllUpdates R us → (i : ℕ) (ls : List (List ℕ)) → 1 ≤ length ls →
    AllByRecursion (Held us i) ls → place_question R i ls ≡ None
no_question R us u i [] h a = absurd (omega arith)
no_question R us u i (l ∷ ls) h a =
    let g = a.0.0 in
    let low = g.low in let high = g.high in
    let n : is_update (R.sort (update_in l).op) ≡ true =
    ap (λ (v : Update). is_update (R.sort v.op)) g.told ∙ u (pred (word l 0)) (omega arith) in
    ap₂ first_of (cond-true (agree l ls) None (Some (Disagreement i)) (all_agree us i l ls a.0 a.1))
    (cond-true (is_update (R.sort (update_in l).op)) None (Some (NotAnUpdate i)) n)

-- no place gives a question
pub no_questions : {S : Type 0} (R : Rules S) (us : List Update) → AllUpdates R us → (fss : List (List Entry)) → AllEntries (EntryAgrees us) fss →
    (n i : ℕ) → Reach fss (i + n) → place_questions R fss (i + 1) n ≡ None
no_questions R us u fss a zero i r = refl
no_questions R us u fss a (suc n) i r =
    let q = no_question R us u (i + 1) (holding (i + 1) fss) (r (i + 1) (omega arith) (omega arith)) (held us (i + 1) fss a) in
    let t = no_questions R us u fss a n (i + 1) (λ j low high. r j low (omega arith)) in
    ap₂ first_of q t
