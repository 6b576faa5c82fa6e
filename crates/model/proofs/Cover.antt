-- How the entries cover the updates while the updates grow, a log changes, or a cut comes.
use Rattle.std.proofs.Common.{◌≡◌, ℕ, zero, suc, pred, ◌+◌, ◌-◌, ◌<◌, ◌≤◌, max, true, List, [], ◌∷◌, length, get_or, take, set, replicate, Some, None, Option, sym, refl, ap, ◌∙◌, subst, inl, inr, arith}
use Rattle.std.specs.List.{AllByRecursion}
use Rattle.std.proofs.ByRecursion.{All-push, All-set, All-weaker}
use Rattle.std.proofs.lemmas.List.{length-append, length-take, get_or-take}
use Rattle.std.proofs.lemmas.Bool.{cases_lt}
use Rattle.std.proofs.lemmas.Bool.Decides.{nat_tests}
use Rattle.memory.specs.Model.{Line}
use Rattle.model.specs.Journal.{word, Entry, holding_lines, holding, top, tops, lines_fit, line_fits}
use Rattle.model.specs.Machine.{no_update, updates_from}
use Rattle.model.specs.declared.types.Update.{Update}
use Rattle.model.proofs.Reading.{Stood, stands_parts, fit_parts}
use Rattle.model.proofs.Log.{all_same}
use Rattle.model.proofs.Logs.{Part, Parts, Afters, stands_of, no_part, with_entry, AllRest}
use Rattle.model.proofs.Finding.{AllEntries, Agrees, EntryAgrees, Reach, More, Owns, BegunOwns, AllBegun, Covers, Within, all_entries_weaker, reach_more, entries_push, afters_more, afters_agree, afters_reach, tops_grows, top_grows, tops_above}

pub more_same : (G : List (List Entry)) → More G G
more_same G i = omega arith

-- More updates

-- vs begins with us
abbrev Extends : List Update → List Update → Type 0
Extends us vs = (length us ≤ length vs) × ((i : ℕ) → i < length us → get_or vs i no_update ≡ get_or us i no_update)

agrees_longer : (us vs : List Update) → Extends us vs → (l : List ℕ) → Agrees us l → Agrees vs l
agrees_longer us vs h l a = record {
  low = a.low;
  high = omega (arith, a.high, h.0);
  told = a.told ∙ sym (h.1 (pred (word l 0)) (omega (arith, a.low, a.high)));
}

begun_longer : (us vs : List Update) (G H : List (List Entry)) → Extends us vs → More G H → (d : Option Entry) → BegunOwns us G d → BegunOwns vs H d
begun_longer us vs G H h m None a = tt
begun_longer us vs G H h m (Some f) a =
    record { agrees = All-weaker _ _ (agrees_longer us vs h) f.lines a.agrees; before = reach_more G H m _ a.before; own = a.own }

all_longer : (us vs : List Update) (G H : List (List Entry)) → Extends us vs → More G H → (ps : List Part) → AllBegun us G ps → AllBegun vs H ps
all_longer us vs G H h m = All-weaker _ _ (λ p a. begun_longer us vs G H h m p.begun a)

-- the updates may grow
pub covers_longer : (us vs : List Update) (ps : List Part) → length us ≤ length vs →
    ((i : ℕ) → i < length us → get_or vs i no_update ≡ get_or us i no_update) → Covers us ps → Covers vs ps
covers_longer us vs ps h k c = record {
  agree = all_entries_weaker _ _ (λ f a. All-weaker _ _ (agrees_longer us vs (h, k)) f.lines a) (stands_of ps) c.agree;
  reach = c.reach;
  begun = all_longer us vs (stands_of ps) (stands_of ps) (h, k) (more_same (stands_of ps)) ps c.begun;
}

-- One log changes, with the same entries

pub stands_set : (ps : List Part) (i : ℕ) (q : Part) → q.standing ≡ (get_or ps i no_part).standing → stands_of (set ps i q) ≡ stands_of ps
stands_set [] i q e = refl
stands_set (p ∷ ps) zero q e = ap (λ (fs : List Entry). fs ∷ stands_of ps) e
stands_set (p ∷ ps) (suc i) q e = ap (λ (fss : List (List Entry)). p.standing ∷ fss) (stands_set ps i q e)

pub begun_at : (us : List Update) (G : List (List Entry)) (ps : List Part) (i : ℕ) → AllBegun us G ps → BegunOwns us G (get_or ps i no_part).begun
begun_at us G [] i a = tt
begun_at us G (p ∷ ps) zero a = a.0
begun_at us G (p ∷ ps) (suc i) a = begun_at us G ps i a.1

-- a part with the same entries
pub covers_set : (us : List Update) (ps : List Part) (i : ℕ) (q : Part) → q.standing ≡ (get_or ps i no_part).standing →
    BegunOwns us (stands_of ps) q.begun → Covers us ps → Covers us (set ps i q)
covers_set us ps i q e d c =
    let s = sym (stands_set ps i q e) in
    record {
      agree = subst (λ (G : List (List Entry)). AllEntries (EntryAgrees us) G) s c.agree;
      reach = subst (λ (G : List (List Entry)). AllEntries (λ f. Reach G f.place) G) s c.reach;
      begun = subst (λ (G : List (List Entry)). AllBegun us G (set ps i q)) s (All-set _ ps i q d c.begun);
    }

-- One log has its entry written

-- the entries, where part i has f too
abbrev grown_stands : List Part → ℕ → Entry → List (List Entry)
grown_stands ps i f = stands_of (set ps i (with_entry (get_or ps i no_part) f))

pub more_grown : (ps : List Part) (i : ℕ) (f : Entry) → More (stands_of ps) (grown_stands ps i f)
more_grown [] i f j = omega arith
more_grown (p ∷ ps) zero f j = let k = entries_push j p.standing f in simp length-append (omega arith)
more_grown (p ∷ ps) (suc i) f j = let k = more_grown ps i f j in simp length-append (omega arith)

-- what the entry holds is held
held_grown : (ps : List Part) (i : ℕ) (f : Entry) → i < length ps → (j : ℕ) →
    length (holding_lines j f.lines) ≤ length (holding j (grown_stands ps i f))
held_grown [] i f h j = absurd (omega arith)
held_grown (p ∷ ps) zero f h j = let k = entries_push j p.standing f in simp length-append (omega arith)
held_grown (p ∷ ps) (suc i) f h j = let k = held_grown ps i f (omega arith) j in simp length-append (omega arith)

all_grown : (P : Entry → Type 0) (ps : List Part) (i : ℕ) (f : Entry) → P f → AllEntries P (stands_of ps) → AllEntries P (grown_stands ps i f)
all_grown P [] i f x a = tt
all_grown P (p ∷ ps) zero f x a = (All-push P p.standing f a.0 x, a.1)
all_grown P (p ∷ ps) (suc i) f x a = (a.0, all_grown P ps i f x a.1)

-- the place of the new entry is reached
pub reach_grown : (us : List Update) (ps : List Part) (i : ℕ) (f : Entry) → i < length ps → Owns us (stands_of ps) f →
    Reach (grown_stands ps i f) f.place
reach_grown us ps i f h o j low high = elim (cases_lt (f.place - length f.lines) j) [
  | inl x ↦ (let y = o.own j x high in let k = held_grown ps i f h j in omega arith)
  | inr x ↦ (let y = o.before j low x in let k = more_grown ps i f j in omega arith)
]

-- a part with one entry more
pub covers_grown : (us : List Update) (ps : List Part) (i : ℕ) (f : Entry) → i < length ps → Owns us (stands_of ps) f → Covers us ps →
    Covers us (set ps i (with_entry (get_or ps i no_part) f))
covers_grown us ps i f h o c =
    let F = stands_of ps in let G = grown_stands ps i f in
    let m = more_grown ps i f in
    record {
      agree = all_grown (EntryAgrees us) ps i f o.agrees c.agree;
      reach =
          all_grown (λ g. Reach G g.place) ps i f (reach_grown us ps i f h o)
          (all_entries_weaker _ _ (λ g r. reach_more F G m g.place r) F c.reach);
      begun = All-set _ ps i (with_entry (get_or ps i no_part) f) tt (all_longer us us F G (omega arith, λ j l. refl) m ps c.begun);
    }

-- Nothing is being written

none_begun : (us : List Update) (G : List (List Entry)) (ps : List Part) → AllRest ps → AllBegun us G ps
none_begun us G = All-weaker _ _ (λ p e. subst (λ (d : Option Entry). BegunOwns us G d) (sym e) tt)

-- after a cut
pub covers_after : (us : List Update) {ps qs : List Part} → Covers us ps → Afters ps qs → AllRest qs → Covers us qs
covers_after us {ps} {qs} c a z =
    let F = stands_of ps in let G = stands_of qs in
    let m = afters_more a in
    record {
      agree = afters_agree us F a c.agree c.begun;
      reach = afters_reach us F G m a (λ i. omega arith) (all_entries_weaker _ _ (λ f r. reach_more F G m f.place r) F c.reach) c.begun;
      begun = none_begun us G qs z;
    }

-- the same entries at rest
pub covers_same : (us : List Update) (ps qs : List Part) → stands_of qs ≡ stands_of ps → AllRest qs → Covers us ps → Covers us qs
covers_same us ps qs e z c = record {
  agree = subst (λ (G : List (List Entry)). AllEntries (EntryAgrees us) G) (sym e) c.agree;
  reach = subst (λ (G : List (List Entry)). AllEntries (λ f. Reach G f.place) G) (sym e) c.reach;
  begun = none_begun us (stands_of qs) qs z;
}

-- blank logs
no_entries : (P : Entry → Type 0) (n : ℕ) → AllEntries P (stands_of (replicate n no_part))
no_entries P zero = tt
no_entries P (suc n) = (tt, no_entries P n)

pub blank_rests : (n : ℕ) → AllRest (replicate n no_part)
blank_rests n = all_same (λ (p : Part). p.begun ≡ None) n no_part refl

pub covers_blank : (us : List Update) (n : ℕ) → Covers us (replicate n no_part)
covers_blank us n =
    let G = stands_of (replicate n no_part) in
    record { agree = no_entries _ n; reach = no_entries (λ f. Reach G f.place) n; begun = none_begun us G (replicate n no_part) (blank_rests n) }

-- The lines of an entry hold no place above its own

place_fits : (e m mark t : ℕ) (l : List ℕ) → line_fits e m mark t l ≡ true → word l 0 ≤ e
place_fits e m mark t l h = let k : word l 0 ≡ e - t = grind (arith, nat_tests) in omega arith

places_fit : (n e m mark t : ℕ) (ls : List (List ℕ)) → length ls ≡ n → lines_fit n e m mark t ls ≡ true → AllByRecursion (λ l. word l 0 ≤ e) ls
places_fit n e m mark t [] k h = tt
places_fit zero e m mark t (l ∷ ls) k h = absurd (omega arith)
places_fit (suc n) e m mark t (l ∷ ls) k h =
    let p = fit_parts n e m mark t l ls h in
    (place_fits e m mark t l p.0, places_fit n e m mark (t + 1) ls (omega arith) p.1)

stood_within : (owner : ℕ) (f : Entry) → Stood owner f → Within f
stood_within owner f s =
    let l = s.first in
    let p = stands_parts owner l s.others s.stood in
    subst Within (sym s.is) (places_fit (word l 1) (word l 0) (word l 1) (word l 7) 0 (l ∷ s.others) (sym s.long) p.1)

-- entries that stand hold no place above their own
pub parts_within : {r L owner : ℕ} {ps : List Part} {xs : List Line} → Parts r L owner ps xs → AllEntries Within (stands_of ps)
parts_within Parts.none = tt
parts_within (Parts.more {owner} {p} log rest k l e others) =
    (All-weaker (Stood owner) Within (stood_within owner) p.standing k.logged.stood, parts_within others)

-- The first part of the updates that the entries reach

abbrev UpTo : ℕ → Entry → Type 0
UpTo n f = (f.place ≤ n) × Within f

up_to_top : (fs : List Entry) (n k : ℕ) → top n fs ≤ k → AllByRecursion Within fs → AllByRecursion (UpTo k) fs
up_to_top [] n k h a = tt
up_to_top (f ∷ fs) n k h a = ((let x = top_grows fs (max n f.place) in omega arith, a.0), up_to_top fs (max n f.place) k h a.1)

up_to_tops : (fss : List (List Entry)) (n k : ℕ) → tops n fss ≤ k → AllEntries Within fss → AllEntries (UpTo k) fss
up_to_tops [] n k h a = tt
up_to_tops (fs ∷ fss) n k h a = (up_to_top fs n k (let x = tops_grows fss (top n fs) in omega arith) a.0, up_to_tops fss (top n fs) k h a.1)

agrees_take : (us : List Update) (k : ℕ) (l : List ℕ) → Agrees us l → word l 0 ≤ k → Agrees (take k us) l
agrees_take us k l a h =
    let n = length-take k us in
    record { low = a.low; high = omega (arith, a.high); told = a.told ∙ sym (get_or-take k us (pred (word l 0)) no_update (omega (arith, a.low))) }

all_both : {X : Type 0} (P Q T : X → Type 0) → ((x : X) → P x → Q x → T x) → (xs : List X) → AllByRecursion P xs → AllByRecursion Q xs → AllByRecursion T xs
all_both P Q T g [] a b = tt
all_both P Q T g (x ∷ xs) a b = (g x a.0 b.0, all_both P Q T g xs a.1 b.1)

entry_take : (us : List Update) (k : ℕ) (f : Entry) → EntryAgrees us f → UpTo k f → EntryAgrees (take k us) f
entry_take us k f a s =
    all_both (Agrees us) (λ l. word l 0 ≤ f.place) (Agrees (take k us)) (λ l x y. agrees_take us k l x (omega (arith, s.0))) f.lines a s.1

-- they cover the first k updates, where no entry is for a later place
pub covers_take : (us : List Update) (ps : List Part) (k : ℕ) → tops 0 (stands_of ps) ≤ k → AllEntries Within (stands_of ps) → AllRest ps →
    Covers us ps → Covers (take k us) ps
covers_take us ps k h w z c =
    let G = stands_of ps in
    let both = all_both (EntryAgrees us) (UpTo k) (EntryAgrees (take k us)) (entry_take us k) in
    record {
      agree = all_both _ _ _ both G c.agree (up_to_tops G 0 k h w);
      reach = c.reach;
      begun = none_begun (take k us) G ps z;
    }

-- how many updates are found
pub found_length : (fss : List (List Entry)) (i n : ℕ) → length (updates_from fss i n) ≡ n
found_length fss i zero = refl
found_length fss i (suc n) = ap suc (found_length fss (i + 1) n)

-- what is reached is not above the last place
pub reach_top : (F G : List (List Entry)) → More F G → AllEntries Within G → (n : ℕ) → Reach F n → n ≤ tops 0 G
reach_top F G m w zero r = omega arith
reach_top F G m w (suc n) r =
    tops_above (suc n) G 0 w (let a = r (suc n) (omega arith) (omega arith) in let b = m (suc n) in omega arith)
