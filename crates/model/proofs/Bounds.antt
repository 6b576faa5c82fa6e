-- The law's bounds: how many places a walk finds unset, and how many lines an entry has.
use Rattle.std.proofs.Common.{◌≡◌, ℕ, zero, suc, pred, ◌≤◌, true, leb, List, [], ◌∷◌, length, get_or, take, replicate, Option, arith}
use Rattle.std.proofs.lemmas.List.{length-take}
use Rattle.std.proofs.ByRecursion.{All-from_get_or, All-map}
use Rattle.std.proofs.lemmas.Bool.{leb-true, and_parts, cond_both}
use Rattle.std.specs.List.{AllByRecursion}
use Rattle.memory.specs.Model.{Mem}
use Rattle.model.specs.Journal.{station_count, max_lines, word, within, begins, stands, Entry, entries, log_length, log_of, log_entries, stations}
use Rattle.model.specs.Machine.{idle_station}
use Rattle.model.specs.History.{Waiting}
use Rattle.model.specs.Law.{bounded_phase, bounded_query, bounded_call, bounded_entries}
use Rattle.model.specs.declared.types.Update.{Update}
use Rattle.model.specs.declared.types.Node.{Node}
use Rattle.model.specs.declared.types.Phase.{Phase}
use Rattle.model.specs.declared.types.Phase.TheVariants.{Look, Place, Walk, Write, Fence, Flag, Answer}
use Rattle.model.specs.declared.types.QueryPhase.{QueryPhase}
use Rattle.model.specs.declared.types.QueryPhase.TheVariants as query
use Rattle.model.specs.declared.types.Call.{Call}
use Rattle.model.specs.declared.types.Call.TheVariants as calls
use Rattle.model.specs.declared.types.Station.{Station}
use Rattle.model.proofs.Sound.{stand_phase, stand_query, stand_call, Sound}
use Rattle.model.proofs.Steps.{apart_few, away_few}

-- Stations

phase_bounded : (o : List Node) (v : Update) (p : Phase) → stand_phase o v p → bounded_phase p
phase_bounded o v Look h = tt
phase_bounded o v (Place n) h = tt
phase_bounded o v (Walk p u) h = apart_few o p u h.1
phase_bounded o v (Write own m t) h = (h.1, h.2)
phase_bounded o v (Fence own m) h = (h.1, h.2)
phase_bounded o v (Flag own) h = tt
phase_bounded o v (Answer own) h = tt

query_bounded : (o : List Node) (s : ℕ) (p : QueryPhase) → 1 ≤ s → s ≤ station_count → stand_query o s p → bounded_query p
query_bounded o s query.Look a b h = tt
query_bounded o s (query.Walk p u) a b h = away_few o s p u a b h.1 h.2
query_bounded o s (query.Answer p) a b h = tt

call_bounded : (num s : ℕ) (o : List Node) (g : ℕ) (c : Call) → 1 ≤ s → s ≤ station_count → stand_call num s o g c → bounded_call c
call_bounded num s o g calls.Idle a b h = tt
call_bounded num s o g (calls.Update op p) a b h = phase_bounded o _ p h.1
call_bounded num s o g (calls.Query op p) a b h = query_bounded o s p a b h

-- the stations of a sound run, and of a shut one
pub stations_bounded : {num : ℕ} {o : List Node} {xs : List Station} {us : List Update} {ws : List (Option Waiting)} → Sound num o xs us ws →
    AllByRecursion (λ x. bounded_call x.call) xs
stations_bounded {num} {o} {xs} z = All-from_get_or (λ x. bounded_call x.call) xs (idle_station 0)
    (λ i h. call_bounded num (suc i) o (get_or xs i (idle_station 0)).given (get_or xs i (idle_station 0)).call (omega arith) (omega (arith, z.many))
    (z.stands (suc i) (omega arith) (omega (arith, z.many))))

pub idle_bounded : (n : ℕ) → AllByRecursion (λ x. bounded_call x.call) (replicate n (idle_station 0))
idle_bounded zero = tt
idle_bounded (suc n) = (tt, idle_bounded n)

-- Entries

-- one to eight lines
abbrev Few : Entry → Type 0
Few e = (1 ≤ length e.lines) × (length e.lines ≤ max_lines)

entries_bounded : (owner skip : ℕ) (ls : List (List ℕ)) → AllByRecursion Few (entries owner skip ls)
entries_bounded owner zero [] = tt
entries_bounded owner (suc skip) [] = tt
entries_bounded owner (suc skip) (l ∷ ls) = entries_bounded owner skip ls
entries_bounded owner zero (l ∷ ls) = cond_both (stands owner (l ∷ ls)) _ [] (AllByRecursion Few) (λ e. (few e, entries_bounded owner (pred (word l 1)) ls))
    (λ e. tt)
  where
    few : stands owner (l ∷ ls) ≡ true → (1 ≤ length (take (word l 1) (l ∷ ls))) × (length (take (word l 1) (l ∷ ls)) ≤ max_lines)
    few e =
        let b = (and_parts (begins owner l) _ e).0 in
        let w = (and_parts (within 1 (word l 1) max_lines) _ b).0 in
        let k = and_parts (leb 1 (word l 1)) (leb (word l 1) max_lines) w in
        let low = leb-true 1 (word l 1) k.0 in
        let high = leb-true (word l 1) max_lines k.1 in
        let long = length-take (word l 1) (l ∷ ls) in (omega arith, omega arith)

pub memory_bounded : (m : Mem) → bounded_entries m
memory_bounded m = All-map (AllByRecursion Few) (log_entries m) stations
    (All-from_get_or (λ s. AllByRecursion Few (log_entries m s)) stations 0
    (λ i h. entries_bounded (get_or stations i 0) 0 (log_of m (log_length m) (get_or stations i 0))))
