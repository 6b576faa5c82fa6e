-- What a start finds in a memory, or the question that it is refused for.
use Rattle.std.specs.Prelude.{◌≡◌, ℕ, ◌+◌, List, map, Some, None, Ok, Err, Result}
use Rattle.memory.specs.Model.{Mem, loaded}
use Rattle.book.specs.Rules.{Rules}
use Rattle.model.specs.Journal.{Entry, logs, holding}
use Rattle.model.specs.Machine.{place_question, place_questions, update_found, updates_from, found, flagged, fresh_station, start_question}
use Rattle.model.specs.declared.types.Update.{Update}
use Rattle.model.specs.declared.types.Refusal.{Refusal}
use Rattle.order.specs.declared.types.Order.{Order}
use Rattle.recovery.specs.declared.types.Recovered.{Recovered}

-- the update at place i, or the question that the place is refused for
abbrev pub PlaceRead : {S : Type 0} → Rules S → List (List Entry) → ℕ → Result Update Refusal → Type 0
PlaceRead R fss i (Ok u) = (place_question R i (holding i fss) ≡ None) × (u ≡ update_found (holding i fss))
PlaceRead R fss i (Err q) = place_question R i (holding i fss) ≡ Some q

-- the updates at n places from 1 on, all flagged, or the first question that one of them is refused for
abbrev pub OrderRead : {S : Type 0} → Rules S → List (List Entry) → ℕ → Result Order Refusal → Type 0
OrderRead R fss n (Ok o) = (place_questions R fss 1 n ≡ None) × (o ≡ map flagged (updates_from fss 1 n))
OrderRead R fss n (Err q) = place_questions R fss 1 n ≡ Some q

pub record FoundIn {S : Type 0} (R : Rules S) (m : Mem) (x : Recovered) : Type 0 where
  pub accepted : start_question R m ≡ None
  pub run : x.run ≡ loaded m 0 0 + 1
  pub order : x.order ≡ map flagged (found m)
  pub stations : x.stations ≡ map fresh_station (logs m)

abbrev pub Recovers : {S : Type 0} → Rules S → Mem → Result Recovered Refusal → Type 0
Recovers R m (Ok x) = FoundIn R m x
Recovers R m (Err q) = start_question R m ≡ Some q
