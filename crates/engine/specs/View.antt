-- What a run means.
use Rattle.memory.specs.Model.{Mem}
use Rattle.book.specs.Rules.{Rules}
use Rattle.model.specs.Machine.{Machine}
use Rattle.engine.specs.declared.types.Run.{Run}

-- by what its memory and its book mean
abbrev pub view : {M B S : Type 0} → (M → Mem) → (B → Rules S) → (B → S) → Run M B → Machine S
view model rules state r = record {
  status = r.table.status;
  number = r.table.number;
  order = r.table.order;
  stations = r.table.stations;
  memory = model r.memory;
  rules = rules r.book;
  state = state r.book;
}
