use Rattle.engine.proofs.Going.{cut_onward}
use Rattle.engine.specs.View.{view}
use Rattle.engine.proofs.types.Run.cut.Goals as goal

pub returns-clause-lasting : goal.returns-clause-lasting
returns-clause-lasting g c =
    cut_onward (g.B.Book.rules c.args.self.book) (view g.M.Memory.model g.B.Book.rules g.B.Book.state c.args.self)
    (g.M.Memory.model c.cut.new.self) c.cut.ensures.cut.0 c.cut.ensures.cut.2
