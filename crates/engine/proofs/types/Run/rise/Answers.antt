use Rattle.engine.proofs.Going.{rise_onward}
use Rattle.engine.specs.View.{view}
use Rattle.engine.proofs.types.Run.rise.Goals as goal

pub returns-clause-lasting : goal.returns-clause-lasting
returns-clause-lasting g c =
    rise_onward (g.B.Book.rules c.args.self.now.book) (view g.M.Memory.model g.B.Book.rules g.B.Book.state c.args.self.now)
    (view g.M.Memory.model g.B.Book.rules g.B.Book.state c.rise_once.new.self) c.rise_once.result c.rise_once.ensures.leaves.0 c.rise_once.ensures.answer c.rise_once.ensures.leaves.2
