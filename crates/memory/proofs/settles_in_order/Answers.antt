use Rattle.memory.proofs.Acts.{settles_in_order}
use Rattle.memory.proofs.settles_in_order.Goals as goal

pub returns : goal.returns
returns g c = settles_in_order (g.M.Memory.model c.args.memory.now) (g.M.Memory.whole c.args.memory.now)
