use Rattle.std.proofs.Common.{ap, ◌∙◌}
use Rattle.memory.specs.Model.{Mem, loaded_line, written_back, fenced, cut}
use Rattle.powercut.specs.Record.{found_in}
use Rattle.powercut.proofs.Marks.{surely_whole}
use Rattle.powercut.proofs.record.fenced.Goals as goal

pub returns : goal.returns
returns g c blank =
    let w = c.write.ensures in
    let a = c.write_back.ensures.asked in
    let f = c.fence.ensures.fenced in
    let k = c.cut.ensures.cut in
    c.find.ensures
    ∙ ap (λ (x : Mem). found_in (loaded_line x 0)) (k.2 ∙ ap (cut k.0) (f.2 ∙ ap (fenced f.0) (a.2 ∙ ap (λ (x : Mem). written_back a.0 x 0) w.4)))
    ∙ surely_whole (g.M.Memory.model c.args.memory.now) (g.M.Memory.whole c.args.memory.now) blank c.args.booking w.0 w.1 w.2 w.3 a.0 f.0 k.0
