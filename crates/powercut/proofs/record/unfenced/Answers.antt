use Rattle.std.proofs.Common.{◌≡◌, sym, ap, ◌∙◌, subst}
use Rattle.memory.specs.Model.{Mem, loaded_line, cut}
use Rattle.memory.specs.Laws.{after}
use Rattle.powercut.specs.Record.{found_in, stores, WholeOrNothing}
use Rattle.powercut.proofs.Marks.{whole_or_nothing}
use Rattle.powercut.proofs.record.unfenced.Goals as goal

pub returns : goal.returns
returns g c blank =
    let m = g.M.Memory.model c.args.memory.now in
    let w = c.write.ensures in
    let k = c.cut.ensures.cut in
    let b = c.args.booking in
    let found : c.find.result ≡ found_in (loaded_line (cut k.0 (after (stores b w.0 w.1 w.2 w.3) m)) 0) =
    c.find.ensures ∙ ap (λ (x : Mem). found_in (loaded_line x 0)) (k.2 ∙ ap (cut k.0) w.4) in
    subst (WholeOrNothing b) (sym found) (whole_or_nothing m (g.M.Memory.whole c.args.memory.now) blank b w.0 w.1 w.2 w.3 k.0)
