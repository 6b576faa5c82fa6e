use Rattle.std.proofs.Common.{◌+◌, length, sym, ◌∙◌, subst, arith, rules}
use Rattle.std.proofs.lemmas.Bool.{cond-true, lt-ltb}
use Rattle.model.specs.Journal.{logs}
use Rattle.recovery.proofs.Onward.{Passed, passed_refused, passed_more}
use Rattle.recovery.proofs.reading.read_order.Goals as goal

pub returns-in_err-update : goal.returns-in_err-update
returns-in_err-update g c =
    let refused = passed_refused _ (logs (g.M.Memory.model c.args.memory.now)) c.args.count c.loop-place.place c.loop-place.order c.loop-place.invariant c.loop-place-test.true _ c.in_err-update.ensures in
    search rules

pub loop-place-preserved : goal.loop-place-preserved
loop-place-preserved g c =
    let R = g.B.Book.rules c.args.book.now in
    let fss = logs (g.M.Memory.model c.args.memory.now) in
    let p = c.loop-place.place in
    let os = c.loop-place.order in
    subst (Passed R fss c.args.count (p + 1)) (sym (c.push.ensures.after ∙ cond-true _ _ _ (lt-ltb (length os) 256 (omega (arith, c.loop-place.invariant.count)))))
    (passed_more R fss c.args.count p os c.loop-place.invariant c.loop-place-test.true c.in_ok-update.update c.in_ok-update.ensures.0 c.in_ok-update.ensures.1)
