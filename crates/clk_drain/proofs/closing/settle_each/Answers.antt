use Rattle.std.specs.Vec.Iter.{into_iter_items}
use Rattle.std.proofs.lemmas.Result.{err_from_is_err_and}
use Rattle.clk_drain.proofs.Drains.SettleSteps.{unsettled-next}
use Rattle.clk_drain.proofs.closing.settle_each.Goals as goal

pub returns-in_err-more-clause-fault : goal.returns-in_err-more-clause-fault
returns-in_err-more-clause-fault c =
    let p = err_from_is_err_and c.from_residual.result c.from_residual.ensures.1 in
    rw (p.1, p.2) (unsettled-next c.args.lines.items c.loop-line.yielded (into_iter_items c.next.new.self) c.in-Some.line c.loop-line.tallies.items (into_iter_items c.loop-line.line-iterator) _ c.in-Some.ensures.steps.0 c.settle.ensures.together c.in_err-more.ensures.fault c.loop-line.invariant)
