use Rattle.std.proofs.Common.{◌∙◌, arith}
use Rattle.std.proofs.lemmas.Result.{err_from_is_err_and}
use Rattle.clk_script.specs.inside.ScriptRouter.{departure_text}
use Rattle.clk_script.proofs.Texts.PassLemmas.{HasPassed-more, HasPassed-cut, line-alone, pieces-left}
use Rattle.clk_script.proofs.writing.write_departures.Goals as goal

pub returns-in_err-add : goal.returns-in_err-add
returns-in_err-add g c =
    let p = err_from_is_err_and c.from_residual.result c.from_residual.ensures.1 in
    let departures = c.args.departures.now in
    let i = c.loop-departure.departure-index in
    let line = line-alone c.put_departure-start.result c.put_departure-start.new.line c.loop-departure.line (departure_text c.args.several c.args.device c.departure-item.result) c.loop-departure.invariant.room (c.put_departure-start.auto.line ∙ c.loop-departure.invariant.room) c.put_departure-start.ensures.piece in
    let left = pieces-left (departure_text c.args.several c.args.device) departures i c.departure-item.result (omega arith) c.departure-item.is in
    let failed = rw line at c.in_err-add.ensures in
    rw (p.1, p.2) (HasPassed-cut _ _ _ _ _ _ _ _ _ _ _ _ _ _ c.loop-departure.invariant.passed failed left)

pub loop-departure-preserved : goal.loop-departure-preserved
loop-departure-preserved g c =
    let departures = c.args.departures.now in
    let i = c.loop-departure.departure-index in
    let line = line-alone c.put_departure-start.result c.put_departure-start.new.line c.loop-departure.line (departure_text c.args.several c.args.device c.departure-item.result) c.loop-departure.invariant.room (c.put_departure-start.auto.line ∙ c.loop-departure.invariant.room) c.put_departure-start.ensures.piece in
    let left = pieces-left (departure_text c.args.several c.args.device) departures i c.departure-item.result (omega arith) c.departure-item.is in
    let passed = rw line at c.in_ok-add.ensures in
    record { passed = HasPassed-more _ _ _ _ _ _ _ _ _ _ _ _ _ _ c.loop-departure.invariant.passed passed left; room = c.put_departure-start.auto.line ∙ c.loop-departure.invariant.room }
