use Rattle.std.proofs.Common.{◌+◌, IfSome, sym, subst, arith}
use Rattle.clk_sched.specs.inside.Resting.{IsAtRest}
use Rattle.clk_sched.proofs.Nodes.Asked.{entry}
use Rattle.clk_sched.proofs.Nodes.Resting.{rest-more}
use Rattle.clk_sched.proofs.session.nodes.Nodes.are_at_rest.Goals as goal

pub loop-place-preserved : goal.loop-place-preserved
loop-place-preserved c =
    let states = c.args.self.now.states.items in
    let k = c.loop-place.place in
    let low = c.loop-place-test.true in
    let room = c.requires in
    let state = entry states (c.args.node + k) c.index.result.now (omega (arith, low, room)) c.index.ensures in
    rest-more states c.args.node k c.loop-place.invariant (subst (λ s. IfSome s IsAtRest) (sym state) (c.is_at_rest.ensures c.if-not-is_at_rest.false))

pub returns : goal.returns
returns c is y low high = let past = c.loop-place-test.false in c.loop-place.invariant y low (omega (arith, high, past))
