use Rattle.std.proofs.Common.{◌+◌, ap, length, subst, arith, rules}
use Rattle.clk_sched.specs.inside.Tokens.{GoesDown}
use Rattle.clk_sched.proofs.Turns.ShaperRow.{down-first, down-can, down-next, goes-inputs, goes-may, goes-below}
use Rattle.clk_sched.proofs.session.shaper.Bucket.take_down.Goals as goal

pub loop-token-init : goal.loop-token-init
loop-token-init c = down-first c.args.nodes.now c.take_at-token.new.nodes c.args.node c.take_at-token.result c.requires.can_pull c.take_at-token.ensures

pub leads_on-requires : goal.leads_on-requires
leads_on-requires c =
    let may = goes-may c.args.nodes.now c.loop-token.nodes c.args.node c.loop-token.last _ c.loop-token.invariant in
    record { can_pull = may.0; within = may.1 }

pub take_at-token-requires-in-loop-token-clause-there : goal.take_at-token-requires-in-loop-token-clause-there
take_at-token-requires-in-loop-token-clause-there c =
    goes-below c.args.nodes.now c.loop-token.nodes c.args.node c.loop-token.last (c.loop-token.last + 1) _ c.loop-token.invariant (c.leads_on.ensures.stands c.if-leads_on.true)

pub loop-token-preserved : goal.loop-token-preserved
loop-token-preserved c = search (rules, down-next)

pub loop-token-smaller : goal.loop-token-smaller
loop-token-smaller c =
    let down = subst (GoesDown c.args.nodes.now c.loop-token.nodes c.args.node c.loop-token.last) c.loop-token-test.true c.loop-token.invariant in
    let there = (down-can c.args.nodes.now c.loop-token.nodes c.args.node c.loop-token.last (c.loop-token.last + 1) down (c.leads_on.ensures.stands c.if-leads_on.true)).there in
    let same = ap (λ v. length v.items) (goes-inputs c.args.nodes.now c.loop-token.nodes c.args.node c.loop-token.last _ c.loop-token.invariant) in
    omega (arith, there, same)
