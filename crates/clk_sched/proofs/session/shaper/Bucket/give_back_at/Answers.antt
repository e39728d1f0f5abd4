use Rattle.std.proofs.Common.{Some, ap, ◌∙◌, rules}
use Rattle.clk_sched.proofs.Nodes.Asked.{entry}
use Rattle.clk_sched.proofs.Turns.TurnShaper.{given-back, none-given}
use Rattle.clk_sched.proofs.session.shaper.Bucket.give_back_at.Goals as goal

pub returns-in-Shaper : goal.returns-in-Shaper
returns-in-Shaper c =
    let a = c.args.nodes.now in
    given-back a c.args.node c.in-Shaper.bucket c.give_back.new.self (entry a.states.items c.args.node c.index_mut.result.now c.requires c.index_mut.ensures.value ∙ ap Some c.in-Shaper.is) c.give_back.ensures

pub returns-in_default : goal.returns-in_default
returns-in_default c = search (rules, none-given, entry)
