use Rattle.std.proofs.Common.{◌≡◌, ◌+◌, Some, ap, ◌∙◌, arith}
use Rattle.clk_sched.specs.declared.session.inputs.Input.TheVariants.{Queue}
use Rattle.clk_sched.proofs.Nodes.Asked.{entry}
use Rattle.clk_sched.proofs.Trees.QueuesFrom.{queue-stands}
use Rattle.clk_sched.proofs.session.nodes.Nodes.idle_from.Goals as goal

pub returns-in-Some-clause-idle : goal.returns-in-Some-clause-idle
returns-in-Some-clause-idle g c i l =
    let table = c.args.self.now.inputs.items in
    let place = entry table c.args.node c.index.result.now c.requires.there c.index.ensures in
    let within = c.idle_from.ensures.within in
    let leaf = c.in-Some.leaf + c.args.first + i in
    let same : c.in-Some.leaf + (c.args.first + i) ≡ leaf = omega arith in
    record {
      leaf = leaf;
      stands = queue-stands table c.args.node (c.args.first + i) c.in-Some.leaf c.index.result.now place c.in-Some.ensures (c.requires.within i (omega (arith, l, within))) ∙ ap (λ n. Some (Queue n)) same;
      gives_none = c.idle_from.ensures.idle i l;
    }
