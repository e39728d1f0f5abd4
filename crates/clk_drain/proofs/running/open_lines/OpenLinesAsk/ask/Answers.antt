use Rattle.std.proofs.Common.{set, rules}
use Rattle.clk_drain.proofs.Leaves.Placing.{IsAsked, unanswered, asked-at}
use Rattle.clk_drain.proofs.running.open_lines.OpenLinesAsk.ask.Given as given
use Rattle.clk_drain.proofs.running.open_lines.OpenLinesAsk.ask.Goals as goal

-- the line of the leaf was found, and pulled
asked : (g : given.Over) (c : goal.After-self-1 g) → IsAsked c.args.self.now c.args.leaf c.pull.result (set c.self.inside.each.items c.in-Some.place c.pull.new.self)
asked g c =
    asked-at c.self.inside.each.items c.args.self.now c.args.leaf c.pull.result c.in-Some.place c.index_mut-open_line.result.now c.pull.new.self c.self.view_is c.self.invariant (rw c.as_slice.ensures.value at c.in-Some.ensures) c.index_mut-open_line.ensures.value c.pull.ensures

pub invariant_of-self : goal.invariant_of-self
invariant_of-self g c = (asked g c).rise

pub returns-in-Some-clause-answer : goal.returns-in-Some-clause-answer
returns-in-Some-clause-answer g c = (asked g c).pulls

pub returns-in-Some-clause-missing : goal.returns-in-Some-clause-missing
returns-in-Some-clause-missing g c none = search (rules, (asked g c))

pub returns-in-None-clause-answer : goal.returns-in-None-clause-answer
returns-in-None-clause-answer g c = unanswered c.args.leaf c.args.self.now
