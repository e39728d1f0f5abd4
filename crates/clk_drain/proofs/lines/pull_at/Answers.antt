use Rattle.std.proofs.Common.{◌≡◌, false, Some, set, slice_get, rules}
use Rattle.std.specs.List.{AllByRecursion}
use Rattle.clk_drain.specs.Line.{has_line, leaves_of}
use Rattle.clk_drain.specs.inside.Parts.{IsGathered}
use Rattle.clk_drain.proofs.Leaves.Placing.{IsAsked, unanswered, asked-at}
use Rattle.clk_drain.proofs.Leaves.Taking.{AreTaken, taken-at, none-taken}
use Rattle.clk_drain.proofs.lines.pull_at.Given as given
use Rattle.clk_drain.proofs.lines.pull_at.Goals as goal
use Rattle.clk_drain.proofs.lines.pull_at.Goals.{After-lines-1}

-- the line of the leaf was found, and pulled
found : (g : given.Over) (c : After-lines-1 g) → slice_get (leaves_of c.args.lines.now.items) c.in-Some.place ≡ Some c.args.leaf
found g c = search rules

asked : (g : given.Over) (c : After-lines-1 g) → IsAsked c.args.lines.now.items c.args.leaf c.pull.result (set c.args.lines.now.items c.in-Some.place c.pull.new.self)
asked g c = search (rules, asked-at, found)

taken : (g : given.Over) (c : After-lines-1 g) → AllByRecursion IsGathered c.args.lines.now.items → AreTaken c.args.lines.now.items c.args.leaf c.pull.result (set c.args.lines.now.items c.in-Some.place c.pull.new.self)
taken g c =
    taken-at c.args.lines.now.items c.args.leaf c.pull.result c.in-Some.place c.index_mut-line.result.now c.pull.new.self c.requires.rise (found g c) c.index_mut-line.ensures.value c.pull.ensures.pulled c.pull.ensures.within c.pull.ensures.none (asked g c).pulls

pub returns-in-Some-clause-rise : goal.returns-in-Some-clause-rise
returns-in-Some-clause-rise g c = (asked g c).rise

pub returns-in-Some-clause-pulled : goal.returns-in-Some-clause-pulled
returns-in-Some-clause-pulled g c = (asked g c).pulls

pub returns-in-Some-clause-missing : goal.returns-in-Some-clause-missing
returns-in-Some-clause-missing g c none = search (rules, (asked g c))

pub returns-in-Some-clause-takes : goal.returns-in-Some-clause-takes
returns-in-Some-clause-takes g c all = (taken g c all).takes

pub returns-in-None-clause-pulled : goal.returns-in-None-clause-pulled
returns-in-None-clause-pulled g c = search (rules, unanswered)

pub returns-in-None-clause-takes : goal.returns-in-None-clause-takes
returns-in-None-clause-takes g c all =
    let none : has_line c.args.lines.now.items c.args.leaf ≡ false = rw c.as_slice.ensures.value at c.in-None.ensures in (none-taken c.args.lines.now.items c.args.leaf none all).takes
