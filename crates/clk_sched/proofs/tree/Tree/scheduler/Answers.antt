use Rattle.std.proofs.Common.{◌≡◌, arith, rules}
use Rattle.clk_sched.specs.Tree.{height}
use Rattle.clk_sched.specs.Built.{row}
use Rattle.clk_sched.proofs.Trees.TreeLemmas.{built-wide, built-high, built-fits, width-row}
use Rattle.clk_sched.proofs.tree.Tree.scheduler.Goals as goal

pub returns-then-len-gt-MAX_INPUTS : goal.returns-then-len-gt-MAX_INPUTS
returns-then-len-gt-MAX_INPUTS c = built-wide _ c.args.children.items (omega arith)

pub returns-then-below-ge-MAX_LEVELS : goal.returns-then-below-ge-MAX_LEVELS
returns-then-below-ge-MAX_LEVELS c = let below : c.highest-below.result ≡ height (row c.args.children.items) = search in built-high _ c.args.children.items (omega arith) (omega arith)

pub returns : goal.returns
returns c = let below : c.highest-below.result ≡ height (row c.args.children.items) = search in built-fits _ c.args.children.items (omega arith) (omega arith)

pub invariant_of-result : goal.invariant_of-result
invariant_of-result c = search (rules, width-row)
