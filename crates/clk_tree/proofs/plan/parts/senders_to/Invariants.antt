use Rattle.std.proofs.Common.{◌≡◌, ◌++◌, drop}
use Rattle.clk_tree.proofs.plan.parts.senders_to.Given as goal
use Rattle.clk_tree.specs.inside.ByNumber.{senders_to}

abbrev pub invariant-loop-sender : goal.invariant-loop-sender
invariant-loop-sender l = l.numbers.items ++ senders_to (drop l.sender-index l.senders) l.queue ≡ senders_to l.senders l.queue
