use Rattle.std.specs.Prelude.{map}
use Rattle.clk_tree.specs.PlanParts.{number_of}
use Rattle.clk_gate.proofs.Callers.Unknown.{AreKnownBelow}
use Rattle.clk_gate.proofs.known.check_senders.Given as goal

abbrev pub invariant-loop-sender : goal.invariant-loop-sender
invariant-loop-sender l = AreKnownBelow (map number_of l.senders) l.traces l.sender
