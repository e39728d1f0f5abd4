use Rattle.std.specs.Prelude.{length}
use Rattle.clk_gate.proofs.known.+is_among.Given as goal

abbrev pub decreases-is_among : goal.decreases-is_among
decreases-is_among l = length l.senders.now
