use Rattle.std.specs.Prelude.{◌≡◌, max, drop}
use Rattle.clk_packet.specs.Trace.{sent_by}
use Rattle.clk_lint.specs.Load.{longest_of}
use Rattle.clk_lint.proofs.load.longest_of.Given as goal

-- the longest so far and that of the packets that are left are the longest of all
abbrev pub invariant-loop-number : goal.invariant-loop-number
invariant-loop-number l = max l.longest (longest_of (drop l.number (sent_by l.traces l.sender))) ≡ longest_of (sent_by l.traces l.sender)
