use Rattle.std.specs.Prelude.{◌≡◌, map, take}
use Rattle.clk_gate.specs.Sent.{sent_in}
use Rattle.clk_tree.specs.PlanParts.{number_of}
use Rattle.clk_live_run.specs.inside.Counts.{capped}
use Rattle.clk_live_run.proofs.running.count_sent.Given as goal

abbrev pub invariant-loop-sender : goal.invariant-loop-sender
invariant-loop-sender l = l.count ≡ capped (sent_in l.traces (map number_of (take l.sender-index l.senders)))
