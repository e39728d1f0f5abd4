use Rattle.std.specs.Prelude.{take}
use Rattle.clk_packet.specs.Trace.{sent_by}
use Rattle.clk_live.specs.Sending.{HasSent}
use Rattle.clk_live_run.specs.inside.Consuming.{items_of}
use Rattle.clk_live_run.proofs.senders.send_all.Given as goal

abbrev pub invariant-loop-n : goal.invariant-loop-n
invariant-loop-n g l = HasSent l.initial.inlet (items_of (take l.n (sent_by l.traces l.number))) l.inlet
