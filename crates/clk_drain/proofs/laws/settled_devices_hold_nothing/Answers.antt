use Rattle.clk_drain.proofs.Runs.NoHeads.{settled-none}
use Rattle.clk_drain.proofs.laws.settled_devices_hold_nothing.Goals as goal

pub returns : goal.returns
returns c = settled-none c.runs_conserve_packets.ensures.counts
