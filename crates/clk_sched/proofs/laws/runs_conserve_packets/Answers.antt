use Rattle.clk_sched.proofs.Conservation.Conserved.{conserves-packets}
use Rattle.clk_sched.proofs.Conservation.CameFrom.{makes-nothing}
use Rattle.clk_sched.proofs.Conservation.Counted.{conserves-counts}
use Rattle.clk_sched.proofs.Conservation.FewHeads.{holds-few_heads}
use Rattle.clk_sched.proofs.laws.runs_conserve_packets.Goals as goal

pub returns-clause-loses_nothing : goal.returns-clause-loses_nothing
returns-clause-loses_nothing c = conserves-packets

pub returns-clause-counts : goal.returns-clause-counts
returns-clause-counts c = conserves-counts

pub returns-clause-few_heads : goal.returns-clause-few_heads
returns-clause-few_heads c = holds-few_heads

pub returns-clause-makes_nothing : goal.returns-clause-makes_nothing
returns-clause-makes_nothing c = makes-nothing
