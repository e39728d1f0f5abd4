use Rattle.clk_live.specs.State.{seen}
use Rattle.clk_live.proofs.SoFar.{taken-none}
use Rattle.clk_live.proofs.live.Live.take_many.Goals as goal

pub returns-clause-taken : goal.returns-clause-taken
returns-clause-taken c = c.fill.ensures.taken (seen c.args.self.now) c.args.taken.now (taken-none (seen c.args.self.now) c.args.taken.now)
