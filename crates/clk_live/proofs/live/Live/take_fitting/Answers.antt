use Rattle.clk_live.proofs.Outlets.{all-same}
use Rattle.clk_live.proofs.live.Live.take_fitting.Goals as goal

pub returns-then-is_full-clause-outlets : goal.returns-then-is_full-clause-outlets
returns-then-is_full-clause-outlets c = all-same c.args.self.now.outlets
