use Rattle.std.proofs.Common.{rules}
use Rattle.clk_router.proofs.Settled.GoesOn.{queues-go_on}
use Rattle.clk_router.proofs.router.Router.queues_go_on.Goals as goal

pub returns : goal.returns
returns c = search (rules, queues-go_on)
