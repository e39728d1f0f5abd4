-- The shares of each scheduler in a run of a tree.
use Rattle.std.proofs.Common.{ℕ, List, []}
use Rattle.clk_packet.specs.Scheduler.{Scheduler, drr, stride, shaper}
use Rattle.clk_sched.specs.Tree.{Tree, PlacedScheduler, schedulers_of, width}
use Rattle.clk_sched.specs.Turns.{Turn}
use Rattle.clk_sched.specs.Laws.{Obeys}
use Rattle.clk_sched.specs.Laws.Deficit.{next_input, deficit_covers}
use Rattle.clk_sched.specs.Log.{pulls}
use Rattle.clk_sched.specs.Run.{ObeysIn, own_turns}
use Rattle.clk_sched.specs.Service.{Shares, SharesOut}
use Rattle.clk_sched.proofs.Lists.Members.{all-weaker}
use Rattle.clk_sched.proofs.Runs.Allowed.{each-follows, turns-look}
use Rattle.clk_sched.proofs.Shares.DeficitRounds.{goes-by-rounds}
use Rattle.clk_sched.proofs.Shares.DeficitShares.{deficit-shares}
use Rattle.clk_sched.proofs.Shares.ShaperRate.{rate-kept}
use Rattle.clk_sched.proofs.Shares.StrideShares.{stride-shares}

shares : (class : Scheduler) (inputs : ℕ) (turns : List Turn) → Obeys class inputs turns → Shares class inputs turns
shares (drr quanta) inputs turns law =
    let look = turns-look (next_input inputs) (deficit_covers quanta) inputs [] turns (each-follows (drr quanta) inputs turns law) in
    (goes-by-rounds quanta inputs turns look, deficit-shares quanta inputs turns look)
shares (stride tickets) inputs turns law = stride-shares tickets turns (each-follows (stride tickets) inputs turns law)
shares (shaper rate burst) inputs turns law = rate-kept rate burst inputs turns (each-follows (shaper rate burst) inputs turns law)
shares class inputs turns law = tt

pub shares-out : (tree : Tree) → SharesOut tree
shares-out tree log run =
    all-weaker (ObeysIn (pulls log)) (λ (n : PlacedScheduler). Shares n.class (width n.inputs) (own_turns (pulls log) n)) (schedulers_of tree)
    (λ n h. shares n.class (width n.inputs) (own_turns (pulls log) n) h.0) run.below
