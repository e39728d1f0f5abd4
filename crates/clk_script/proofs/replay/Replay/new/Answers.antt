use Rattle.clk_script.proofs.Carrying.ReplayLemmas.{replay-opened}
use Rattle.clk_script.proofs.replay.Replay.new.Goals as goal

pub invariant_of-result : goal.invariant_of-result
invariant_of-result c =
    let can = replay-opened c.args.plan.now c.requires.answer.0 c.args.answer c.args.again c.requires.answer.1 c.requires.opened c.devices_of_plans_go_alike.ensures in
    (can.0, can.1, c.requires.none)
