use Rattle.std.proofs.Common.{ap, ◌∙◌, rules}
use Rattle.clk_sched.specs.Session.{SessionLists}
use Rattle.clk_drain.proofs.Threads.DeviceSteps.{opened-device}
use Rattle.clk_drain.proofs.running.devices.open_device.Goals as goal

pub returns-clause-opened : goal.returns-clause-opened
returns-clause-opened c =
    let made = c.reserve.ensures.unchanged ∙ c.in_ok-session.ensures.made in
    opened-device c.args.plan.now c.args.traces.now c.args.device _ _ _ c.in_ok-tree.tree (ap (λ (s : SessionLists). s.tree) made) (ap (λ (s : SessionLists). s.log) made) c.in_ok-tree.ensures.tree c.in_ok-tree.ensures.leaves c.in_ok-queues.ensures.opened

pub returns-clause-kept : goal.returns-clause-kept
returns-clause-kept c = search rules
