use Rattle.std.proofs.Common.{rules}
use Rattle.clk_drain.proofs.Threads.DeviceSteps.{open-below}
use Rattle.clk_drain.proofs.running.devices.open_devices.Goals as goal
use Rattle.clk_packet.proofs.Callers.Lists.{all-append}

pub loop-device-preserved : goal.loop-device-preserved
loop-device-preserved c = search (rules, open-below, all-append)

pub returns-clause-opened : goal.returns-clause-opened
returns-clause-opened c = search rules
