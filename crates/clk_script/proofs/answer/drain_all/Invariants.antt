use Rattle.std.proofs.Common.{◌-◌, length}
use Rattle.clk_report.specs.Devices.{lists_of}
use Rattle.clk_script.proofs.Carrying.DrainLemmas.{IsClosedTo}
use Rattle.clk_script.proofs.answer.drain_all.Given as goal

abbrev pub invariant-loop-alloc : goal.invariant-loop-alloc
invariant-loop-alloc l = IsClosedTo l.fn.script_router l.script_router l.fn.moment (lists_of l.closings.items) l.device

abbrev pub decreases-loop-alloc : goal.decreases-loop-alloc
decreases-loop-alloc l = length l.script_router.router.setup.trees - l.device
