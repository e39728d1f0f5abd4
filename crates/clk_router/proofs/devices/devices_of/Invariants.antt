use Rattle.std.proofs.Common.{◌≡◌, map}
use Rattle.clk_router.specs.inside.Parts.{device_made}
use Rattle.clk_router.proofs.devices.devices_of.Given as goal

abbrev pub invariant-loop-tree : goal.invariant-loop-tree
invariant-loop-tree l = l.devices.items ≡ map (device_made l.fn.keeps) l.yielded
