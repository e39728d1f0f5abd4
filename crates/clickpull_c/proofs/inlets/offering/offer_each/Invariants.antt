use Rattle.std.proofs.Common.{◌+◌, ◌≤◌, ◌-◌, length}
use Rattle.clk_inlet.specs.Halves.{fits, AreHalves}
use Rattle.clk_inlet.specs.declared.outlet.Outlet.{Outlet}
use Rattle.clickpull_c.specs.Inlets.{AcceptsMany}
use Rattle.clickpull_c.proofs.inlets.offering.offer_each.Given as goal

abbrev pub invariant-loop-done : goal.invariant-loop-done
invariant-loop-done l =
    AcceptsMany l.initial.inlet l.inlet l.items l.done × (fits l.initial.inlet ≤ fits l.inlet + l.done) × ((o : Outlet) → AreHalves l.initial.inlet o → AreHalves l.inlet o)

abbrev pub decreases-loop-done : goal.decreases-loop-done
decreases-loop-done l = length l.items - l.done
