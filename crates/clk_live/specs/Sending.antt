-- Inlets that come back from the threads of their senders.
use Rattle.std.specs.Prelude.{◌≡◌, List, ◌++◌}
use Rattle.clk_inlet.specs.Halves.{offered, AreHalves}
use Rattle.clk_inlet.specs.declared.inlet.Inlet.{Inlet}
use Rattle.clk_inlet.specs.declared.item.Item.{Item}
use Rattle.clk_inlet.specs.declared.outlet.Outlet.{Outlet}

-- These packets were sent through an inlet, in order, and the inlet stayed the other half of its outlet.
pub record HasSent (old : Inlet) (packets : List Item) (new : Inlet) : Type 0 where
  pub offered : offered new ≡ offered old ++ packets
  pub halves : (o : Outlet) → AreHalves old o → AreHalves new o
