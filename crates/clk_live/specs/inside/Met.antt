-- Halves that met on one thread.
use Rattle.std.specs.Prelude.{◌≡◌, true}
use Rattle.clk_inlet.specs.Halves.{pushed, popped}
use Rattle.clk_inlet.specs.Items.{has_end}
use Rattle.clk_inlet.specs.declared.inlet.Inlet.{Inlet}
use Rattle.clk_inlet.specs.declared.outlet.Outlet.{Outlet}

-- if the end was popped, all that was pushed was popped
pub record HaveMet (i : Inlet) (o : Outlet) : Type 0 where
  pub all : has_end (popped o) ≡ true → popped o ≡ pushed i
