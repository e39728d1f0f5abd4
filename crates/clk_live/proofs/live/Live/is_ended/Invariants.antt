use Rattle.std.proofs.Common.{◌≡◌, true, take}
use Rattle.std.specs.List.{AllByRecursion}
use Rattle.clk_inlet.specs.Halves.{popped}
use Rattle.clk_inlet.specs.Items.{has_end, IsWhole}
use Rattle.clk_inlet.specs.declared.outlet.Outlet.{Outlet}
use Rattle.clk_live.proofs.live.Live.is_ended.Given as goal

abbrev pub invariant-loop-outlet : goal.invariant-loop-outlet
invariant-loop-outlet l = AllByRecursion (λ (o : Outlet). (has_end (popped o) ≡ true) × IsWhole (popped o)) (take l.outlet-index l.outlet-items)
