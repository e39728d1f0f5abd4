use Rattle.std.proofs.Common.{◌≡◌, ◌^◌, ◌≤◌, [], length}
use Rattle.std.specs.List.{AllByRecursion, AllZip}
use Rattle.clk_inlet.specs.declared.inlet.Inlet.{Inlet}
use Rattle.clk_inlet.specs.declared.outlet.Outlet.{Outlet}
use Rattle.clk_inlet.specs.Halves.{pushed, popped, fits, AreHalves}
use Rattle.clk_live.proofs.opening.halves_of.Given as goal

abbrev pub invariant-loop-sender : goal.invariant-loop-sender
invariant-loop-sender l =
    (l._sender-index ≤ 2 ^ 16)
    × (length l.outlets.items ≡ l._sender-index)
    × AllZip AreHalves l.inlets.items l.outlets.items
    × AllByRecursion (λ (i : Inlet). (pushed i ≡ []) × (fits i ≡ l.room)) l.inlets.items
    × AllByRecursion (λ (o : Outlet). popped o ≡ []) l.outlets.items
