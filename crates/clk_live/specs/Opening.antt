-- A live router that was opened.
use Rattle.std.specs.Prelude.{◌≡◌, ℕ, List, [], length}
use Rattle.std.specs.List.{AllByRecursion, AllZip}
use Rattle.clk_inlet.specs.Halves.{pushed, popped, fits, AreHalves}
use Rattle.clk_inlet.specs.declared.inlet.Inlet.{Inlet}
use Rattle.clk_inlet.specs.declared.outlet.Outlet.{Outlet}
use Rattle.clk_sched.specs.Keeps.{keeps_nothing}
use Rattle.clk_tree.specs.Plan.{Planned}
use Rattle.clk_router.specs.Course.{IsOpened}
use Rattle.clk_live.specs.State.{LiveState}

-- A live router was opened over a plan, with an inlet for each sender, by place, that has room for so many packets.
pub record IsLiveOpened (plan : List Planned) (room : ℕ) (l : LiveState) (inlets : List Inlet) : Type 0 where
  pub router : IsOpened plan keeps_nothing l.course
  pub places : length l.outlets ≡ length l.course.setup.senders
  pub halves : AllZip AreHalves inlets l.outlets
  pub offered : AllByRecursion (λ (i : Inlet). (pushed i ≡ []) × (fits i ≡ room)) inlets
  pub taken : AllByRecursion (λ (o : Outlet). popped o ≡ []) l.outlets
  pub turn : l.turn ≡ 0
