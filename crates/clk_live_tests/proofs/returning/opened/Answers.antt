use Rattle.std.proofs.Common.{◌≡◌, List, [], sym, subst}
use Rattle.std.specs.List.{AllByRecursion}
use Rattle.clk_inlet.specs.Halves.{offered}
use Rattle.clk_inlet.specs.declared.inlet.Inlet.{Inlet}
use Rattle.clk_live.proofs.Callers.Sending.{nothing_yet}
use Rattle.clk_live_tests.proofs.returning.opened.Goals as goal

pub returns-clause-none : goal.returns-clause-none
returns-clause-none g c =
    subst (λ (inlets : List Inlet). AllByRecursion (λ (i : Inlet). offered i ≡ []) inlets) (sym c.in_ok-senders.ensures.inlets) (nothing_yet 16 c.in_ok-live.inlets.items c.in_ok-live.ensures.opened.offered)
