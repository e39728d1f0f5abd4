-- The plan and the trace that warnings are found in.
use Rattle.std.specs.Prelude.{List, map}
use Rattle.clk_tree.specs.Plan.{Planned}
use Rattle.clk_tree.specs.Elements.{planned}
use Rattle.clk_lint.specs.declared.judged.Judged.{Judged}
use Rattle.clk_lint.specs.declared.judged.Spot as code
use Rattle.clk_lint.specs.Load.{Trace, trace_of}
use Rattle.clk_lint.specs.Warnings.{Spot}

abbrev pub plan_in : Judged → List Planned
plan_in judged = map planned judged.elements.now

abbrev pub trace_in : Judged → Trace
trace_in judged = trace_of judged.trace

-- an element that warnings are about, as definitions see it
abbrev pub spot_of : code.Spot → Spot
spot_of spot = record { place = spot.place; preferred = spot.preferred }
