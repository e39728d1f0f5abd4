use Rattle.std.specs.Prelude.{length}
use Rattle.crossbeam_queue.specs.Passes.{view, IsPassOf, IsSamePass}
use Rattle.clk_ruled.specs.inside.Parts.{IsSeated}
use Rattle.clk_ruled.proofs.open.seats_for.Given as goal

abbrev pub invariant-loop-rest : goal.invariant-loop-rest
invariant-loop-rest l = IsPassOf l.line l.pass × IsSamePass l.fn.pass l.pass × IsSeated (view l.fn.pass).setup l.fn.pass.table_id (view l.pass) l.seats.items l.rest

abbrev pub decreases-loop-rest : goal.decreases-loop-rest
decreases-loop-rest l = length l.rest
