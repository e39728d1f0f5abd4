use Rattle.std.proofs.Common.{[], ◌∷◌, ◌++◌, sym, subst}
use Rattle.std.specs.List.{AllZip}
use Rattle.clk_live.proofs.Callers.Sending.{zip_push}
use Rattle.clk_live_run.specs.inside.Sending.{GaveBack}
use Rattle.clk_live_run.proofs.threads.join_all.Goals as goal

pub loop-handle-preserved : goal.loop-handle-preserved
loop-handle-preserved g c =
    subst (AllZip GaveBack (c.loop-handle.yielded ++ c.in-Some.handle ∷ [])) (sym c.in_ok-push.ensures.items)
    (zip_push GaveBack c.loop-handle.yielded c.loop-handle.inlets.items c.in-Some.handle c.join.result c.loop-handle.invariant c.join.ensures)
