use Rattle.std.proofs.Common.{[], ◌∷◌, ◌++◌, sym, subst}
use Rattle.std.specs.List.{AllZip}
use Rattle.std.specs.declared.thread.PromisedHandle.{PromisedHandle}
use Rattle.clk_inlet.specs.declared.inlet.Inlet.{Inlet}
use Rattle.clk_live.specs.Sending.{HasSent}
use Rattle.clk_live_tests.specs.declared.returning.Sending.{Sending}
use Rattle.clk_live.proofs.Callers.Sending.{zip_push}
use Rattle.clk_live_tests.proofs.returning.join_all.Goals as goal

abbrev GaveBack : PromisedHandle Inlet Sending → Inlet → Type 0
GaveBack h i = HasSent h.promise.inlet.value h.promise.packets.value.items i

pub loop-handle-preserved : goal.loop-handle-preserved
loop-handle-preserved g c =
    subst (AllZip GaveBack (c.loop-handle.yielded ++ c.in-Some.handle ∷ [])) (sym c.in_ok-push.ensures.items)
    (zip_push GaveBack c.loop-handle.yielded c.loop-handle.inlets.items c.in-Some.handle c.join.result c.loop-handle.invariant c.join.ensures)
