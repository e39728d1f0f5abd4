use Rattle.std.proofs.Common.{◌≡◌, List, [], ◌∷◌, ◌++◌, sym, subst}
use Rattle.std.specs.List.{AllZip}
use Rattle.std.specs.declared.thread.PromisedHandle.{PromisedHandle}
use Rattle.clk_inlet.specs.declared.inlet.Inlet.{Inlet}
use Rattle.clk_live_tests.specs.declared.returning.Sender.{Sender}
use Rattle.clk_live_tests.specs.declared.returning.Sending.{Sending}
use Rattle.clk_live.proofs.Callers.Sending.{zip_push}
use Rattle.clk_live_tests.proofs.returning.start_all.Goals as goal

abbrev Started : Sender → PromisedHandle Inlet Sending → Type 0
Started s h = (h.promise.inlet.value ≡ s.inlet) × (h.promise.packets.value.items ≡ s.packets.items)

pub loop-sender-preserved : goal.loop-sender-preserved
loop-sender-preserved g c =
    subst (λ (handles : List (PromisedHandle Inlet Sending)). AllZip Started (c.loop-sender.yielded ++ c.in-Some.sender ∷ []) handles) (sym c.in_ok-push.ensures.items)
    (zip_push Started c.loop-sender.yielded c.loop-sender.handles.items c.in-Some.sender c.in_ok-start.field-0 c.loop-sender.invariant c.in_ok-start.ensures.started)
