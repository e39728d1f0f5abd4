use Rattle.std.proofs.Common.{List, [], ◌∷◌, ◌++◌, sym, subst}
use Rattle.std.specs.List.{AllZip}
use Rattle.std.specs.declared.thread.PromisedHandle.{PromisedHandle}
use Rattle.clk_inlet.specs.declared.inlet.Inlet.{Inlet}
use Rattle.clk_live.proofs.Callers.Sending.{zip_push}
use Rattle.clk_live_run.specs.declared.threads.SenderEnd.{SenderEnd}
use Rattle.clk_live_run.specs.inside.Sending.{IsStarted}
use Rattle.clk_live_run.proofs.threads.start_all.Goals as goal

pub loop-sender-preserved : goal.loop-sender-preserved
loop-sender-preserved g c =
    let traces = c.args.terms.now.traces.now in
    let started = c.in_ok-start.ensures in
    subst (λ (handles : List (PromisedHandle Inlet SenderEnd)). AllZip (IsStarted traces) (c.loop-sender.yielded ++ c.in-Some.sender ∷ []) handles) (sym c.in_ok-push.ensures.items)
    (zip_push (IsStarted traces) c.loop-sender.yielded c.loop-sender.handles.items c.in-Some.sender c.in_ok-start.field-0 c.loop-sender.invariant
    (record { traces_are = started.traces; number = started.number; inlet = started.inlet }))
