use Rattle.clk_live.proofs.Callers.Sending.{zip_joined}
use Rattle.clk_live_run.specs.inside.Sending.{IsStarted, GaveBack, HasSentAll}
use Rattle.clk_live_run.proofs.Sendings.{sent-so}
use Rattle.clk_live_run.proofs.threads.fn.run_threads.scope.Goals as goal

pub returns : goal.returns
returns g c =
    let traces = c.captures.terms.now.traces.now in (
      c.consume.ensures.consumed,
      zip_joined (IsStarted traces) GaveBack (HasSentAll traces) (sent-so traces) c.captures.senders.items c.in_ok-handles.field-0.items c.in_ok-inlets.inlets.items c.in_ok-handles.ensures.started c.in_ok-inlets.ensures.sent,
      c.consume.ensures.recorded,
    )
