use Rattle.std.proofs.Common.{◌≡◌, List, subst}
use Rattle.std.specs.declared.thread.PromisedHandle.{PromisedHandle}
use Rattle.clk_inlet.specs.declared.inlet.Inlet.{Inlet}
use Rattle.clk_inlet.specs.declared.item.Item.{Item}
use Rattle.clk_live.specs.Sending.{HasSent}
use Rattle.clk_live_tests.specs.declared.returning.Sender.{Sender}
use Rattle.clk_live_tests.specs.declared.returning.Sending.{Sending}
use Rattle.clk_live.proofs.Callers.Sending.{zip_joined}
use Rattle.clk_live_tests.proofs.returning.fn.run.scope.Goals as goal

abbrev Started : Sender → PromisedHandle Inlet Sending → Type 0
Started s h = (h.promise.inlet.value ≡ s.inlet) × (h.promise.packets.value.items ≡ s.packets.items)

abbrev GaveBack : PromisedHandle Inlet Sending → Inlet → Type 0
GaveBack h i = HasSent h.promise.inlet.value h.promise.packets.value.items i

abbrev Sent : Sender → Inlet → Type 0
Sent s i = HasSent s.inlet s.packets.items i

-- what a thread promised of its handle, it promised of its sender
sent_so : (s : Sender) (h : PromisedHandle Inlet Sending) (i : Inlet) → Started s h → GaveBack h i → Sent s i
sent_so s h i started sent = subst (λ (x : Inlet). HasSent x s.packets.items i) started.0 (subst (λ (packets : List Item). HasSent h.promise.inlet.value packets i) started.1 sent)

pub returns : goal.returns
returns g c =
    (c.take_and_pull.ensures.outlets, zip_joined Started GaveBack Sent sent_so c.captures.senders.items c.in_ok-handles.handles.items c.in_ok-inlets.inlets.items c.in_ok-handles.ensures.started c.in_ok-inlets.ensures.sent)
