-- What the thread of a sender does.
use Rattle.std.specs.Prelude.{◌≡◌, List}
use Rattle.std.specs.declared.thread.PromisedHandle.{PromisedHandle}
use Rattle.clk_packet.specs.declared.packet.Packet.{Packet}
use Rattle.clk_packet.specs.Trace.{sent_by}
use Rattle.clk_inlet.specs.declared.inlet.Inlet.{Inlet}
use Rattle.clk_live.specs.Sending.{HasSent}
use Rattle.clk_live_run.specs.declared.senders.SenderInlet.{SenderInlet}
use Rattle.clk_live_run.specs.declared.threads.SenderEnd.{SenderEnd}
use Rattle.clk_live_run.specs.inside.Consuming.{items_of}

-- A sender sent all that it sends through its inlet.
abbrev pub HasSentAll : List (List Packet) → SenderInlet → Inlet → Type 0
HasSentAll traces sender inlet = HasSent sender.inlet (items_of (sent_by traces sender.number)) inlet

-- The thread of a sender was started.
pub record IsStarted (traces : List (List Packet)) (sender : SenderInlet) (handle : PromisedHandle Inlet SenderEnd) : Type 0 where
  pub traces_are : handle.promise.traces.value ≡ traces
  pub number : handle.promise.number ≡ sender.number
  pub inlet : handle.promise.inlet.value ≡ sender.inlet

-- A thread gave its inlet back.
abbrev pub GaveBack : PromisedHandle Inlet SenderEnd → Inlet → Type 0
GaveBack handle inlet = HasSent handle.promise.inlet.value (items_of (sent_by handle.promise.traces.value handle.promise.number)) inlet
