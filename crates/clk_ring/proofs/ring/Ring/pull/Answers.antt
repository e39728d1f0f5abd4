use Rattle.std.proofs.Common.{ap, subst}
use Rattle.circular_buffer.specs.Buffer.{Buffer}
use Rattle.clk_packet.specs.declared.packet.Packet.{Packet}
use Rattle.clk_ring.specs.Queue.{Queue, IsPulled}
use Rattle.clk_ring.proofs.CallsOfQueues.{pulls-front}
use Rattle.clk_ring.proofs.ring.Ring.pull.Goals as goal

pub returns : goal.returns
returns c =
    let as_queue : Buffer Packet → Queue = λ b. record { kind = c.self.inside.kind; capacity = b.capacity; packets = b.items } in
    subst (λ q. IsPulled q c.pop_front.result (as_queue c.pop_front.new.self)) c.self.view_is
    (pulls-front (as_queue c.self.inside.held) (as_queue c.pop_front.new.self) c.pop_front.result c.pop_front.ensures.value (ap as_queue c.pop_front.ensures.items))
