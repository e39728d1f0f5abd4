use Rattle.clk_packet.proofs.LengthLemmas.{IsWider-row}
use Rattle.clk_packet.proofs.traces.widen.Goals as goal

pub loop-alloc-preserved : goal.loop-alloc-preserved
loop-alloc-preserved c = rw (c.in_ok-push.ensures.items, c.new.ensures) (IsWider-row _ _ c.loop-alloc.invariant)
