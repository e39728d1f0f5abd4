use Rattle.std.proofs.Common.{◌+◌, ◌-◌, vec_len}
use Rattle.clk_packet.specs.inside.Lengths.{IsWider}
use Rattle.clk_packet.proofs.traces.widen.Given as goal

abbrev pub invariant-loop-alloc : goal.invariant-loop-alloc
invariant-loop-alloc l = IsWider l.fn.senders.items l.senders.items

abbrev pub decreases-loop-alloc : goal.decreases-loop-alloc
decreases-loop-alloc l = l.place + 1 - vec_len l.senders
