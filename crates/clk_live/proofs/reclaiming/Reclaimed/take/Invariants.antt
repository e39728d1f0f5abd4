use Rattle.std.proofs.Common.{◌≡◌, ◌-◌, length, drop}
use Rattle.std.specs.List.{flat_map}
use Rattle.clk_live.specs.inside.Buffers.{buffer_items}
use Rattle.clk_live.proofs.reclaiming.Reclaimed.take.Given as goal

abbrev pub decreases-loop-self : goal.decreases-loop-self
decreases-loop-self l = length l.self-inside.tokens.items - l.self-inside.queue

abbrev pub invariant-loop-self : goal.invariant-loop-self
invariant-loop-self l = l.fn.self ≡ flat_map buffer_items (drop l.self-inside.queue l.self-inside.tokens.items)
