use Rattle.std.proofs.Common.{◌≡◌, filter, take}
use Rattle.clk_ruled.specs.inside.Marks.{is_marked}
use Rattle.clk_ruled.proofs.settling.marked_among.Given as goal

abbrev pub invariant-loop-packet : goal.invariant-loop-packet
invariant-loop-packet l = l.marked.items ≡ filter (is_marked l.marks) (take l.packet-index l.packets)
