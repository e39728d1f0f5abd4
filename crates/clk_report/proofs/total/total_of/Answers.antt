use Rattle.std.proofs.Common.{arith}
use Rattle.clk_packet.proofs.Callers.Counts.{bytes-few}
use Rattle.clk_report.proofs.total.total_of.Goals as goal

pub add-requires-clause-bytes : goal.add-requires-clause-bytes
add-requires-clause-bytes c =
    let few = bytes-few c.args.packets.now in
    let so_far = c.loop-packet.invariant.bytes in
    let within = c.packet-item.result.is_within in
    omega (arith, few, so_far, within)
