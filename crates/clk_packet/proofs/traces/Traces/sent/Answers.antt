use Rattle.std.proofs.Common.{◌∙◌, ap, sym, [], option_map, arith}
use Rattle.clk_packet.specs.inside.Lengths.{packet_of}
use Rattle.clk_packet.proofs.LengthLemmas.{row-is, row-packet, packet-made}
use Rattle.clk_packet.proofs.traces.Traces.sent.Goals as goal

pub returns-in_err-lengths-clause-packet : goal.returns-in_err-lengths-clause-packet
returns-in_err-lengths-clause-packet c =
    let is = row-is c.self.inside.senders.items c.deref.result.now c.args.self.now c.args.sender c.from.result [] c.deref.ensures.value c.self.view_is c.from.ensures (c.in_err-lengths.ensures.lookup.4 (omega arith) []) in
    rw c.from_residual.ensures (sym (row-packet c.args.self.now c.args.sender c.args.number [] is))

pub returns-in_err-length-clause-packet : goal.returns-in_err-length-clause-packet
returns-in_err-length-clause-packet c =
    let lengths = c.in_ok-lengths.lengths.now in
    let is = row-is c.self.inside.senders.items c.deref.result.now c.args.self.now c.args.sender c.from.result lengths c.deref.ensures.value c.self.view_is c.from.ensures (c.in_ok-lengths.ensures.lookup.4 (omega arith) []) in
    rw c.from_residual-in_err-length.ensures (ap (option_map (packet_of c.args.sender c.args.number)) c.in_err-length.ensures ∙ sym (row-packet c.args.self.now c.args.sender c.args.number lengths is))

pub returns-clause-packet : goal.returns-clause-packet
returns-clause-packet c =
    let lengths = c.in_ok-lengths.lengths.now in
    let is = row-is c.self.inside.senders.items c.deref.result.now c.args.self.now c.args.sender c.from.result lengths c.deref.ensures.value c.self.view_is c.from.ensures (c.in_ok-lengths.ensures.lookup.4 (omega arith) []) in
    packet-made c.args.sender c.args.number c.in_ok-length.length _ _ ∙ ap (option_map (packet_of c.args.sender c.args.number)) c.in_ok-length.ensures
    ∙ sym (row-packet c.args.self.now c.args.sender c.args.number lengths is)
