use Rattle.std.proofs.Common.{◌≡◌, ◌≤◌, ◌∙◌, ap, [], arith}
use Rattle.clk_packet.specs.Trace.{packets_in}
use Rattle.clk_packet.specs.declared.limits.TheConstants.{MAX_RECORDS}
use Rattle.clk_packet.specs.inside.Lengths.{packets_by}
use Rattle.clk_packet.proofs.LengthLemmas.{row-is, row-count, sent_by-few}
use Rattle.clk_packet.proofs.traces.Traces.count.Goals as goal

pub returns-in-Some-clause-count : goal.returns-in-Some-clause-count
returns-in-Some-clause-count c =
    let is = row-is c.self.inside.senders.items c.deref.result.now c.args.self.now c.args.sender c.from.result c.in-Some.lengths.now c.deref.ensures.value c.self.view_is c.from.ensures (c.in-Some.ensures.lookup.4 (omega arith) []) in
    c.len.ensures ∙ row-count c.args.self.now c.args.sender c.in-Some.lengths.now is

pub returns-in-None-clause-count : goal.returns-in-None-clause-count
returns-in-None-clause-count c =
    let is = row-is c.self.inside.senders.items c.deref.result.now c.args.self.now c.args.sender c.from.result [] c.deref.ensures.value c.self.view_is c.from.ensures (c.in-None.ensures.lookup.4 (omega arith) []) in
    row-count c.args.self.now c.args.sender [] is

pub overflow_cast-result : goal.overflow_cast-result
overflow_cast-result c =
    let is = row-is c.self.inside.senders.items c.deref.result.now c.args.self.now c.args.sender c.from.result c.in-Some.lengths.now c.deref.ensures.value c.self.view_is c.from.ensures (c.in-Some.ensures.lookup.4 (omega arith) []) in
    let count = c.len.ensures ∙ row-count c.args.self.now c.args.sender c.in-Some.lengths.now is in
    let few = sent_by-few c.args.self.now c.args.sender in
    let within : packets_in (packets_by 0 c.self.inside.senders.items) ≤ MAX_RECORDS = c.self.invariant in
    let all : packets_in (packets_by 0 c.self.inside.senders.items) ≡ packets_in c.args.self.now = ap packets_in c.self.view_is in
    omega (arith, count, few, within, all)
