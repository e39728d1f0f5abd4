use Rattle.std.proofs.Common.{map, arith}
use Rattle.clk_tree.specs.Elements.{planned}
use Rattle.clk_tree.specs.PlanParts.{queued}
use Rattle.clk_tree.proofs.Denoted.PlanLemmas.{kept-devices}
use Rattle.clk_tree.proofs.plan.Plan.devices.Goals as goal

pub overflow_cast-result : goal.overflow_cast-result
overflow_cast-result c =
    let h = kept-devices (map planned c.self.inside.elements.items) c.self.inside.tops.items (map queued c.self.inside.queues.items) c.self.inside.senders.items c.self.invariant in
    let within = h.within in
    let len = c.len.ensures in
    omega arith

pub returns-clause-some : goal.returns-clause-some
returns-clause-some c =
    let h = kept-devices (map planned c.self.inside.elements.items) c.self.inside.tops.items (map queued c.self.inside.queues.items) c.self.inside.senders.items c.self.invariant in
    let some = h.some in
    let len = c.len.ensures in
    omega arith

pub returns-clause-within : goal.returns-clause-within
returns-clause-within c =
    let h = kept-devices (map planned c.self.inside.elements.items) c.self.inside.tops.items (map queued c.self.inside.queues.items) c.self.inside.senders.items c.self.invariant in
    let within = h.within in
    let len = c.len.ensures in
    omega arith
