use Rattle.std.proofs.Common.{◌≡◌, ◌<◌, ℕ, List, inr, ap, ◌∙◌, subst, rules}
use Rattle.std.proofs.lemmas.Result.{err_from_is_err_and}
use Rattle.std.specs.List.{AllByRecursion}
use Rattle.clk_packet.specs.declared.packet.Packet.{Packet}
use Rattle.clk_packet.specs.declared.fault.Fault.TheVariants.{Unsettled}
use Rattle.clk_ruled.specs.PacketLists.{has_packet}
use Rattle.clk_ruled.specs.inside.Marks.{is_marked}
use Rattle.clk_ruled.specs.Queue.{SeatLists, IsSharedOut}
use Rattle.clk_ruled.specs.Settle.{lists_of, all_evicted, accepted_count, lost_count}
use Rattle.clk_ruled.proofs.Settlement.{settles, lost-below, tallies-told}
use Rattle.clk_ruled.proofs.settling.settle.Goals as goal

pub returns-clause-settled : goal.returns-clause-settled
returns-clause-settled c =
    let gathered = c.gather_all.ensures in
    let seats : List SeatLists = lists_of c.args.closed.items in
    let seen : lists_of c.deref.result.now ≡ seats = ap lists_of c.deref.ensures.value ∙ gathered.lists in
    let capacity : c.queue.inside.capacity ≡ c.args.tap.setup.capacity = search rules in
    let marks = c.take_apart.new.marks in
    let marked : (p : Packet) → is_marked marks p ≡ has_packet (all_evicted seats) p =
    search rules in
    settles c.args.tap c.gather_all.new.tap c.args.closed.items _ _ (search rules) c.requires.together.1 gathered.tap gathered.gathered c.stays_within.ensures.accounted
    (search (rules, tallies-told))
    (search rules)
    (search rules)

pub returns-in_err-check_reached-clause-fault : goal.returns-in_err-check_reached-clause-fault
returns-in_err-check_reached-clause-fault c =
    let gathered = c.gather_all.ensures in
    let seen : lists_of c.deref.result.now ≡ lists_of c.args.closed.items = ap lists_of c.deref.ensures.value ∙ gathered.lists in
    let capacity : c.queue.inside.capacity ≡ c.args.tap.setup.capacity = search rules in
    let why = subst (λ (x : List SeatLists × ℕ). (c.in_err-check_reached.field-0.0 ≡ Unsettled c.args.index (accepted_count x.0) x.1) × (0 < lost_count x.0) × (accepted_count x.0 < x.1)) (λ i. (seen i, capacity i)) c.in_err-check_reached.ensures.fault in
    let shared = subst (AllByRecursion IsSharedOut) seen c.in_err-check_reached.ensures.shared in
    let p = err_from_is_err_and c.from_residual.result c.from_residual.ensures.1 in
    rw (p.1, p.2) (inr (why.0, search (rules, lost-below)))
