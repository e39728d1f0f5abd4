use Rattle.std.proofs.Common.{◌≡◌, [], rules, arith}
use Rattle.clk_drain.proofs.Threads.Ended.{pairs-of, next-seat, next-queue, next-device, fewer-queues, fewer-devices}
use Rattle.clk_drain.proofs.running.threads.+send_and_pull.Goals as goal

pub start_sending-requires-clause-unused : goal.start_sending-requires-clause-unused
start_sending-requires-clause-unused g t c κs within = search (rules, next-seat)

pub send_and_pull-sent-requires-clause-left : goal.send_and_pull-sent-requires-clause-left
send_and_pull-sent-requires-clause-left g t c κs within = search (rules, next-seat)

pub returns-in-Some-clause-seats : goal.returns-in-Some-clause-seats
returns-in-Some-clause-seats g t c = search (rules, pairs-of)

pub send_and_pull-requires : goal.send_and_pull-requires
send_and_pull-requires g t c = search (rules, fewer-queues, next-queue)

pub returns-in-Some-pop-clause-queues : goal.returns-in-Some-pop-clause-queues
returns-in-Some-pop-clause-queues g t c = search (rules, pairs-of)

pub returns-in-Some-pop-clause-seats : goal.returns-in-Some-pop-clause-seats
returns-in-Some-pop-clause-seats g t c = search rules

pub send_and_pull-requires-in-Some-pop-2 : goal.send_and_pull-requires-in-Some-pop-2
send_and_pull-requires-in-Some-pop-2 g t c =
    let none : c.pop.new.self.items ≡ [] = search rules in
    let fewer = fewer-devices c.args.left.devices c.pop-3.new.self c.args.left.queues c.in-Some-pop-2.its_queues c.args.left.seats c.pop.new.self c.in-Some-pop-2.ensures.items none in
    let less = c.decreases in
    let left = next-device _ _ c.args.left.devices c.pop-3.new.self c.args.left.queues c.in-Some-pop-2.its_queues c.args.left.seats c.pop.new.self c.in-Some-pop-2.ensures.items none c.requires.left in
    λ κs within. (omega (arith, fewer, less), search (rules, left))

pub returns-in-Some-pop-2-clause-devices : goal.returns-in-Some-pop-2-clause-devices
returns-in-Some-pop-2-clause-devices g t c = search (rules, pairs-of)

pub returns-in-Some-pop-2-clause-queues : goal.returns-in-Some-pop-2-clause-queues
returns-in-Some-pop-2-clause-queues g t c = search rules
