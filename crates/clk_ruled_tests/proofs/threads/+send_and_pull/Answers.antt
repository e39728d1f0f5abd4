use Rattle.std.proofs.Common.{rules, ◌∷◌, ◌++◌, [], List, subst, sym}
use Rattle.clk_ruled.specs.Queue.{SeatLists}
use Rattle.clk_ruled.specs.Closing.{AreClosedOf, AreSeatsOf, IsClosedOf}
use Rattle.clk_ruled_tests.proofs.Closing.{seats-init, closed-more}
use Rattle.clk_ruled_tests.proofs.threads.+send_and_pull.Goals as goal

pub start-requires : goal.start-requires
start-requires g t c = (search rules, (seats-init c.args.queue.now c.pop.new.self.items c.in-Some.seat (subst (AreSeatsOf c.args.queue.now) c.in-Some.ensures.items c.requires.seats)).1)

pub send_and_pull-requires-clause-seats : goal.send_and_pull-requires-clause-seats
send_and_pull-requires-clause-seats g t c κs within = (seats-init c.args.queue.now c.pop.new.self.items c.in-Some.seat (subst (AreSeatsOf c.args.queue.now) c.in-Some.ensures.items c.requires.seats)).0

pub returns-clause-closed : goal.returns-clause-closed
returns-clause-closed g t c =
    subst (λ (seats : List SeatLists). AreClosedOf seats c.push.new.self.items) (sym c.in-Some.ensures.items)
    (subst (AreClosedOf (c.pop.new.self.items ++ c.in-Some.seat ∷ [])) (sym c.in_ok-push.ensures.items)
    (closed-more c.pop.new.self.items c.in-Some.seat c.in_ok-all.all.items c.join.result c.in_ok-all.ensures.closed
    (subst (λ (s : SeatLists). IsClosedOf s c.join.result) c.in_ok-handle.ensures.promise c.join.ensures)))
