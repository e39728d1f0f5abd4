use Rattle.std.proofs.Common.{List, ap, ◌∙◌, subst, sym}
use Rattle.clk_ruled.specs.Queue.{SeatLists, setup_of, queue_of}
use Rattle.clk_ruled.specs.Closing.{AreClosedOf}
use Rattle.clk_ruled_tests.proofs.Closing.{opened-own, closed-together}
use Rattle.clk_ruled_tests.proofs.threads.share.Goals as goal

pub run-requires-clause-seats : goal.run-requires-clause-seats
run-requires-clause-seats g c κs within =
    let opened = c.in_ok-queue.ensures.opened in
    opened-own (setup_of c.args.kind c.args.capacity c.args.senders.now) c.in_ok-queue.field-0.queue c.in_ok-queue.field-0.seats.items opened.0 opened.1

pub settle-requires : goal.settle-requires
settle-requires g c =
    let opened = c.in_ok-queue.ensures.opened in
    let ran = c.in_ok-tap.ensures in
    let own = ran.tap.0 ∙ ap (λ t. t.id) opened.2 in
    let with = ran.tap.1 ∙ ap (λ t. t.setup) opened.2 in
    record {
      together = (
        opened.0 ∙ (λ i. queue_of (sym own i) (sym with i)),
        closed-together c.in_ok-tap.tap c.in_ok-queue.field-0.queue (setup_of c.args.kind c.args.capacity c.args.senders.now) c.in_ok-tap.closed.items own with
            (subst (λ (seats : List SeatLists). AreClosedOf seats c.in_ok-tap.closed.items) opened.1 ran.closed),
      );
    }
