use Rattle.std.proofs.Common.{rules, ap, ◌∙◌}
use Rattle.clk_drain.specs.inside.Opening.{rooms_for}
use Rattle.clk_drain.proofs.Plans.Rooms.{rooms-named, rooms-few}
use Rattle.clk_drain.proofs.running.opening.open_queue.Goals as goal

pub open_keeping-requires-clause-rising : goal.open_keeping-requires-clause-rising
open_keeping-requires-clause-rising c = search (rules, rooms-named)

pub open_keeping-requires-clause-room : goal.open_keeping-requires-clause-room
open_keeping-requires-clause-room c = search (rules, rooms-few)

pub returns-clause-added : goal.returns-clause-added
returns-clause-added c =
    let rooms = c.deref-2.ensures.value ∙ c.in_ok-rooms.ensures.rooms ∙ ap (rooms_for c.args.traces.now) c.deref.ensures.value in record {
      at = search rules;
      tap = c.in_ok-queue.tap;
      seats = c.in_ok-queue.seats;
      opened = search rules;
      queues_are = search rules;
      taps_are = search rules;
      seats_are = search rules;
    }
