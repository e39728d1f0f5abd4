-- Events that can happen over one queue, and events that cannot, which differ in one thing.
use Rattle.std.specs.Prelude.{List, [], ◌∷◌, codes}
use Rattle.clk_packet.specs.declared.packet.Kind.TheVariants.{TailDrop}
use Rattle.clk_packet.specs.declared.packet.Offered.TheVariants.{Accepted}
use Rattle.clk_sched.specs.Tree.{queue}
use Rattle.clk_sched.specs.Examples.Priority.{p0_0, p1_0}
use Rattle.clk_router.specs.Events.{Setup, Event, offered}

-- a queue of two packets, whose one sender has number 0
abbrev pub one_queue : Setup
one_queue = record {
  trees = queue 0 ∷ [];
  queues = record { kind = TailDrop; capacity = 2; device = 0 } ∷ [];
  senders = record { number = 0; queue = 0 } ∷ [];
  names = codes "s" ∷ [];
}

-- sender 0 offers its first packet
abbrev pub sender_offers : List Event
sender_offers = offered p0_0 Accepted ∷ []

-- sender 1, which the setup does not have, offers its first packet
abbrev pub stranger_offers : List Event
stranger_offers = offered p1_0 Accepted ∷ []
