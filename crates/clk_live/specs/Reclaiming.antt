-- The tokens of the packets that are inside a live router.
use Rattle.std.specs.Prelude.{ℕ, List, [], length, Option, Some, None, slice_get}
use Rattle.std.specs.List.{flat_map, range_with_len, AllZip}
use Rattle.clk_packet.specs.declared.packet.Packet.{Packet}
use Rattle.clk_router.specs.Course.{Course}
use Rattle.clk_router.specs.Events.{Room, Setup, Event}
use Rattle.clk_router.specs.InsideQueues.{inside_of}
use Rattle.clk_live.specs.State.{Seen, IsTokenOf}

-- the packets inside a queue, the next to be emitted first
abbrev pub inside_at : Setup → List Event → ℕ → Option Room → List Packet
inside_at setup events q None = []
inside_at setup events q (Some room) = inside_of setup room.device q events

-- the packets inside all queues, queue by queue
abbrev pub all_inside : Course → List Packet
all_inside c = flat_map (λ q. inside_at c.setup c.events q (slice_get c.setup.queues q)) (range_with_len 0 (length c.setup.queues))

-- these are the tokens that came with the packets inside
abbrev pub AreTokensInside : Seen → List ℕ → Type 0
AreTokensInside s tokens = AllZip (IsTokenOf s.course.setup s.items) (all_inside s.course) tokens
