-- What the seats of senders accepted is no more than what the senders send.
use Rattle.std.proofs.Common.{◌≡◌, ℕ, ◌+◌, ◌≤◌, List, [], ◌∷◌, ◌++◌, length, map, refl, arith, rules}
use Rattle.std.specs.List.{AllByRecursion}
use Rattle.clk_packet.specs.Trace.{sent_by}
use Rattle.clk_packet.specs.declared.packet.Packet.{Packet}
use Rattle.clk_ruled.specs.Rooms.{rooms_in_all}
use Rattle.clk_packet.proofs.Callers.Dealt.{dealt-length}
use Rattle.clk_ruled.specs.Queue.{SeatLists}
use Rattle.clk_ruled.specs.Settle.{accepted_count}
use Rattle.clk_gate.specs.Sent.{sent_in}
use Rattle.clk_drain.specs.Line.{LineLists, seats_in, senders_at}
use Rattle.clk_drain.specs.Closing.{accepted_over, HasSent}

-- Seats with room for just what is sent have so much room in all.
pub rooms-sent : (traces : List (List Packet)) (senders : List ℕ) → rooms_in_all (map (λ (s : ℕ). (s, length (sent_by traces s))) senders) ≡ sent_in traces senders
rooms-sent traces [] = refl
rooms-sent traces (s ∷ senders) = search (rules, (rooms-sent traces senders))

-- Seats that offered what is sent accepted no more.
pub accepted-within : (traces : List (List Packet)) (seats : List SeatLists) → AllByRecursion (HasSent (sent_by traces)) seats → accepted_count seats ≤ sent_in traces (senders_at seats)
accepted-within traces [] h = omega arith
accepted-within traces (c ∷ seats) h = search (rules, dealt-length, (accepted-within traces seats h.1))

accepted-joined : (some more : List SeatLists) → accepted_count (some ++ more) ≡ accepted_count some + accepted_count more
accepted-joined [] more = omega arith
accepted-joined (c ∷ some) more = let rest = accepted-joined some more in omega (arith, rest)

accepted-seats : (lines : List LineLists) → accepted_over lines ≡ accepted_count (seats_in lines)
accepted-seats [] = refl
accepted-seats (l ∷ lines) = search (rules, accepted-joined, (accepted-seats lines))

pub accepted-over-within : (traces : List (List Packet)) (lines : List LineLists) → AllByRecursion (HasSent (sent_by traces)) (seats_in lines) → accepted_over lines ≤ sent_in traces (senders_at (seats_in lines))
accepted-over-within traces lines h = search (rules, accepted-seats, accepted-within)
