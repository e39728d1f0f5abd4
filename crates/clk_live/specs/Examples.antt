-- Worked states of a live router over two devices, before and after takes, pulls and rounds.
use Rattle.std.specs.Prelude.{ℕ, List, [], ◌∷◌, Option, Some}
use Rattle.clk_packet.specs.declared.packet.Packet.{Packet}
use Rattle.clk_packet.specs.declared.packet.Offered.TheVariants as offer
use Rattle.clk_sched.specs.Examples.Priority.{p0_0, p1_0}
use Rattle.clk_inlet.specs.Items.{packet_item}
use Rattle.clk_inlet.specs.declared.item.Item.{Item}
use Rattle.clk_router.specs.Course.{Course}
use Rattle.clk_router.specs.Events.{Event, offered}
use Rattle.clk_router.specs.SettledExamples.{course_of, emits, p0_1, p1_1}
use Rattle.clk_live.specs.declared.pulling.Emitted.{Emitted}
use Rattle.clk_live.specs.declared.taking.OfferOutcome.{OfferOutcome}
use Rattle.clk_live.specs.declared.taking.OfferOutcome.TheVariants.{Accepted}
use Rattle.clk_live.specs.declared.taking.Taken.{Taken}
use Rattle.clk_live.specs.State.{Seen}

-- the packets taken from two senders: two of sender 0, with tokens 7 and 8, and one of sender 1, with token 9
abbrev pub two_and_one : List (List Item)
two_and_one = (packet_item 100 7 ∷ packet_item 100 8 ∷ []) ∷ (packet_item 50 9 ∷ []) ∷ []

-- a state in which these events happened, and these packets were taken from senders 0 and 1
abbrev pub state : List Event → (of_0 of_1 : List Item) → Seen
state events of_0 of_1 = record { course = course_of events; items = of_0 ∷ of_1 ∷ [] }

-- before a packet was taken
abbrev pub nothing_taken : Seen
nothing_taken = state [] [] []

-- the first packet of sender 0 was taken, with token 7
abbrev pub one_taken : Seen
one_taken = state (offered p0_0 offer.Accepted ∷ []) (packet_item 100 7 ∷ []) []

-- the packet was taken, but not offered
abbrev pub one_kept : Seen
one_kept = state [] (packet_item 100 7 ∷ []) []

-- what a take returns
abbrev pub told : Packet → ℕ → OfferOutcome → Taken
told p token outcome = record { packet = p; token = token; outcome = outcome }

-- before the second packet of sender 1 is taken: the first, with token 5, is in its queue
abbrev pub before_eviction : Seen
before_eviction = state (offered p1_0 offer.Accepted ∷ []) [] (packet_item 50 5 ∷ [])

-- the second packet of sender 1 was taken, with token 6, and evicted the first
abbrev pub after_eviction : Seen
after_eviction = state (offered p1_0 offer.Accepted ∷ offered p1_1 (offer.Evicted p1_0) ∷ []) [] (packet_item 50 5 ∷ packet_item 50 6 ∷ [])

-- device 0 emitted the packet that was taken with token 7
abbrev pub one_emitted : Seen
one_emitted = state (offered p0_0 offer.Accepted ∷ emits 0 0 p0_0 ∷ []) (packet_item 100 7 ∷ []) []

-- what a pull returns that emitted the first packet of sender 0 with this token
abbrev pub emitted_with : ℕ → Option Emitted
emitted_with token = Some (record { packet = p0_0; token = token })

-- the queue of sender 0, with room for two packets, holds one
abbrev pub one_held : Course
one_held = course_of (offered p0_0 offer.Accepted ∷ [])

-- the queue of sender 0 holds two packets
abbrev pub two_held : Course
two_held = course_of (offered p0_0 offer.Accepted ∷ offered p0_1 offer.Accepted ∷ [])

-- the queue of sender 0 held two packets, and one was emitted
abbrev pub one_left : Course
one_left = course_of (offered p0_0 offer.Accepted ∷ offered p0_1 offer.Accepted ∷ emits 0 0 p0_0 ∷ [])

-- a round took one packet of each sender
abbrev pub one_of_each : List Taken
one_of_each = told p0_0 7 Accepted ∷ told p1_1 9 Accepted ∷ []

-- a round took two packets of sender 0 and one of sender 1
abbrev pub two_of_first : List Taken
two_of_first = told p0_0 7 Accepted ∷ told p0_1 8 Accepted ∷ told p1_1 9 Accepted ∷ []

-- after the second round: its last packet filled the queue of sender 1
abbrev pub filled : Course
filled = course_of (offered p1_0 offer.Accepted ∷ offered p0_0 offer.Accepted ∷ offered p0_1 offer.Accepted ∷ offered p1_1 offer.Accepted ∷ [])

-- after the second round: its last packet left room in the queue of sender 1, since an earlier packet was emitted
abbrev pub with_room : Course
with_room = course_of (offered p1_0 offer.Accepted ∷ emits 1 0 p1_0 ∷ offered p0_0 offer.Accepted ∷ offered p0_1 offer.Accepted ∷ offered p1_1 offer.Accepted ∷ [])
