-- What contracts see of a live router: the course of its router, its outlets, and the token of each packet that was taken.
use Rattle.std.specs.Prelude.{◌≡◌, ℕ, List, [], ◌++◌, map, Some, slice_get, nat_lt, if◌then◌else◌, length}
use mathlib.Core.List.{IsPrefix}
use Rattle.std.specs.List.{AllZip}
use Rattle.std.proofs.Common.{refl}
use Rattle.std.specs.Coded.{Coded, code_by, coded×, coded_ℕ, coded_list}
use Rattle.clk_packet.specs.declared.packet.Packet.{Packet}
use Rattle.rtrb.specs.Fifo.{Allowed}
use Rattle.clk_inlet.specs.Halves.{popped, taken, seen as waiting, AreHalves}
use Rattle.clk_inlet.specs.Items.{packet_item, MayFollow}
use Rattle.clk_inlet.specs.declared.inlet.Inlet.{Inlet}
use Rattle.clk_inlet.specs.declared.item.Item.{Item}
use Rattle.clk_inlet.specs.declared.outlet.Outlet.{Outlet}
use Rattle.clk_inlet.specs.contracts.outlet.Outlet.{the_row as outlet_row}
use Rattle.clk_router.specs.Course.{Course, sender_at}
use Rattle.clk_router.specs.Events.{Setup}
use Rattle.clk_router.specs.Stored.{course_code}

-- a live router as contracts see it: the course of its router, the outlet of each sender, by place, and where the next round starts
pub record LiveState : Type 0 where
  pub course : Course
  pub outlets : List Outlet
  pub turn : ℕ

-- how the logic stores the state of a live router
abbrev pub live_code : Coded LiveState
live_code =
    code_by (Course × (List Outlet × ℕ)) (coded× course_code (coded× (coded_list outlet_row.coded) coded_ℕ)) (λ l. (l.course, (l.outlets, l.turn)))
    (λ t. record { course = t.0; outlets = t.1.0; turn = t.1.1 }) (λ l. refl)

-- what calls change: the course, and the packets that were taken from each sender's inlet, oldest first, by the senders' places
pub record Seen : Type 0 where
  pub course : Course
  pub items : List (List Item)

-- the part of a live router's state that its calls change
abbrev pub seen : LiveState → Seen
seen l = record { course = l.course; items = map taken l.outlets }

-- The token came with this packet: the packet's number is its place among the packets that were taken from its sender's inlet.
pub record IsTokenOf (setup : Setup) (items : List (List Item)) (p : Packet) (token : ℕ) : Type 0 where
  pub place : ℕ
  pub its_items : List Item
  pub sender : sender_at setup place ≡ Some p.sender
  pub its : slice_get items place ≡ Some its_items
  pub item : slice_get its_items p.number ≡ Some (packet_item p.length token)

-- the place of the sender at which the next round starts
abbrev pub starts_at : LiveState → ℕ
starts_at l = if nat_lt l.turn (length l.outlets) then l.turn else 0

-- An outlet went on: what was popped is kept, in order, and what was seen in the ring still comes next. It is still the other half of its
-- inlet.
pub record GoesOn (old new : Outlet) : Type 0 where
  pub halves : (i : Inlet) → AreHalves i old → AreHalves i new
  pub in_order : Allowed MayFollow [] (popped old) → Allowed MayFollow [] (popped new)
  pub keeps : IsPrefix (popped old) (popped new)
  pub grows : IsPrefix (popped old ++ waiting old) (popped new ++ waiting new)

-- Each outlet went on (`GoesOn`).
abbrev pub AllGoOn : List Outlet → List Outlet → Type 0
AllGoOn old new = AllZip GoesOn old new
