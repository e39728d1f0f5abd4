-- What takes of packets from inlets do.
use Rattle.std.specs.Prelude.{◌≡◌, ℕ, ◌⊎◌, filter, ◌==◌, ◌≤◌, false, List, [], ◌∷◌, ◌++◌, length, slice_set as set, take, drop, ⊤, Some, slice_get, ◌+◌, ◌-◌, ◌<◌, nat_lt, if◌then◌else◌, Option, IfSome, MatchOption}
use Rattle.std.specs.List.{AllByRecursion}
use mathlib.Core.List.{IsPrefix}
use Rattle.clk_packet.specs.declared.packet.Packet.{Packet}
use Rattle.clk_packet.specs.declared.packet.Offered.{Offered}
use Rattle.clk_packet.specs.declared.packet.Offered.TheVariants as offer
use Rattle.clk_ring.specs.QueueHistory.{held}
use Rattle.clk_tree.specs.declared.plan.parts.SenderSpec.{SenderSpec}
use Rattle.clk_inlet.specs.Halves.{popped, seen as waiting}
use Rattle.clk_inlet.specs.Items.{packet_item, has_end}
use Rattle.clk_inlet.specs.declared.item.Item.{Item}
use Rattle.clk_inlet.specs.declared.outlet.Outlet.{Outlet}
use Rattle.clk_router.specs.Chains.{IsChain}
use Rattle.clk_router.specs.Course.{Course, after, sender_at}
use Rattle.clk_router.specs.Events.{Room, Setup, offered, history}
use Rattle.clk_live.specs.declared.taking.OfferOutcome.{OfferOutcome}
use Rattle.clk_live.specs.declared.taking.OfferOutcome.TheVariants.{Accepted, Refused, Evicted}
use Rattle.clk_live.specs.declared.taking.Taken.{Taken}
use Rattle.clk_live.specs.State.{LiveState, Seen, starts_at, IsTokenOf}

-- the outcome of the packet's offer, without tokens
abbrev pub offer_outcome : Packet → OfferOutcome → Offered
offer_outcome p Accepted = offer.Accepted
offer_outcome p Refused = offer.Refused p
offer_outcome p (Evicted front token) = offer.Evicted front

-- if another packet was evicted, the token came with it
abbrev pub HasToken : Seen → OfferOutcome → Type 0
HasToken s (Evicted front token) = IsTokenOf s.course.setup s.items front token
HasToken s outcome = ⊤

-- The next packet of the sender at a place was taken and offered to its queue. `t` has it, with its token and outcome.
pub record IsTaken (place : ℕ) (old : Seen) (t : Taken) (new : Seen) : Type 0 where
  pub before : List Item
  pub was : slice_get old.items place ≡ Some before
  pub items : new.items ≡ set old.items place (before ++ packet_item t.packet.length t.token ∷ [])
  pub sender : sender_at old.course.setup place ≡ Some t.packet.sender
  pub number : t.packet.number ≡ length before
  pub goes_on : new.course ≡ after old.course (offered t.packet (offer_outcome t.packet t.outcome) ∷ [])
  pub evicted : HasToken new t.outcome

-- the next packet of some sender was taken
abbrev pub TakesOne : Seen → Taken → Seen → Type 0
TakesOne old t new = (place : ℕ) × IsTaken place old t new

-- `count` packets were taken, of any senders, and filled in. The other places are unchanged.
pub record AreTaken (old new : Seen) (before filled : List Taken) (count : ℕ) : Type 0 where
  pub within : count ≤ length before
  pub many : length filled ≡ length before
  pub took : IsChain TakesOne old (take count filled) new
  pub others : drop count filled ≡ drop count before

-- A sender's outlet gave no packet: unless it has ended, no packet was seen in its ring.
abbrev pub HasNone : List Outlet → List Outlet → ℕ → Type 0
HasNone old new place = (o n : Outlet) → slice_get old place ≡ Some o → slice_get new place ≡ Some n → has_end (popped n) ≡ false → waiting o ≡ []

-- A sender's outlet gave all: unless it has ended, what was seen in its ring before was popped.
abbrev pub GaveAll : List Outlet → List Outlet → ℕ → Type 0
GaveAll old new place =
    (o n : Outlet) → slice_get old place ≡ Some o → slice_get new place ≡ Some n → has_end (popped n) ≡ false → IsPrefix (popped o ++ waiting o) (popped n)

-- The queue of the sender at a place is full: it holds as many packets as it may.
pub record IsQueueFull (c : Course) (place : ℕ) : Type 0 where
  pub spec : SenderSpec
  pub room : Room
  pub sender : slice_get c.setup.senders place ≡ Some spec
  pub queue : slice_get c.setup.queues spec.queue ≡ Some room
  pub full : length (held (history c.setup spec.queue c.events)) ≡ room.capacity

-- A sender gave all that was seen in its ring, or its queue is full now.
abbrev pub GaveAllThatFits : LiveState → LiveState → ℕ → Type 0
GaveAllThatFits old new place = GaveAll old.outlets new.outlets place ⊎ IsQueueFull new.course place

-- these packets are of the sender at a place
abbrev pub AreOf : Setup → ℕ → List Taken → Type 0
AreOf setup place taken = AllByRecursion (λ (t : Taken). sender_at setup place ≡ Some t.packet.sender) taken

-- how many of these packets are of a sender
abbrev pub count_of : ℕ → List Taken → ℕ
count_of s taken = length (filter (λ (t : Taken). t.packet.sender == s) taken)

-- at most `most` of these packets are of each sender
abbrev pub AreAtMost : ℕ → List Taken → Type 0
AreAtMost most taken = (s : ℕ) → count_of s taken ≤ most

-- Each sender gave `each` of these packets, or `Otherwise` holds of its place.
abbrev pub AreSharesOr : (ℕ → Type 0) → Setup → ℕ → List Taken → Type 0
AreSharesOr Otherwise setup each taken = (place s : ℕ) → sender_at setup place ≡ Some s → (count_of s taken ≡ each) ⊎ Otherwise place

-- how many steps a round that starts at a place takes to another, of `many` places; the first comes after the last
abbrev pub steps_to : (start many place : ℕ) → ℕ
steps_to start many place = if nat_lt place start then place + many - start else place - start

-- In a round that starts at a place, of `many` places, each sender before that of the last of these packets gave `each` of them, or
-- `Otherwise` holds of its place.
abbrev pub AreSharesBefore : (ℕ → Type 0) → Setup → (start many each : ℕ) → Option Taken → List Taken → Type 0
AreSharesBefore Otherwise setup start many each last taken =
    IfSome last (λ t. (end place s : ℕ) → sender_at setup end ≡ Some t.packet.sender → steps_to start many place < steps_to start many end → sender_at setup place ≡ Some s → (count_of s taken ≡ each) ⊎ Otherwise place)

-- the place after this one, of `many` places; the first comes after the last
abbrev pub after_place : ℕ → ℕ → ℕ
after_place place many = if nat_lt (place + 1) many then place + 1 else 0

-- After a round that filled all `places` slots, the last with `last`, the next round starts at the sender after the last packet's. After a
-- round that took packets and left slots free, the next starts one sender later than this one. After one that took none it starts where
-- this one did.
pub record StartsNext (old new : LiveState) (places count : ℕ) (last : Option Taken) : Type 0 where
  pub moves_on : 0 < count → count < places → starts_at new ≡ after_place (starts_at old) (length old.outlets)
  pub stays : count ≡ 0 → starts_at new ≡ starts_at old
  pub next : count ≡ places → MatchOption last (starts_at new ≡ starts_at old) (λ t. (place : ℕ) → sender_at old.course.setup place ≡ Some t.packet.sender → starts_at new ≡ after_place place (length old.outlets))

-- each of these packets was accepted without evicting another
abbrev pub AllAccepted : List Taken → Type 0
AllAccepted taken = AllByRecursion (λ (t : Taken). t.outcome ≡ Accepted) taken
