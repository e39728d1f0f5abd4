-- What calls do.
use Rattle.std.specs.Prelude.{◌≡◌, ℕ, ◌+◌, ◌<◌, ◌≤◌, nat_lt, ◌==◌, ◌&&◌, if◌then◌else◌, List, [], ◌∷◌, length, take, drop, slice_get, ◌⊎◌, Option, Some, None}
use Rattle.std.specs.List.{zip}
use Rattle.clk_packet.specs.declared.packet.Packet.{Packet}
use Rattle.clk_packet.specs.declared.packet.Offered.{Offered}
use Rattle.clk_router.specs.Course.{Course, after, moment_at, accepted_at, evicted_at, emitted_at, CanPull, IsPulled}
use Rattle.clk_router.specs.Drains.{HasLeft}
use Rattle.clk_router.specs.Events.{offered}
use Rattle.clickpull_c.specs.declared.values.CPacket.{CPacket}
use Rattle.clickpull_c.specs.declared.values.CDeparture.{CDeparture}
use Rattle.clickpull_c.specs.declared.values.COffer.{COffer}
use Rattle.clickpull_c.specs.declared.values.COffered.{COffered}
use Rattle.clickpull_c.specs.declared.statuses.TheConstants.{OK, NONE, AT_END}
use Rattle.clickpull_c.specs.Answers.{RefusesOffer}
use Rattle.clk_router.specs.Chains.{IsChain}
use Rattle.clickpull_c.specs.Values.{packet_in_c, offered_in_c}

-- A sender offered its next packet, of this length. The packet and its outcome were filled in.
pub record IsOffered (old new : Course) (sender length : ℕ) (filled : COffered) : Type 0 where
  pub packet : Packet
  pub outcome : Offered
  pub sender_is : packet.sender ≡ sender
  pub length_is : packet.length ≡ length
  pub filled_is : filled ≡ offered_in_c packet outcome
  pub goes_on : new ≡ after old (offered packet outcome ∷ [])

-- An offer was made, and its packet and outcome were filled in; or it is refused, and nothing changed. This status was returned.
abbrev pub AnswersOffer : (old new : Course) (sender length : ℕ) (before filled : COffered) (status : ℕ) → Type 0
AnswersOffer old new sender length before filled status =
    ((status ≡ OK) × IsOffered old new sender length filled) ⊎ (RefusesOffer old sender length status × (new ≡ old) × (filled ≡ before))

-- what a pull with this result returns
abbrev pub pull_status : Option Packet → ℕ
pull_status None = NONE
pull_status (Some p) = OK

-- what the place for a packet holds after a pull with this result
abbrev pub pull_fills : CPacket → Option Packet → CPacket
pull_fills before None = before
pull_fills before (Some p) = packet_in_c p

-- A device was pulled once. If it emitted a packet, that was filled in. This status was returned.
pub record AnswersPull (old new : Course) (device moment : ℕ) (before filled : CPacket) (status : ℕ) : Type 0 where
  pub got : Option Packet
  pub pulled : IsPulled old new device moment got
  pub filled_is : filled ≡ pull_fills before got
  pub status_is : status ≡ pull_status got

-- an offer was made with this sender and length, and its packet and outcome were filled in
abbrev pub OffersOne : Course → COffer × COffered → Course → Type 0
OffersOne c both next = IsOffered c next both.0.sender both.0.length both.1

-- The first `done` of these offers were made, in order. Each packet and outcome was filled in, and the other places are unchanged.
pub record IsOfferedSoFar (old new : Course) (offers : List COffer) (before filled : List COffered) (done : ℕ) : Type 0 where
  pub within : done ≤ length offers
  pub made : IsChain OffersOne old (zip (take done offers) (take done filled)) new
  pub others : drop done filled ≡ drop done before

-- All of these offers were made; or some were, and the next one is refused.
pub data EndsOffers (new : Course) (offers : List COffer) (done status : ℕ) : Type 0 where
  all : status ≡ OK → done ≡ length offers → EndsOffers new offers done status
  refused : (offer : COffer) → slice_get offers done ≡ Some offer → RefusesOffer new offer.sender offer.length status → EndsOffers new offers done status

-- a pull at a moment gave a packet, which was filled in
pub record GivesOne (device moment : ℕ) (c : Course) (filled : CPacket) (next : Course) : Type 0 where
  pub packet : Packet
  pub pulled : IsPulled c next device moment (Some packet)
  pub filled_is : filled ≡ packet_in_c packet

-- Pulls at a moment ended: all places are filled; or the last pull emitted none; or at least one packet was emitted, and no more pulls can
-- be made.
pub data EndsPulls (device moment count : ℕ) (last new : Course) (given : ℕ) : Type 0 where
  full : given ≡ count → new ≡ last → EndsPulls device moment count last new given
  gave_none : given < count → IsPulled last new device moment None → EndsPulls device moment count last new given
  at_end : 1 ≤ given → (CanPull new device moment → ⊥) → new ≡ last → EndsPulls device moment count last new given

-- A device was pulled again and again at a moment. `given` packets were emitted, and filled in. The other places are unchanged.
pub record IsPulledOften (old new : Course) (device moment : ℕ) (before filled : List CPacket) (given : ℕ) : Type 0 where
  pub last : Course
  pub within : given ≤ length before
  pub gave : IsChain (GivesOne device moment) old (take given filled) last
  pub others : drop given filled ≡ drop given before
  pub ends : EndsPulls device moment (length before) last new given

-- what pulls return that emitted `given` packets, with `count` places
abbrev pub pulls_status : ℕ → ℕ → ℕ
pulls_status given count = if (given == 0) && nat_lt 0 count then NONE else OK

-- a pull of a drain: its moment, and the packet that it emitted, if it emitted one
pub record DrainPull : Type 0 where
  pub moment : ℕ
  pub got : Option Packet

-- all packets that were accepted at a device were evicted or emitted
abbrev pub IsEmptied : Course → ℕ → Type 0
IsEmptied c device = accepted_at c device ≡ evicted_at c device + emitted_at c device

-- a device for which packets were left was pulled one tick after its latest moment
pub record PullsNext (device : ℕ) (c : Course) (pull : DrainPull) (next : Course) : Type 0 where
  pub left : HasLeft c device
  pub moment : pull.moment ≡ moment_at c device + 1
  pub pulled : IsPulled c next device pull.moment pull.got

-- these departures, after the packet that a pull emitted at this moment, if it emitted one
abbrev pub with_departure : ℕ → Option Packet → List CDeparture → List CDeparture
with_departure moment None others = others
with_departure moment (Some p) others = record { moment = moment; packet = packet_in_c p } ∷ others

-- the packets that these pulls emitted, each with its moment
abbrev pub departures_of : List DrainPull → List CDeparture
departures_of [] = []
departures_of (pull ∷ pulls) = with_departure pull.moment pull.got (departures_of pulls)

-- before each of these pulls, fewer packets had been emitted than there are places
abbrev pub HasRoom : ℕ → List DrainPull → Type 0
HasRoom places pulls = (made : ℕ) → made < length pulls → length (departures_of (take made pulls)) < places

-- A drain ended: nothing is left; or all places are filled or all pulls made, and packets are left; or the device can't be pulled one tick
-- later.
pub data EndsDrain (new : Course) (device count most made given status : ℕ) : Type 0 where
  empty : status ≡ OK → IsEmptied new device → EndsDrain new device count most made given status
  full : status ≡ NONE → HasLeft new device → (given ≡ count) ⊎ (made ≡ most) → EndsDrain new device count most made given status
  at_end : status ≡ AT_END → HasLeft new device → (CanPull new device (moment_at new device + 1) → ⊥) → EndsDrain new device count most made given status

-- A device was pulled one tick apart, at most `most` times, each time with packets left for it and a place free. `given` packets were
-- emitted, and filled in with their moments. The other places are unchanged.
pub record IsDrained (old new : Course) (device most : ℕ) (before filled : List CDeparture) (given status : ℕ) : Type 0 where
  pub pulls : List DrainPull
  pub made : IsChain (PullsNext device) old pulls new
  pub few : length pulls ≤ most
  pub room : HasRoom (length before) pulls
  pub within : given ≤ length before
  pub gave : take given filled ≡ departures_of pulls
  pub others : drop given filled ≡ drop given before
  pub ends : EndsDrain new device (length before) most (length pulls) given status
