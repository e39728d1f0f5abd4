-- Seats that were opened with a tap, and stay so while packets are offered and pulled.
use Rattle.std.proofs.Common.{◌≡◌, ℕ, ◌<◌, Bool, true, false, zero, suc, List, [], ◌∷◌, length, map, set, get_or, Option, refl, ap, ◌∙◌, subst, arith, rules}
use Rattle.atomic_table.specs.Seated.{TableId}
use Rattle.clk_packet.specs.declared.packet.Packet.{Packet}
use Rattle.clk_packet.specs.declared.packet.Offered.{Offered}
use Rattle.clk_ruled.specs.declared.view.QueueSetup.{QueueSetup}
use Rattle.clk_ruled.specs.Queue.{OpenedQueue, SeatLists, TapLists, ClosedLists, closed_with, IsSeatOf, IsOpened, IsOffered, IsPulled, empty_seat, empty_tap, gathering}
use Rattle.clk_ruled.specs.Settle.{AreOpenedTogether, AreOfTap, closing, lists_of}
use Rattle.clk_ruled.specs.Laws.{KeepsTogether}
use Rattle.clk_ruled.proofs.Gathering.{of-tap-at, of-tap-more, of-tap-gathered}

abbrev place_of : SeatLists → ℕ × ℕ
place_of l = (l.sender, l.room)

opened-each : (keeps : Bool) (id : TableId) (setup : QueueSetup) (rooms : List (ℕ × ℕ)) → AreOfTap (empty_tap keeps id setup) (map closing (map (empty_seat id setup) rooms))
opened-each keeps id setup [] = tt
opened-each keeps id setup (r ∷ rooms) = search (rules, (opened-each keeps id setup rooms))

opened-places : (id : TableId) (setup : QueueSetup) (rooms : List (ℕ × ℕ)) → map place_of (lists_of (map closing (map (empty_seat id setup) rooms))) ≡ rooms
opened-places id setup [] = refl
opened-places id setup (r ∷ rooms) = ap (λ l. r ∷ l) (opened-places id setup rooms)

pub opened-in-use : (setup : QueueSetup) (queue : OpenedQueue) (seats : List SeatLists) (tap : TapLists) → IsOpened setup queue seats tap → AreOpenedTogether queue tap (map closing seats)
opened-in-use setup queue seats tap h = search (rules, opened-places, (opened-each tap.keeps queue.id setup setup.rooms))

pub pulled-in-use : (queue : OpenedQueue) (tap new : TapLists) (got : Option Packet) (closed : List ClosedLists) → IsPulled tap got new → AreOpenedTogether queue tap closed → AreOpenedTogether queue new closed
pulled-in-use queue tap new got closed is h = search (rules, of-tap-more)

-- the seat at a place
seat-at : (tap : TapLists) (seats : List SeatLists) (i : ℕ) (d : SeatLists) → i < length seats → AreOfTap tap (map closing seats) → ((get_or seats i d).id ≡ tap.id) × ((get_or seats i d).setup ≡ tap.setup)
seat-at tap [] i d lt h = absurd (omega arith)
seat-at tap (l ∷ seats) zero d lt h = (h.0.id, h.0.setup)
seat-at tap (l ∷ seats) (suc i) d lt h = seat-at tap seats i d (omega arith) h.1

pub seat-in-use : (queue : OpenedQueue) (tap : TapLists) (seats : List SeatLists) (i : ℕ) (l : SeatLists) → i < length seats → l ≡ get_or seats i l → AreOpenedTogether queue tap (map closing seats) → IsSeatOf queue l
seat-in-use queue tap seats i l lt here h = search (rules, (seat-at tap seats i l lt h.1.each))

-- An offer leaves the seat at its place.
record IsSameSeat (old new : SeatLists) : Type 0 where
  id : new.id ≡ old.id
  setup : new.setup ≡ old.setup
  place : place_of new ≡ place_of old

same-seat : (old new : SeatLists) (p : Packet) (answer : Offered) → IsOffered old p answer new → IsSameSeat old new
same-seat old new p answer is = search rules

set-each : (tap : TapLists) (seats : List SeatLists) (i : ℕ) (new d : SeatLists) → i < length seats → IsSameSeat (get_or seats i d) new → AreOfTap tap (map closing seats) → AreOfTap tap (map closing (set seats i new))
set-each tap [] i new d lt same h = absurd (omega arith)
set-each tap (l ∷ seats) zero new d lt same h = search rules
set-each tap (l ∷ seats) (suc i) new d lt same h = (h.0, set-each tap seats i new d (omega arith) same h.1)

set-places : (seats : List SeatLists) (i : ℕ) (new d : SeatLists) → i < length seats → place_of new ≡ place_of (get_or seats i d) → map place_of (lists_of (map closing (set seats i new))) ≡ map place_of (lists_of (map closing seats))
set-places [] i new d lt e = absurd (omega arith)
set-places (l ∷ seats) zero new d lt e = search rules
set-places (l ∷ seats) (suc i) new d lt e = ap (λ x. place_of l ∷ x) (set-places seats i new d (omega arith) e)

pub offered-in-use : (queue : OpenedQueue) (tap : TapLists) (seats : List SeatLists) (i : ℕ) (l new : SeatLists) (p : Packet) (answer : Offered) → i < length seats → l ≡ get_or seats i l → IsOffered l p answer new
    → AreOpenedTogether queue tap (map closing seats) → AreOpenedTogether queue tap (map closing (set seats i new))
offered-in-use queue tap seats i l new p answer lt here is h =
    let same = subst (λ (x : SeatLists). IsSameSeat x new) here (same-seat l new p answer is) in (
      h.0,
      record { senders = set-places seats i new l lt same.place ∙ h.1.senders; each = set-each tap seats i new l lt same h.1.each },
    )

-- The same of closed seats, while the tap gathers them.
pub closed-in-use : (queue : OpenedQueue) (tap : TapLists) (closed : List ClosedLists) (i : ℕ) (c : ClosedLists) → i < length closed → c ≡ get_or closed i c → AreOpenedTogether queue tap closed → (c.lists.id ≡ tap.id) × (c.lists.setup ≡ tap.setup)
closed-in-use queue tap closed i c lt here h = search (rules, of-tap-at)

pub gathered-in-use : (queue : OpenedQueue) (tap new : TapLists) (closed : List ClosedLists) (i : ℕ) (old c : ClosedLists) → i < length closed → old ≡ get_or closed i old
    → c ≡ closed_with old.lists → (old.is_gathered ≡ false → new ≡ gathering tap old.lists) → (old.is_gathered ≡ true → new ≡ tap)
    → AreOpenedTogether queue tap closed → AreOpenedTogether queue new (set closed i c)
gathered-in-use queue tap new closed i old c lt here is first again h =
    let after = of-tap-gathered tap new closed i c old lt h.1.each
    (search rules)
    (search rules)
    (search rules) in search rules

pub kept-together : KeepsTogether
kept-together = search (rules, opened-in-use, seat-in-use, offered-in-use, pulled-in-use, closed-in-use, gathered-in-use)
