-- Lists of seats, and of what they leave once they are closed.
use Rattle.std.proofs.Common.{◌≡◌, ℕ, true≢false, subst, List, [], ◌∷◌, ◌++◌, map, ap, sym, refl, ◌∙◌}
use Rattle.clk_ruled.specs.declared.view.QueueSetup.{QueueSetup}
use Rattle.clk_ruled.specs.Queue.{OpenedQueue, SeatLists, TapLists, ClosedLists, IsSeatOf, empty_seat, queue_of}
use Rattle.clk_ruled.specs.Settle.{AreTogether, AreOfTap, lists_of}
use Rattle.clk_ruled.specs.Closing.{IsClosedOf, AreClosedOf, AreSeatsOf}

-- Of seats of a queue all but the last are the queue's, and so is the last.
pub seats-init : (queue : OpenedQueue) (seats : List SeatLists) (s : SeatLists) → AreSeatsOf queue (seats ++ s ∷ []) → AreSeatsOf queue seats × IsSeatOf queue s
seats-init queue [] s are = (tt, are.0)
seats-init queue (r ∷ seats) s are = let rest = seats-init queue seats s are.1 in ((are.0, rest.0), rest.1)

-- One seat more was closed.
pub closed-more : (seats : List SeatLists) (s : SeatLists) (closed : List ClosedLists) (c : ClosedLists) → AreClosedOf seats closed → IsClosedOf s c → AreClosedOf (seats ++ s ∷ []) (closed ++ c ∷ [])
closed-more [] s [] c are is = (is, tt)
closed-more [] s (d ∷ closed) c are is = absurd are
closed-more (r ∷ seats) s [] c are is = absurd are
closed-more (r ∷ seats) s (d ∷ closed) c are is = (are.0, closed-more seats s closed c are.1 is)

-- The seats of a queue that was opened are its own.
opened-seats : (queue : OpenedQueue) (setup : QueueSetup) (rooms : List (ℕ × ℕ)) → queue ≡ queue_of queue.id setup → AreSeatsOf queue (map (empty_seat queue.id setup) rooms)
opened-seats queue setup [] own = tt
opened-seats queue setup (r ∷ rooms) own = (own, opened-seats queue setup rooms own)

pub opened-own : (setup : QueueSetup) (queue : OpenedQueue) (seats : List SeatLists) → queue ≡ queue_of queue.id setup → seats ≡ map (empty_seat queue.id setup) setup.rooms → AreSeatsOf queue seats
opened-own setup queue seats own are = subst (AreSeatsOf queue) (sym are) (opened-seats queue setup setup.rooms own)

-- The seats of a queue that was opened, closed and not gathered, go together with its tap.
closed-senders : (queue : OpenedQueue) (setup : QueueSetup) (rooms : List (ℕ × ℕ)) (closed : List ClosedLists) → AreClosedOf (map (empty_seat queue.id setup) rooms) closed
    → map (λ (l : SeatLists). (l.sender, l.room)) (lists_of closed) ≡ rooms
closed-senders queue setup [] [] are = refl
closed-senders queue setup [] (c ∷ closed) are = absurd are
closed-senders queue setup (r ∷ rooms) [] are = absurd are
closed-senders queue setup (r ∷ rooms) (c ∷ closed) are =
    let is = are.0.0 in
    ap (λ s. (s, c.lists.room) ∷ map (λ (l : SeatLists). (l.sender, l.room)) (lists_of closed)) is.2
    ∙ ap (λ k. (r.0, k) ∷ map (λ (l : SeatLists). (l.sender, l.room)) (lists_of closed)) is.3 ∙ ap (λ rest. r ∷ rest) (closed-senders queue setup rooms closed are.1)

closed-of-tap : (tap : TapLists) (queue : OpenedQueue) (setup : QueueSetup) (rooms : List (ℕ × ℕ)) (closed : List ClosedLists) → tap.id ≡ queue.id → tap.setup ≡ setup → AreClosedOf (map (empty_seat queue.id setup) rooms) closed
    → AreOfTap tap closed
closed-of-tap tap queue setup [] [] own with are = tt
closed-of-tap tap queue setup [] (c ∷ closed) own with are = absurd are
closed-of-tap tap queue setup (r ∷ rooms) [] own with are = absurd are
closed-of-tap tap queue setup (r ∷ rooms) (c ∷ closed) own with are =
    let is = are.0.0 in (record { id = is.0 ∙ sym own; setup = is.1 ∙ sym with; had = λ gathered. absurd (true≢false (sym gathered ∙ are.0.1)) }, closed-of-tap tap queue setup rooms closed own with are.1)

-- So they are all that the queue was opened with.
pub closed-together : (tap : TapLists) (queue : OpenedQueue) (setup : QueueSetup) (closed : List ClosedLists) → tap.id ≡ queue.id → tap.setup ≡ setup → AreClosedOf (map (empty_seat queue.id setup) setup.rooms) closed → AreTogether tap closed
closed-together tap queue setup closed own with are =
    record { senders = closed-senders queue setup setup.rooms closed are ∙ sym (ap (λ (s : QueueSetup). s.rooms) with); each = closed-of-tap tap queue setup setup.rooms closed own with are }
