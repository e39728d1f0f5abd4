-- Seats that were closed, beside the seats that they were.
use Rattle.std.specs.Prelude.{◌≡◌, false, List, [], ◌∷◌, ⊤}
use Rattle.clk_ruled.specs.Queue.{OpenedQueue, SeatLists, ClosedLists, IsSeatOf}

-- It is still the seat of this sender at this queue.
abbrev pub IsSameSeat : SeatLists → SeatLists → Type 0
IsSameSeat old new = (new.id ≡ old.id) × (new.setup ≡ old.setup) × (new.sender ≡ old.sender) × (new.room ≡ old.room)

-- The seat was closed, and wasn't gathered.
abbrev pub IsClosedOf : SeatLists → ClosedLists → Type 0
IsClosedOf seat closed = IsSameSeat seat closed.lists × (closed.is_gathered ≡ false)

-- The seats were closed, in order.
abbrev pub AreClosedOf : List SeatLists → List ClosedLists → Type 0
AreClosedOf [] [] = ⊤
AreClosedOf [] (c ∷ closed) = ⊥
AreClosedOf (s ∷ seats) [] = ⊥
AreClosedOf (s ∷ seats) (c ∷ closed) = IsClosedOf s c × AreClosedOf seats closed

-- Each of the seats is one of this queue's.
abbrev pub AreSeatsOf : OpenedQueue → List SeatLists → Type 0
AreSeatsOf queue [] = ⊤
AreSeatsOf queue (s ∷ seats) = IsSeatOf queue s × AreSeatsOf queue seats
