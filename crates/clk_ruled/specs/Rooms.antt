-- The senders of a queue, each with its room: how many packets it may offer.
use Rattle.std.specs.Prelude.{ℕ, ◌+◌, ◌==◌, List, [], ◌∷◌, map, if◌then◌else◌}

-- the senders that have these rooms
abbrev pub named_in : List (ℕ × ℕ) → List ℕ
named_in rooms = map (λ (r : ℕ × ℕ). r.0) rooms

-- how many packets the sender may offer: none if it isn't a sender of the queue
abbrev pub room_of : List (ℕ × ℕ) → ℕ → ℕ
room_of [] s = 0
room_of (r ∷ rooms) s = if r.0 == s then r.1 else room_of rooms s

-- how many packets may be offered in all
abbrev pub rooms_in_all : List (ℕ × ℕ) → ℕ
rooms_in_all [] = 0
rooms_in_all (r ∷ rooms) = r.1 + rooms_in_all rooms
