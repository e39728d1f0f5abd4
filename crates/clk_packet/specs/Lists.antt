-- Members of lists, numbers that rise, and the packets of a sender.
use Rattle.std.specs.Prelude.{◌≡◌, ◌⊎◌, ℕ, ◌<◌, ◌==◌, ◌&&◌, ◌||◌, not, Bool, true, false, List, [], ◌∷◌, filter, ⊤}
use Rattle.std.specs.List.{AllByRecursion}
use Rattle.clk_packet.specs.declared.packet.Packet.{Packet}

-- `x` is a member of the list
abbrev pub In : {X : Type 0} → X → List X → Type 0
In x [] = ⊥
In x (y ∷ ys) = (y ≡ x) ⊎ In x ys

-- whether the number stands in the list
abbrev pub stands_in : ℕ → List ℕ → Bool
stands_in n [] = false
stands_in n (m ∷ numbers) = (m == n) || stands_in n numbers

-- no number stands twice in the list
abbrev pub are_distinct : List ℕ → Bool
are_distinct [] = true
are_distinct (n ∷ numbers) = not (stands_in n numbers) && are_distinct numbers

-- each number is below all that follow it
abbrev pub AreRising : List ℕ → Type 0
AreRising [] = ⊤
AreRising (n ∷ numbers) = AllByRecursion (λ m. n < m) numbers × AreRising numbers

-- the packets of one sender, in order
abbrev pub of_sender : ℕ → List Packet → List Packet
of_sender s packets = filter (λ (p : Packet). p.sender == s) packets
