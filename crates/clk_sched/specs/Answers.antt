-- What queues gave, visit by visit.
use Rattle.std.specs.Prelude.{◌≡◌, ℕ, List, [], ◌∷◌, Option, Some, None, if◌then◌else◌}
use Rattle.clk_packet.specs.declared.packet.Packet.{Packet}
use Rattle.clk_sched.specs.declared.visit.Visit.{Visit}
use Rattle.clk_sched.specs.Tree.{Tree, queue_at}

-- the queue of a tree that a visit asked, if it asked one
abbrev pub tree_queue : Tree → Visit → Option ℕ
tree_queue tree v = if v.fresh then queue_at tree v.node v.input else None

-- a step of the queue, if there is one, and then what is to hold of the state after it
abbrev pub at_queue : {S : Type 0} → (S → ℕ → Option Packet → S → Type 0) → Option ℕ → Option Packet → S → (S → Type 0) → Type 0
at_queue gives None got a Rest = Rest a
at_queue {S = S} gives (Some q) got a Rest = (c : S) × gives a q got c × Rest c

-- Between two states of the queues, those that visits asked gave what the visits got, in order. A queue that is known to be empty and was
-- not asked counts as having given none.
abbrev pub Answers : {S : Type 0} → (S → ℕ → Option Packet → S → Type 0) → (Visit → Option ℕ) → S → List Visit → S → Type 0
Answers gives asked a [] b = a ≡ b
Answers gives asked a (v ∷ visits) b = at_queue gives (asked v) v.got a (λ c. Answers gives asked c visits b)
