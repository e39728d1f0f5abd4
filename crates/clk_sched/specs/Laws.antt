-- The law of each class of scheduler, stated by its own turns.
use Rattle.std.specs.Prelude.{ℕ, ◌<◌, Bool, List, []}
use Rattle.std.specs.List.{AllByRecursion}
use Rattle.clk_packet.specs.declared.packet.Packet.{Packet}
use Rattle.clk_sched.specs.declared.visit.Visit.{Visit}
use Rattle.clk_packet.specs.Scheduler.{Scheduler, prio, round_robin, drr, stride, shaper}
use Rattle.clk_sched.specs.Turns.{Turn, EachAfter, AsksInOrder, visits_before}
use Rattle.clk_sched.specs.Heads.{LooksAtHeads, EndAtPass}
use Rattle.clk_sched.specs.Laws.Priority.{priority_order}
use Rattle.clk_sched.specs.Laws.RoundRobin.{round_robin_order}
use Rattle.clk_sched.specs.Laws.Deficit.{next_input, deficit_covers}
use Rattle.clk_sched.specs.Laws.Stride.{stride_order}
use Rattle.clk_sched.specs.Laws.Shaper.{shaper_order}
pub mod Device
pub mod Priority
pub mod RoundRobin
pub mod Deficit
pub mod Stride
pub mod Shaper

-- The two ways in which a scheduler may treat its inputs: it asks them in an order until one gives a packet, or it holds packets back as
-- heads. Order, turn and cover follow from its earlier turns.
pub data Manner : Type 0 where
  in_order : (List Turn → ℕ → List ℕ) → Manner
  with_heads : (List Visit → ℕ) → (List Visit → ℕ → Packet → Bool) → Manner

-- the law of each class, over so many inputs, as a manner
abbrev pub manner : Scheduler → ℕ → Manner
manner prio inputs = in_order (λ earlier moment. priority_order inputs)
manner round_robin inputs = in_order (λ earlier moment. round_robin_order inputs earlier)
manner (drr quanta) inputs = with_heads (next_input inputs) (deficit_covers quanta)
manner (stride tickets) inputs = in_order (λ earlier moment. stride_order tickets earlier)
manner (shaper rate burst) inputs = in_order (shaper_order rate burst)

-- A scheduler's turn follows its manner: it asks inputs in the manner's order, or it looks at heads in turn and ends with the first that
-- passes. Its earlier turns are given with the latest first.
abbrev pub Follows : Manner → ℕ → List Turn → Turn → Type 0
Follows (in_order order) inputs earlier t = AsksInOrder (order earlier t.moment) t.visits
Follows (with_heads turn_of covers) inputs earlier t = EachAfter (LooksAtHeads turn_of covers) (visits_before earlier) t.visits × EndAtPass inputs t.visits

-- What a scheduler may do in one pull after its earlier turns, the latest first: it visits inputs that it has, and keeps to its manner.
pub record AllowsTurn (class : Scheduler) (inputs : ℕ) (earlier : List Turn) (t : Turn) : Type 0 where
  pub within : AllByRecursion (λ (v : Visit). v.input < inputs) t.visits
  pub follows : Follows (manner class inputs) inputs earlier t

-- A scheduler obeys its law: it may do what it did in each of its turns, one after another.
abbrev pub Obeys : Scheduler → ℕ → List Turn → Type 0
Obeys class inputs turns = EachAfter (AllowsTurn class inputs) [] turns
