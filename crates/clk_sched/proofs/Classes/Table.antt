-- What is known of each class of scheduler: a line for each.
use Rattle.std.proofs.Common.{◌≡◌, ℕ, ◌+◌, ◌%◌, ◌≤◌, List, [], ◌∷◌, length, map, if◌then◌else◌, true, refl, ap, rules}
use Rattle.std.specs.Bool.{⊤}
use Rattle.std.specs.List.{range_with_len, enumerate_from}
use Rattle.std.proofs.lemmas.List.{length-map}
use Rattle.std.proofs.lemmas.List.FromFn.{length-range_with_len, length-enumerate_from}
use Rattle.clk_packet.specs.Scheduler.{Scheduler, prio, round_robin, drr, stride, shaper, HasArguments}
use Rattle.clk_sched.specs.Turns.{Turn}
use Rattle.clk_sched.specs.Laws.{Manner, in_order, with_heads, manner, AllowsTurn}
use Rattle.clk_sched.specs.inside.Rising.{in_rising_order}
use Rattle.clk_sched.proofs.Classes.Orders.{IsOrderOf, priority-order, stride-order, passes-length}
use Rattle.clk_sched.proofs.Lists.Rising.{rising-length}
use Rattle.clk_sched.proofs.Classes.RoundRobinTurns.{round_robin-order, busy-beginning}
use Rattle.clk_sched.proofs.Classes.BusyTurns.{busy, busy-passes, busy-room, TakesNoNotice, follows-busy}
use Rattle.clk_sched.specs.inside.Holds.Shaper.{has_room}

-- a scheduler may ask all of its inputs at this moment, after its earlier turns: a Shaper needs room
abbrev pub MayAsk : Scheduler → List Turn → ℕ → Type 0
MayAsk (shaper rate burst) earlier moment = has_room rate burst moment earlier ≡ true
MayAsk class earlier moment = ⊤

-- What a scheduler asks in order after any turns, at any moment, are inputs of it, none twice, and all of them where it may ask.
pub record AreOrders (class : Scheduler) (inputs : ℕ) (order : List Turn → ℕ → List ℕ) : Type 0 where
  pub orders : (earlier : List Turn) (moment : ℕ) → IsOrderOf inputs (order earlier moment)
  pub whole : (earlier : List Turn) (moment : ℕ) → MayAsk class earlier moment → length (order earlier moment) ≡ inputs

abbrev pub AsksRight : Scheduler → ℕ → Manner → Type 0
AsksRight class inputs (in_order order) = AreOrders class inputs order
AsksRight class inputs (with_heads turn_of covers) = ⊤

pub asks-right : (class : Scheduler) (inputs : ℕ) → 1 ≤ inputs → HasArguments class inputs → AsksRight class inputs (manner class inputs)
asks-right prio inputs some args = record { orders = λ earlier moment. priority-order inputs; whole = λ earlier moment may. length-range_with_len 0 inputs }
asks-right round_robin inputs some args = search (rules, round_robin-order, length-map, length-range_with_len)
asks-right (drr quanta) inputs some args = tt
asks-right (stride tickets) inputs some args = search (rules, stride-order, length-map, rising-length, length-enumerate_from, passes-length)
asks-right (shaper rate burst) inputs some args = search rules

-- No law takes notice of turns without visits.
no-notice : (class : Scheduler) (inputs : ℕ) → TakesNoNotice (manner class inputs)
no-notice prio inputs = λ earlier moment. refl
no-notice round_robin inputs = λ earlier moment. ap (λ b. map (λ k. (b + k) % inputs) (range_with_len 0 inputs)) (busy-beginning inputs earlier)
no-notice (drr quanta) inputs = tt
no-notice (stride tickets) inputs = λ earlier moment. ap (λ passes. map (λ (i : ℕ × ℕ). i.0) (in_rising_order (enumerate_from 0 passes))) (busy-passes tickets earlier)
no-notice (shaper rate burst) inputs = λ earlier moment. ap (λ room. if room then 0 ∷ [] else []) (busy-room rate burst moment [] earlier)

-- a turn that is allowed after those with visits is allowed after all
pub allows-busy : (class : Scheduler) (inputs : ℕ) (earlier : List Turn) (t : Turn) → AllowsTurn class inputs (busy earlier) t → AllowsTurn class inputs earlier t
allows-busy class inputs earlier t h = record { within = h.within; follows = follows-busy (manner class inputs) inputs earlier t (no-notice class inputs) h.follows }
