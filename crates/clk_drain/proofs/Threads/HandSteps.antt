-- Open lines are made of queues and taps, one after another.
use Rattle.std.proofs.Common.{◌≡◌, ℕ, List, [], ◌∷◌, ◌++◌, drop, refl, rules}
use Rattle.clk_ruled.specs.Queue.{TapLists}
use Rattle.clk_drain.specs.declared.running.opening.LeafQueue.{LeafQueue}
use Rattle.clk_drain.specs.Line.{LineLists}
use Rattle.clk_drain.specs.inside.Handed.{lines_from, AreTapsOf}

-- Open lines were made of the first so many queues, and the taps of the others are to come.
pub record AreOpenLines (queues : List LeafQueue) (taps : List TapLists) (made : List LineLists) (place : ℕ) (rest : List TapLists) : Type 0 where
  pub left : AreTapsOf (drop place queues) rest
  pub all : made ++ lines_from (drop place queues) rest ≡ lines_from queues taps

lines-none : (queues : List LeafQueue) → lines_from queues [] ≡ []
lines-none [] = refl
lines-none (q ∷ queues) = refl

pub made-all : (queues : List LeafQueue) (taps : List TapLists) (made : List LineLists) (place : ℕ) (rest : List TapLists) → rest ≡ [] → AreOpenLines queues taps made place rest → made ≡ lines_from queues taps
made-all queues taps made place rest none h = search (rules, lines-none)
