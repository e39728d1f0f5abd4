-- Lines are settled one after another.
use Rattle.std.proofs.Common.{◌≡◌, ◌⊎◌, ℕ, List, [], ◌∷◌, ◌++◌, map, refl, ap, rules, inl, inr, subst}
use Rattle.std.specs.List.{AllByRecursion}
use Rattle.std.proofs.lemmas.List.{map-append}
use Rattle.clk_packet.specs.declared.fault.Fault.{Fault}
use Rattle.clk_packet.specs.declared.tally.Tally.{Tally}
use Rattle.clk_packet.specs.declared.fault.Fault.TheVariants.{Memory}
use Rattle.clk_ruled.specs.Queue.{SeatLists}
use Rattle.clk_ruled.specs.Rule.{senders_of}
use Rattle.clk_ruled.specs.Settle.{AreTogether, IsFaultOfSettle, HasLostBelow}
use Rattle.clk_drain.specs.Line.{LineLists, seats_of, senders_at}
use Rattle.clk_drain.specs.Closing.{seated, tallies_in}
use Rattle.clk_drain.specs.Lost.{HasReached, NamesFirstLost}
use Rattle.clk_drain.specs.inside.Parts.{IsSettledLine}

-- Some of the lines are settled, these tallies are theirs, and the others are to come.
pub record AreSettling (lines done rest : List LineLists) (tallies : List Tally) : Type 0 where
  pub settled : AllByRecursion IsSettledLine done
  pub theirs : tallies ≡ tallies_in done
  pub all : done ++ rest ≡ lines

-- a queue that is settled reached its capacity where it lost packets
pub each-reached : (lines : List LineLists) → AllByRecursion IsSettledLine lines → AllByRecursion HasReached (map seated lines)
each-reached [] h = tt
each-reached (l ∷ lines) h = (h.0.is.reached, each-reached lines h.1)

-- The senders that a tap's queue was opened with are those of its seats.
named : (seats : List SeatLists) → map (λ (r : ℕ × ℕ). r.0) (map (λ (l : SeatLists). (l.sender, l.room)) seats) ≡ senders_at seats
named [] = refl
named (l ∷ seats) = ap (λ rest. l.sender ∷ rest) (named seats)

its-senders : (l : LineLists) → AreTogether l.tap l.closed → senders_of l.tap.setup ≡ senders_at (seats_of l)
its-senders l together = search (rules, named)

-- a line that can't be settled, behind those that are
unsettled-behind : (done rest : List LineLists) (l : LineLists) (fault : Fault) → AllByRecursion IsSettledLine done → AreTogether l.tap l.closed → IsFaultOfSettle l.tap l.closed l.leaf fault → (fault ≡ Memory) ⊎ NamesFirstLost (map seated (done ++ l ∷ rest)) fault
unsettled-behind done rest l fault h together (inl memory) = inl memory
unsettled-behind done rest l fault h together (inr why) = inr (record {
  earlier = map seated done;
  first = seated l;
  later = map seated rest;
  all = map-append seated done (l ∷ rest);
  reached = each-reached done h;
  taken = l.tap.taken;
  below = subst (λ senders. HasLostBelow l.tap.setup.kind l.tap.setup.capacity senders (seats_of l) l.tap.taken) (its-senders l together) why.1;
  fault_is = why.0;
})

pub unsettled-next : (lines done rest : List LineLists) (l : LineLists) (tallies : List Tally) (before : List LineLists) (fault : Fault) → before ≡ l ∷ rest → AreTogether l.tap l.closed → IsFaultOfSettle l.tap l.closed l.leaf fault → AreSettling lines done before tallies
    → (fault ≡ Memory) ⊎ NamesFirstLost (map seated lines) fault
unsettled-next lines done rest l tallies before fault next together is h = search (rules, unsettled-behind)
