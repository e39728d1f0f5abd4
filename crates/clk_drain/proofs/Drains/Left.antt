-- What is left to a drain, and why it isn't given.
use Rattle.std.proofs.Common.{◌≡◌, ◌⊎◌, ℕ, ◌+◌, ◌≤◌, ◌<◌, true, List, [], ◌∷◌, length, map, refl, arith, rules}
use Rattle.std.specs.List.{AllByRecursion}
use Rattle.clk_packet.specs.declared.fault.Fault.{Fault}
use Rattle.clk_packet.specs.declared.fault.Fault.TheVariants.{Memory}
use Rattle.clk_sched.specs.Tree.{leaves_distinct}
use Rattle.clk_sched.specs.Closing.{held_in_all, left_in}
use Rattle.clk_sched.specs.Conservation.{ConservesCounts}
use Rattle.clk_sched.specs.Results.{emitted}
use Rattle.clk_sched.specs.Run.{IsRun}
use Rattle.clk_sched.specs.Session.{Progress}
use Rattle.clk_packet.specs.Lists.{AreRising}
use Rattle.clk_drain.specs.Line.{LineLists, leaves_of, AreLinesOf}
use Rattle.clk_drain.specs.Closing.{accepted_over, evicted_over, left_over, seated, IsFaultOfDrain}
use Rattle.clk_drain.specs.Lost.{HasReached, NamesFirstLost}
use Rattle.clk_drain.specs.Parts.{IsWithin}
use Rattle.clk_drain.specs.inside.Parts.{AreGatheredFrom, IsDrainOf, IsGathered, IsSettledLine, held_of, held_at}
use Rattle.clk_drain.proofs.Leaves.Still.{still-accepted, still-evicted, still-seated}
use Rattle.clk_drain.proofs.Drains.SettleSteps.{each-reached}
use Rattle.clk_packet.proofs.Callers.Lists.{rising-distinct}
use Rattle.clk_drain.proofs.Drains.AllGiven.{taken_over, taken-counts, sum-same}

-- how many packets the queues of lines hold in all
abbrev held_over : List LineLists → ℕ
held_over [] = 0
held_over (l ∷ lines) = held_of l + held_over lines

-- That is what is held at their leaves.
held-behind : (l : LineLists) (lines : List LineLists) (qs : List ℕ) → AllByRecursion (λ m. l.leaf < m) qs → held_in_all (held_at (l ∷ lines)) qs ≡ held_in_all (held_at lines) qs
held-behind l lines [] h = refl
held-behind l lines (q ∷ qs) h = search (rules, (held-behind l lines qs h.1))

held-sum : (lines : List LineLists) → AreRising (leaves_of lines) → held_in_all (held_at lines) (leaves_of lines) ≡ held_over lines
held-sum [] rise = refl
held-sum (l ∷ lines) rise = search (rules, held-behind, (held-sum lines rise.1))

-- What was accepted was evicted, or taken, or is held.
held-counts : (lines : List LineLists) → AllByRecursion IsWithin lines → evicted_over lines + taken_over lines + held_over lines ≡ accepted_over lines
held-counts [] h = refl
held-counts (l ∷ lines) h = search (rules, (held-counts lines h.1))

each-within : (lines : List LineLists) → AllByRecursion IsGathered lines → AllByRecursion IsWithin lines
each-within [] h = tt
each-within (l ∷ lines) h = (h.0.within, each-within lines h.1)

-- What was evicted and what came out is within what was accepted, and the rest is what queues and heads hold.
pub record IsRest (session : Progress) (lines : List LineLists) : Type 0 where
  pub within : evicted_over lines + length (emitted session.log) ≤ accepted_over lines
  pub held : left_over session lines ≡ left_in session.tree session.log (held_at lines)

pub rest-held : (session : Progress) (lines : List LineLists) → leaves_distinct session.tree ≡ true → ConservesCounts session.tree → IsRun session.tree session.log → AreLinesOf session lines → AllByRecursion IsGathered lines
    → IsRest session lines
rest-held session lines distinct conserves run own gathered = search (rules, taken-counts, held-counts, each-within, sum-same, rising-distinct, held-sum)

-- What was to be drained from the gathered lines.
pub record IsLeft (session : Progress) (lines gathered : List LineLists) (left : ℕ) : Type 0 where
  pub gathers : AreGatheredFrom lines gathered
  pub left_is : left ≡ left_over session gathered

pub left-is : (session : Progress) (lines gathered : List LineLists) (left : ℕ) → IsLeft session lines gathered left → left ≡ left_over session lines
left-is session lines gathered left h = search (rules, still-accepted, still-evicted)

-- why it isn't settled
pub fault-unsettled : (session new : Progress) (lines gathered after : List LineLists) (moment left : ℕ) (fault : Fault) → AreGatheredFrom lines gathered → IsDrainOf session gathered moment left new after → (fault ≡ Memory) ⊎ NamesFirstLost (map seated after) fault → IsFaultOfDrain lines fault
fault-unsettled session new lines gathered after moment left fault gathers drained o = search (rules, still-seated)

-- Each queue that was settled reached its capacity where it lost packets.
pub drained-reached : (session new : Progress) (lines gathered after : List LineLists) (moment left : ℕ) → AreGatheredFrom lines gathered → IsDrainOf session gathered moment left new after → AllByRecursion IsSettledLine after → AllByRecursion HasReached (map seated lines)
drained-reached session new lines gathered after moment left gathers drained settled = grind (arith, still-seated, each-reached)
