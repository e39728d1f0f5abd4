-- Inputs that are queues whose leaves follow one another.
use Rattle.std.proofs.Common.{◌≡◌, ℕ, ◌+◌, ◌<◌, List, slice_get, Some, IsSome, rules}
use Rattle.clk_sched.specs.declared.session.inputs.Input.{Input}
use Rattle.clk_sched.specs.declared.session.inputs.Input.TheVariants.{Queue}
use Rattle.clk_sched.specs.declared.session.inputs.Inputs.{Inputs}
use Rattle.clk_sched.specs.inside.Places.{input_at}
use Rattle.clk_sched.specs.inside.QueuesFrom.{AreQueuesFrom}
use Rattle.clk_sched.proofs.Lists.Members.{some-below}

-- so many inputs are queues, whose leaves follow one another from a leaf on
abbrev pub AreQueuesSoFar : ℕ → ℕ → List Input → Type 0
AreQueuesSoFar leaf count each = (i : ℕ) → i < count → slice_get each i ≡ Some (Queue (leaf + i))

-- what stands at an input that is there, of a node whose inputs are such
pub queue-stands : (table : List Inputs) (x i leaf : ℕ) (p : Inputs) → slice_get table x ≡ Some p → AreQueuesFrom leaf p.each.items → IsSome (input_at table x i) → input_at table x i ≡ Some (Queue (leaf + i))
queue-stands table x i leaf p e row there = search (rules, some-below)
