-- Inputs that are queues whose leaves follow one another.
use Rattle.std.specs.Prelude.{◌≡◌, ℕ, ◌<◌, ◌+◌, ◌^◌, List, length, Some, slice_get}
use Rattle.clk_sched.specs.declared.session.inputs.Input.{Input}
use Rattle.clk_sched.specs.declared.session.inputs.Input.TheVariants.{Queue}

-- the inputs are queues, whose leaves follow one another from a leaf on
abbrev pub AreQueuesFrom : ℕ → List Input → Type 0
AreQueuesFrom leaf each = (leaf + length each < 2 ^ 16) × ((i : ℕ) → i < length each → slice_get each i ≡ Some (Queue (leaf + i)))
