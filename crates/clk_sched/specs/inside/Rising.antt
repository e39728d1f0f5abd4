-- The order in which a StrideSched asks its inputs, in words for proofs.
use Rattle.std.specs.Prelude.{ℕ, List}
use Rattle.clk_sched.specs.Laws.Stride.{goes_before}
use Rattle.clk_sched.specs.Sorting.{put_before, sorted}

-- an input, with its pass, put into a list in rising order of (pass, index)
abbrev pub put_in_order : ℕ × ℕ → List (ℕ × ℕ) → List (ℕ × ℕ)
put_in_order i others = put_before goes_before i others

-- inputs with their passes, in rising order of (pass, index)
abbrev pub in_rising_order : List (ℕ × ℕ) → List (ℕ × ℕ)
in_rising_order inputs = sorted goes_before inputs
