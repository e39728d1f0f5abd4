-- What the state of a StrideSched holds.
use Rattle.std.specs.Prelude.{◌≡◌, ℕ, ◌+◌, List, map}
use Rattle.std.specs.List.{enumerate_from}
use Rattle.clk_sched.specs.inside.Ranks.{Ranked}
use Rattle.clk_sched.specs.declared.session.stride.Passes.{Passes}
use Rattle.clk_sched.specs.Turns.{Turn}
use Rattle.clk_sched.specs.Laws.Stride.{stride_of, passes_of}
use Rattle.clk_sched.specs.inside.Rising.{in_rising_order}

-- What a StrideSched's row holds after these turns, the latest first: the inputs in rising order of (pass, index). `taken` is subtracted
-- from each pass.
pub record HoldsPasses (tickets : List ℕ) (turns : List Turn) (p : Passes) : Type 0 where
  pub taken : ℕ
  pub strides_are : p.strides.items ≡ map stride_of tickets
  pub row_is : map (λ (r : Ranked). (r.input, r.pass + taken)) p.row.items ≡ in_rising_order (enumerate_from 0 (passes_of tickets turns))
