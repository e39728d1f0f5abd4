-- What a PrioSched does.
use Rattle.std.specs.Prelude.{ℕ, List}
use Rattle.std.specs.List.{range_with_len}

-- A PrioSched asks input 0, then 1 and so on, and returns the packet of the first input that has one (Click: PrioSched).
abbrev pub priority_order : ℕ → List ℕ
priority_order inputs = range_with_len 0 inputs
