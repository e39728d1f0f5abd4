-- What the device does.
use Rattle.std.specs.Prelude.{[], ◌∷◌}
use Rattle.clk_sched.specs.Turns.{Turn, AsksInOrder}

-- The device visits its one input once in each pull.
abbrev pub IsDeviceTurn : Turn → Type 0
IsDeviceTurn t = AsksInOrder (0 ∷ []) t.visits
