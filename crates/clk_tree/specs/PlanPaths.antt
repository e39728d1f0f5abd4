-- Where the outputs in a plan lead (Click's connections, followed from the output on).
use Rattle.std.specs.Prelude.{ℕ, ◌+◌, zero, suc, List, [], ◌∷◌, length, take, Bool, false, not, if◌then◌else◌, Option, Some, None, slice_get}
use Rattle.clk_packet.specs.Lists.{stands_in}
use Rattle.clk_tree.specs.Plan.{Planned}
use Rattle.clk_tree.specs.PlanTree.{is_device, device_count}

-- whether there is an element and it has an output, as all but devices have
abbrev pub has_output : Option Planned → Bool
has_output None = false
has_output (Some e) = not (is_device e.class)

-- the place of the element to which an element is connected; if there is none, the number of elements
abbrev pub place_fed : List Planned → ℕ → ℕ
place_fed [] i = 0
place_fed (e ∷ more) i = if stands_in i e.sources then 0 else place_fed more i + 1

-- the place so many steps on from an element, along outputs; a path ends at a device
abbrev pub place_after : List Planned → ℕ → ℕ → ℕ
place_after plan zero i = i
place_after plan (suc steps) i = if has_output (slice_get plan i) then place_after plan steps (place_fed plan i) else i

-- The number of the device at the end of the path from an element. A path has no more steps than there are elements.
abbrev pub device_of : List Planned → ℕ → ℕ
device_of plan i = device_count (take (place_after plan (length plan) i) plan)
