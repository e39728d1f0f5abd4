-- Elements and connections with tables of what the connections say of each element.
use Rattle.std.specs.Prelude.{ℕ, ◌+◌, ◌<◌, ◌≤◌, ◌≡◌, ◌==◌, List, [], ◌∷◌, length, get_or, max, if◌then◌else◌, Option, None}
use Rattle.std.specs.List.{AllByRecursion}
use Rattle.clk_syntax.specs.declared.naming.class.Role.{Role}
use Rattle.clk_syntax.specs.declared.naming.class.Role.TheVariants as role
use Rattle.clk_syntax.specs.declared.node.Link.{Link}
use Rattle.clk_syntax.specs.declared.checks.tables.InputUse.{InputUse}
use Rattle.clk_syntax.specs.declared.checks.tables.Graph.{Graph}
use Rattle.clk_syntax.specs.declared.limits.TheConstants.{MAX_TREE_BYTES}
use Rattle.clk_syntax.specs.Within.{IsLinkWithin}
use Rattle.clk_syntax.specs.Ports.{target, inputs_used}

-- how many connections lead to an element
abbrev pub count_to : ℕ → List Link → ℕ
count_to i [] = 0
count_to i (c ∷ more) = if c.to == i then count_to i more + 1 else count_to i more

-- what the connections use of the inputs of an element: how many lead to it, and one more than the greatest input that is connected
abbrev pub inputs_at : ℕ → List Link → InputUse
inputs_at i links = record { count = count_to i links; end = inputs_used i links }

-- a table of where the first connection from each of `n` elements leads
pub record IsTargets (n : ℕ) (links : List Link) (table : List (Option ℕ)) : Type 0 where
  pub len : length table ≡ n
  pub each : (i : ℕ) → i < n → get_or table i None ≡ target i links

-- a table of what the connections use of the inputs of each of `n` elements
pub record IsInputs (n : ℕ) (links : List Link) (table : List InputUse) : Type 0 where
  pub len : length table ≡ n
  pub each : (i : ℕ) → i < n → get_or table i (record { count = 0; end = 0 }) ≡ inputs_at i links

-- elements and connections among them, with their tables
pub record IsTabled (graph : Graph) : Type 0 where
  pub targets : IsTargets (length graph.nodes.now) graph.links.now graph.targets.items
  pub inputs : IsInputs (length graph.nodes.now) graph.links.now graph.inputs.items
  pub within : AllByRecursion (IsLinkWithin graph.nodes.now) graph.links.now
  pub few : length graph.nodes.now ≤ MAX_TREE_BYTES

-- how many pull inputs an element has, by what is connected
abbrev pub inputs_with : Role → ℕ → ℕ
inputs_with role.Source end = 0
inputs_with role.Queue end = 0
inputs_with role.Scheduler end = max 1 end
inputs_with (role.SchedulerOf n) end = n
inputs_with role.Device end = 1
