-- The checks of ports and of trees as the code makes them: what they find at one connection or element.
use Rattle.std.specs.Prelude.{ℕ, ◌+◌, ◌<◌, ◌≡◌, ◌==◌, List, [], ◌∷◌, length, get_or, Bool, true, false, not, ◌&&◌, if◌then◌else◌, Option, None}
use Rattle.std.specs.Option.{option_or, is_some}
use Rattle.clk_syntax.specs.declared.naming.class.Role.{Role}
use Rattle.clk_syntax.specs.declared.naming.class.Role.TheVariants as role
use Rattle.clk_syntax.specs.declared.node.Node.{Node}
use Rattle.clk_syntax.specs.declared.node.Link.{Link}
use Rattle.clk_syntax.specs.declared.checks.tables.InputUse.{InputUse}
use Rattle.clk_syntax.specs.Tables.{inputs_with}
use Rattle.clk_syntax.specs.Declarations.{fails_at}
use Rattle.clk_syntax.specs.Ports.{role_at, has_output, has_input, is_source, is_queue, differ, inputs_of, output_connected, all_connected, follow}

-- the first failure among some, each of which fails or not by itself
abbrev pub first_of : {A : Type 0} → (A → Option ℕ) → List A → Option ℕ
first_of fails [] = None
first_of fails (x ∷ more) = option_or (fails x) (first_of fails more)

-- where a connection uses a port that isn't there
abbrev pub bad_link : List Node → Link → Option ℕ
bad_link nodes c =
    option_or (fails_at (not (has_output (role_at nodes c.from) c.output)) c.from_place) (fails_at (not (has_input (role_at nodes c.to) c.input)) c.to_place)

-- where a connection joins push to pull
abbrev pub mixed_link : List Node → Link → Option ℕ
mixed_link nodes c = fails_at (differ (is_source (role_at nodes c.from)) (is_queue (role_at nodes c.to))) c.from_place

-- where a connection uses a port that was used, by what tables say of outputs and inputs
abbrev pub again : List Node → List Bool → (ℕ → ℕ → Bool) → Link → Option ℕ
again nodes outputs inputs c =
    option_or (fails_at (get_or outputs c.from false) c.from_place) (fails_at (not (is_queue (role_at nodes c.to)) && inputs c.to c.input) c.to_place)

-- how many connections lead to an input of an element
abbrev pub count_at : ℕ → ℕ → List Link → ℕ
count_at i input [] = 0
count_at i input (c ∷ more) = if (c.to == i) && (c.input == input) then count_at i input more + 1 else count_at i input more

-- a table of the element so many steps on from each
pub record IsFollowed (n : ℕ) (links : List Link) (steps : ℕ) (table : List ℕ) : Type 0 where
  pub len : length table ≡ n
  pub each : (i : ℕ) → i < n → get_or table i 0 ≡ follow links steps i

-- a table of where the second table leads from where the first does
pub record IsComposed (first second table : List ℕ) : Type 0 where
  pub len : length table ≡ length first
  pub each : (i : ℕ) → i < length first → get_or table i 0 ≡ get_or second (get_or first i 0) 0

-- whether an element's output is connected, if it has one, by where it leads
abbrev pub leads_on : Role → Option ℕ → Bool
leads_on role.Device to = true
leads_on r to = is_some to

-- whether an element's pull inputs are connected, by how many connections lead to them, if none is used twice
abbrev pub has_inputs : Role → InputUse → Bool
has_inputs role.Source inputs = true
has_inputs role.Queue inputs = true
has_inputs r inputs = inputs.count == inputs_with r inputs.end

-- whether an element's output and its pull inputs are connected
abbrev pub is_connected : ℕ → Role → List Link → Bool
is_connected i r links = output_connected i r links && all_connected i (inputs_of i r links) links
