-- The checks of ports and of trees, each with the place at which it fails first (Click's rules of connections, and trees of pull outputs
-- as this project chose them). Elements are named by their places in the list of all.
use Rattle.std.specs.Prelude.{ℕ, ◌+◌, List, [], ◌∷◌, length, Bool, true, false, not, ◌==◌, ◌&&◌, nat_lt, nat_le, max, if◌then◌else◌, Option, Some, None, suc, zero, slice_get, unwrap_or}
use Rattle.std.specs.Option.{option_or, option_map}
use Rattle.std.specs.List.{list_any}
use Rattle.clk_syntax.specs.declared.naming.class.Role.{Role}
use Rattle.clk_syntax.specs.declared.naming.class.Role.TheVariants as role
use Rattle.clk_syntax.specs.declared.node.Node.{Node}
use Rattle.clk_syntax.specs.declared.node.Link.{Link}
use Rattle.clk_syntax.specs.declared.limits.TheConstants.{MAX_PORT}
use Rattle.clk_syntax.specs.Declarations.{first_failure, fails_at}

abbrev pub role_at : List Node → ℕ → Option Role
role_at nodes i = option_map (λ (n : Node). n.role) (slice_get nodes i)

abbrev pub is_source : Option Role → Bool
is_source (Some role.Source) = true
is_source r = false

abbrev pub is_queue : Option Role → Bool
is_queue (Some role.Queue) = true
is_queue r = false

abbrev pub is_device : Option Role → Bool
is_device (Some role.Device) = true
is_device r = false

abbrev pub is_scheduler : Option Role → Bool
is_scheduler (Some role.Scheduler) = true
is_scheduler (Some (role.SchedulerOf n)) = true
is_scheduler r = false

-- whether an element of these ports has this output: all but a device have output 0
abbrev pub has_output : Option Role → ℕ → Bool
has_output None output = false
has_output (Some role.Device) output = false
has_output (Some r) output = output == 0

-- whether an element of these ports has this input
abbrev pub has_input : Option Role → ℕ → Bool
has_input None input = false
has_input (Some role.Source) input = false
has_input (Some role.Queue) input = input == 0
has_input (Some role.Scheduler) input = nat_le input MAX_PORT
has_input (Some (role.SchedulerOf n)) input = nat_lt input n && nat_le input MAX_PORT
has_input (Some role.Device) input = input == 0

-- fault 7: the first place at which a connection uses a port that the element doesn't have
abbrev pub bad_port : List Node → List Link → Option ℕ
bad_port nodes links = first_failure (λ earlier (c : Link).
    option_or (fails_at (not (has_output (role_at nodes c.from) c.output)) c.from_place) (fails_at (not (has_input (role_at nodes c.to) c.input)) c.to_place)) links

-- whether some connections use the output of an element
abbrev pub uses_output : ℕ → List Link → Bool
uses_output i links = list_any (λ (c : Link). c.from == i) links

-- whether some connections use this input of an element
abbrev pub uses_input : ℕ → ℕ → List Link → Bool
uses_input i input links = list_any (λ (c : Link). (c.to == i) && (c.input == input)) links

-- fault 8: the first place at which a connection uses an output, or a pull input, that an earlier one used
abbrev pub port_twice : List Node → List Link → Option ℕ
port_twice nodes links = first_failure (λ earlier (c : Link).
    option_or (fails_at (uses_output c.from earlier) c.from_place) (fails_at (not (is_queue (role_at nodes c.to)) && uses_input c.to c.input earlier) c.to_place)) links

-- how many inputs the connections give an element that has as many as are connected: one more than the greatest
abbrev pub inputs_used : ℕ → List Link → ℕ
inputs_used i [] = 0
inputs_used i (c ∷ more) = if c.to == i then max (c.input + 1) (inputs_used i more) else inputs_used i more

-- how many pull inputs an element has, which are numbered from 0
abbrev pub inputs_of : ℕ → Role → List Link → ℕ
inputs_of i role.Source links = 0
inputs_of i role.Queue links = 0
inputs_of i role.Scheduler links = max 1 (inputs_used i links)
inputs_of i (role.SchedulerOf n) links = n
inputs_of i role.Device links = 1

-- whether each of so many inputs of an element is connected
abbrev pub all_connected : ℕ → ℕ → List Link → Bool
all_connected i zero links = true
all_connected i (suc n) links = uses_input i n links && all_connected i n links

abbrev pub output_connected : ℕ → Role → List Link → Bool
output_connected i role.Device links = true
output_connected i r links = uses_output i links

-- fault 9: the first element, from this one on, whose output or a pull input isn't connected
abbrev pub port_missing_from : ℕ → List Node → List Link → Option ℕ
port_missing_from i [] links = None
port_missing_from i (node ∷ more) links =
    option_or (fails_at (not (output_connected i node.role links && all_connected i (inputs_of i node.role links) links)) node.place) (port_missing_from (i + 1) more links)

abbrev pub port_missing : List Node → List Link → Option ℕ
port_missing nodes links = port_missing_from 0 nodes links

abbrev pub differ : Bool → Bool → Bool
differ true b = not b
differ false b = b

-- fault 10: the first place at which a push output is connected to a pull input, or a pull output to a push input
abbrev pub wrong_kind : List Node → List Link → Option ℕ
wrong_kind nodes links = first_failure (λ earlier (c : Link).
    fails_at (differ (is_source (role_at nodes c.from)) (is_queue (role_at nodes c.to))) c.from_place) links

-- whether a device is declared; if none is, that is fault 11
abbrev pub has_device : List Node → Bool
has_device nodes = list_any (λ (n : Node). is_device (Some n.role)) nodes

-- where the first connection from an element leads, if one does
abbrev pub target : ℕ → List Link → Option ℕ
target i [] = None
target i (c ∷ more) = if c.from == i then Some c.to else target i more

-- the element to which an element is connected, or the element itself if it isn't connected
abbrev pub next : List Link → ℕ → ℕ
next links i = unwrap_or (target i links) i

-- the element so many steps on
abbrev pub follow : List Link → ℕ → ℕ → ℕ
follow links zero i = i
follow links (suc n) i = follow links n (next links i)

-- Whether the outputs from an element lead to a device: one stands as many steps on as there are elements. A longer way would come back to
-- where it was.
abbrev pub leads : List Node → List Link → ℕ → Bool
leads nodes links i = is_device (role_at nodes (follow links (length nodes) i))

-- fault 13: the first scheduler or Shaper, from this element on, whose outputs don't lead to a device
abbrev pub not_a_tree_from : ℕ → List Node → List Node → List Link → Option ℕ
not_a_tree_from i [] nodes links = None
not_a_tree_from i (node ∷ more) nodes links =
    option_or (fails_at (is_scheduler (Some node.role) && not (leads nodes links i)) node.place) (not_a_tree_from (i + 1) more nodes links)

abbrev pub not_a_tree : List Node → List Link → Option ℕ
not_a_tree nodes links = not_a_tree_from 0 nodes nodes links
