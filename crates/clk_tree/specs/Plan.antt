-- The plan that a text denotes (this project's own choice; Click's connections).
use Rattle.std.specs.Prelude.{◌≡◌, ℕ, ◌+◌, List, [], ◌∷◌, length, map, filter, ◌==◌, ◌&&◌, Bool, if◌then◌else◌, Option, false}
use Rattle.std.specs.Option.{option_map, option_map_or}
use Rattle.std.specs.List.{filter_map, range_with_len}
use Rattle.clk_syntax.specs.declared.naming.class.Role.{Role}
use Rattle.clk_syntax.specs.declared.naming.class.Role.TheVariants as role
use Rattle.clk_syntax.specs.declared.node.Link.{Link}
use Rattle.clk_syntax.specs.Source.{Element, Wire}
use Rattle.clk_syntax.specs.Classes.{Class, role_of}
use Rattle.clk_syntax.specs.Declarations.{class_of}
use Rattle.clk_syntax.specs.Ports.{target, inputs_of}
use Rattle.clk_syntax.specs.Faults.{links_of}
use Rattle.clk_syntax.specs.Reading.{IsFaultless, elements_of, wires_of}

-- An element of a plan: its name, its class, and the places of the elements that are connected to it. Of a queue these are its senders in
-- order of declaration, of any other element the one at each input.
pub record Planned : Type 0 where
  pub name : List ℕ
  pub class : Class
  pub sources : List ℕ

-- the place of the element connected to this input of an element, or 0 if there is none
abbrev pub source_at : List Link → ℕ → ℕ → ℕ
source_at [] i input = 0
source_at (c ∷ more) i input = if (c.to == i) && (c.input == input) then c.from else source_at more i input

-- whether the second of two elements is connected to the first
abbrev pub is_connected : List Link → ℕ → ℕ → Bool
is_connected links i j = option_map_or (λ other. other == i) (target j links) false

-- the places of the elements connected to an element, of which there are so many in all
abbrev pub sources_of : ℕ → List Link → ℕ → Role → List ℕ
sources_of count links i role.Queue = filter (is_connected links i) (range_with_len 0 count)
sources_of count links i r = map (source_at links i) (range_with_len 0 (inputs_of i r links))

-- an element whose class is known
pub record Known : Type 0 where
  pub name : List ℕ
  pub class : Class

abbrev pub known : Element → Option Known
known e = option_map (λ class. record { name = e.name.letters; class = class }) (class_of e)

-- the elements whose class is known
abbrev pub all_known : List Element → List Known
all_known elements = filter_map known elements

-- an element of a plan, at this place
abbrev pub planned_at : ℕ → List Link → ℕ → Known → Planned
planned_at count links i k = record { name = k.name; class = k.class; sources = sources_of count links i (role_of k.class) }

-- the elements of a plan, of which there are so many in all, from this place on
abbrev pub planned_from : ℕ → List Link → ℕ → List Known → List Planned
planned_from count links i [] = []
planned_from count links i (k ∷ more) = planned_at count links i k ∷ planned_from count links (i + 1) more

-- the plan of these elements and wires
abbrev pub plan_of : List Element → List Wire → List Planned
plan_of elements wires = planned_from (length (all_known elements)) (links_of elements wires) 0 (all_known elements)

-- A text denotes a plan: its statements have no fault, and the plan is what they declare and connect.
pub record Denotes (text : List ℕ) (plan : List Planned) : Type 0 where
  pub faultless : IsFaultless text
  pub is : plan ≡ plan_of (elements_of text faultless.statements) (wires_of text faultless.statements)
