-- The canonical text of a plan (this project's own choice).
use Rattle.std.specs.Prelude.{ℕ, ◌+◌, List, [], ◌∷◌, ◌++◌, map, Option, Some, None, codes, decimal, slice_get}
use Rattle.std.specs.List.{flat_map}
use Rattle.clk_packet.specs.declared.packet.Kind.{Kind}
use Rattle.clk_packet.specs.declared.packet.Kind.TheVariants.{TailDrop, FrontDrop}
use Rattle.clk_packet.specs.Scheduler as sched
use Rattle.clk_packet.specs.Scheduler.{name_text}
use Rattle.clk_syntax.specs.Classes.{Class, sender, queue, scheduler, device}
use Rattle.clk_tree.specs.Plan.{Planned}

-- the name of a class of queue, by its kind
abbrev pub queue_text : Kind → List ℕ
queue_text TailDrop = codes "Queue"
queue_text FrontDrop = codes "FrontDropQueue"

-- the name of a class
abbrev pub class_text : Class → List ℕ
class_text (sender n) = codes "Sender"
class_text (queue kind capacity) = queue_text kind
class_text (scheduler s) = name_text (sched.name_of s)
class_text (device word) = codes "ToDevice"

-- the arguments of a class, all of them
abbrev pub arguments_of : Class → List (List ℕ)
arguments_of (sender n) = decimal n ∷ []
arguments_of (queue kind capacity) = decimal capacity ∷ []
arguments_of (scheduler s) = map decimal (sched.arguments_of s)
arguments_of (device word) = word ∷ []

-- `(WORD, WORD, ..)`, or nothing if there are no words
abbrev pub arguments_text : List (List ℕ) → List ℕ
arguments_text [] = []
arguments_text (word ∷ more) = codes "(" ++ (word ++ (flat_map (λ w. codes ", " ++ w) more ++ codes ")"))

-- the line of an element: `NAME :: CLASS(WORD, ..);`
abbrev pub element_text : Planned → List ℕ
element_text e = e.name ++ (codes " :: " ++ (class_text e.class ++ (arguments_text (arguments_of e.class) ++ codes ";\n")))

abbrev pub name_of : Option Planned → List ℕ
name_of None = []
name_of (Some e) = e.name

-- the line of a connection: `NAME [0] -> [INPUT] NAME;`
abbrev pub connection_text : List Planned → ℕ → ℕ → List ℕ → List ℕ
connection_text plan source input name =
    name_of (slice_get plan source) ++ (codes " [0] -> [" ++ (decimal input ++ (codes "] " ++ (name ++ codes ";\n"))))

-- the lines of the connections to the inputs of an element, from this input on
abbrev pub inputs_text : List Planned → List ℕ → ℕ → List ℕ → List ℕ
inputs_text plan name input [] = []
inputs_text plan name input (s ∷ more) = connection_text plan s input name ++ inputs_text plan name (input + 1) more

-- the lines of the connections to an element of a class: those of a queue are all to its input 0
abbrev pub class_inputs_text : List Planned → List ℕ → List ℕ → Class → List ℕ
class_inputs_text plan name sources (queue kind capacity) = flat_map (λ s. connection_text plan s 0 name) sources
class_inputs_text plan name sources class = inputs_text plan name 0 sources

abbrev pub connections_text : List Planned → Planned → List ℕ
connections_text plan e = class_inputs_text plan e.name e.sources e.class

-- A line for each element in order of declaration, and then a line for each connection. Connections are in order of the element that they
-- lead to, its input, and the element that they come from.
abbrev pub canonical_text : List Planned → List ℕ
canonical_text plan = flat_map element_text plan ++ flat_map (connections_text plan) plan
