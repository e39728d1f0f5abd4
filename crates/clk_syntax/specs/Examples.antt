-- Texts of worked examples with their faults, and elements and links for the checks of ports and shapes.
use Rattle.std.specs.Prelude.{ℕ, List, [], ◌∷◌, replicate, codes}
use Rattle.clk_syntax.specs.declared.naming.class.Role.TheVariants as role
use Rattle.clk_syntax.specs.declared.node.Node.{Node}
use Rattle.clk_syntax.specs.declared.node.Link.{Link}

-- so many spaces, which declare no device
abbrev pub spaces : ℕ → List ℕ
spaces n = replicate n 32

-- so many question marks, which can't stand anywhere
abbrev pub question_marks : ℕ → List ℕ
question_marks n = replicate n 63

-- a chain of names that aren't declared; no device is declared either
abbrev pub unknown_names : List ℕ
unknown_names = codes "a -> b;"

-- Texts with two faults that stand next to each other in the order of faults. The one that counts stands behind the other in the text, if
-- both have a place.

-- a name is declared twice, and then the grammar is broken
abbrev pub twice_then_broken : List ℕ
twice_then_broken = codes "q :: Queue; q :: Queue; ?"

-- a class is unknown, and then a name is declared twice
abbrev pub unknown_class_then_twice : List ℕ
unknown_class_then_twice = codes "q :: Que; q :: Queue;"

-- an argument is bad, and then a class is unknown
abbrev pub bad_argument_then_unknown_class : List ℕ
bad_argument_then_unknown_class = codes "q :: Queue(0); r :: Que;"

-- a name is unknown, and then an argument is bad
abbrev pub unknown_name_then_bad_argument : List ℕ
unknown_name_then_bad_argument = codes "a -> b; q :: Queue(0);"

-- a port is bad, and then a name is unknown
abbrev pub bad_port_then_unknown_name : List ℕ
bad_port_then_unknown_name = codes "q :: Queue; q [1] -> q; a -> q;"

-- an output is used twice, and then a port is bad
abbrev pub port_twice_then_bad_port : List ℕ
port_twice_then_bad_port = codes "q :: Queue; r :: PrioSched; q -> r; q -> [1] r; q [1] -> r;"

-- the output of r isn't connected, and then that of q is used twice
abbrev pub port_missing_then_twice : List ℕ
port_missing_then_twice = codes "q :: Queue; r :: PrioSched; q -> r; q -> [1] r;"

-- a Sender is connected to a device, and then an output isn't connected
abbrev pub wrong_kind_then_port_missing : List ℕ
wrong_kind_then_port_missing = codes "s :: Sender(0); d :: ToDevice(x); s -> d; q :: Queue;"

-- a Sender is connected to a scheduler, and there is no device
abbrev pub wrong_kind_and_no_device : List ℕ
wrong_kind_and_no_device = codes "s :: Sender(0); r :: PrioSched; s -> r -> [1] r;"

-- a scheduler leads to itself, and there is no device
abbrev pub not_a_tree_and_no_device : List ℕ
not_a_tree_and_no_device = codes "r :: PrioSched; r -> r;"

-- a device, and a scheduler
abbrev pub device_and_loop : List Node
device_and_loop = record { place = 0; role = role.Device } ∷ record { place = 18; role = role.Scheduler } ∷ []

-- the scheduler leads to its own input 64: it doesn't lead to a device, and has more inputs than allowed
abbrev pub loop_at_64 : List Link
loop_at_64 = record { from = 1; output = 0; input = 64; to = 1; from_place = 35; to_place = 45 } ∷ []
