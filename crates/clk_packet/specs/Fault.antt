-- The faults: each has a number, a name and fields, and a line that tells them (this project's own list).
use Rattle.std.specs.Prelude.{ℕ, List, [], ◌∷◌, ◌++◌, codes, decimal}
use Rattle.std.specs.List.{flat_map}
use Rattle.clk_packet.specs.declared.fault.Fault.{Fault}
use Rattle.clk_packet.specs.declared.fault.Fault.TheVariants.{Memory, BadText, UnknownClass, BadArgument, NameTwice, UnknownName, BadPort, PortTwice, PortMissing, WrongKind, NoDevice, ManyDevices, NotATree, BadTrace, UnknownSender, BadScript, TooManyPulls, TooLarge, Read, Write, Unsettled}

-- the number of a fault
abbrev pub number_of : Fault → ℕ
number_of Memory = 1
number_of (BadText offset) = 2
number_of (UnknownClass offset) = 3
number_of (BadArgument offset) = 4
number_of (NameTwice offset) = 5
number_of (UnknownName offset) = 6
number_of (BadPort offset) = 7
number_of (PortTwice offset) = 8
number_of (PortMissing offset) = 9
number_of (WrongKind offset) = 10
number_of NoDevice = 11
number_of (ManyDevices offset) = 12
number_of (NotATree offset) = 13
number_of (BadTrace row) = 14
number_of (UnknownSender sender) = 15
number_of (BadScript line) = 16
number_of (TooManyPulls pulls) = 17
number_of TooLarge = 18
number_of Read = 19
number_of Write = 20
number_of (Unsettled queue accepted capacity) = 21

-- the name of a fault
abbrev pub name_of : Fault → List ℕ
name_of Memory = codes "Memory"
name_of (BadText offset) = codes "BadText"
name_of (UnknownClass offset) = codes "UnknownClass"
name_of (BadArgument offset) = codes "BadArgument"
name_of (NameTwice offset) = codes "NameTwice"
name_of (UnknownName offset) = codes "UnknownName"
name_of (BadPort offset) = codes "BadPort"
name_of (PortTwice offset) = codes "PortTwice"
name_of (PortMissing offset) = codes "PortMissing"
name_of (WrongKind offset) = codes "WrongKind"
name_of NoDevice = codes "NoDevice"
name_of (ManyDevices offset) = codes "ManyDevices"
name_of (NotATree offset) = codes "NotATree"
name_of (BadTrace row) = codes "BadTrace"
name_of (UnknownSender sender) = codes "UnknownSender"
name_of (BadScript line) = codes "BadScript"
name_of (TooManyPulls pulls) = codes "TooManyPulls"
name_of TooLarge = codes "TooLarge"
name_of Read = codes "Read"
name_of Write = codes "Write"
name_of (Unsettled queue accepted capacity) = codes "Unsettled"

-- the fields of a fault, in the order in which its line tells them
abbrev pub fields_of : Fault → List ℕ
fields_of Memory = []
fields_of (BadText offset) = offset ∷ []
fields_of (UnknownClass offset) = offset ∷ []
fields_of (BadArgument offset) = offset ∷ []
fields_of (NameTwice offset) = offset ∷ []
fields_of (UnknownName offset) = offset ∷ []
fields_of (BadPort offset) = offset ∷ []
fields_of (PortTwice offset) = offset ∷ []
fields_of (PortMissing offset) = offset ∷ []
fields_of (WrongKind offset) = offset ∷ []
fields_of NoDevice = []
fields_of (ManyDevices offset) = offset ∷ []
fields_of (NotATree offset) = offset ∷ []
fields_of (BadTrace row) = row ∷ []
fields_of (UnknownSender sender) = sender ∷ []
fields_of (BadScript line) = line ∷ []
fields_of (TooManyPulls pulls) = pulls ∷ []
fields_of TooLarge = []
fields_of Read = []
fields_of Write = []
fields_of (Unsettled queue accepted capacity) = queue ∷ accepted ∷ capacity ∷ []

-- the line of a fault: `fault N: Name`, a space and a number for each field, and a line feed
abbrev pub fault_text : Fault → List ℕ
fault_text fault =
    codes "fault " ++ (decimal (number_of fault) ++ (codes ": " ++ (name_of fault ++ (flat_map (λ n. codes " " ++ decimal n) (fields_of fault) ++ codes "\n"))))
