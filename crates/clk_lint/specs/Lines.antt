-- The lines that tell the warnings of a plan (this project's own format).
use Rattle.std.specs.Prelude.{ℕ, Bool, true, false, List, [], ◌++◌, codes, decimal, slice_get}
use Rattle.std.specs.List.{flat_map}
use Rattle.clk_tree.specs.Plan.{Planned}
use Rattle.clk_tree.specs.Canonical.{name_of}
use Rattle.clk_lint.specs.declared.warning.Warning.{Warning}
use Rattle.clk_lint.specs.declared.warning.Warning.TheVariants.{SmallQuantum, SmallBurst, UnusedQueue, SameStride, OneInput, SmallQueue}
use Rattle.clk_lint.specs.Load.{Trace}
use Rattle.clk_lint.specs.Warnings.{warnings}

-- the place of the element that a warning is about
abbrev pub element_of : Warning → ℕ
element_of (SmallQuantum element input quantum longest preferred) = element
element_of (SmallBurst element rate burst) = element
element_of (UnusedQueue element) = element
element_of (SameStride element input other stride) = element
element_of (OneInput element) = element
element_of (SmallQueue element capacity sender packets) = element

-- the input that a warning is about, if it is about one
abbrev pub place_text : Warning → List ℕ
place_text (SmallQuantum element input quantum longest preferred) = codes " input " ++ decimal input
place_text (SameStride element input other stride) = codes " input " ++ decimal input
place_text warning = []

-- what a DRRSched may lose that a PrioSched above it prefers to another input
abbrev pub priority_text : Bool → List ℕ
priority_text true = codes ", and it loses its priority"
priority_text false = []

-- what is said of a quantum below the longest packet
abbrev pub quantum_text : (quantum longest : ℕ) → (preferred : Bool) → List ℕ
quantum_text quantum longest preferred =
    (codes "quantum " ++ decimal quantum) ++ (codes " is below the longest packet, " ++ decimal longest) ++ priority_text preferred

-- what is said of a burst below the rate
abbrev pub burst_text : (rate burst : ℕ) → List ℕ
burst_text rate burst = (codes "burst " ++ decimal burst) ++ (codes " is below the rate, " ++ decimal rate)

-- what is said of tickets whose stride another input has too
abbrev pub stride_text : (other stride : ℕ) → List ℕ
stride_text other stride = (codes "its tickets have the stride of input " ++ decimal other) ++ (codes ", " ++ decimal stride)

-- what is said of a queue that holds fewer packets than a sender has
abbrev pub capacity_text : (capacity sender packets : ℕ) → List ℕ
capacity_text capacity sender packets =
    (codes "capacity " ++ decimal capacity) ++ (codes " is below the packets of sender " ++ decimal sender) ++ (codes ", " ++ decimal packets)

-- what a warning says
abbrev pub said_text : Warning → List ℕ
said_text (SmallQuantum element input quantum longest preferred) = quantum_text quantum longest preferred
said_text (SmallBurst element rate burst) = burst_text rate burst
said_text (UnusedQueue element) = codes "nobody sends to it"
said_text (SameStride element input other stride) = stride_text other stride
said_text (OneInput element) = codes "it has one input"
said_text (SmallQueue element capacity sender packets) = capacity_text capacity sender packets

-- the line of a warning: `warning: NAME: ..` or `warning: NAME input INPUT: ..`
abbrev pub warning_line : List Planned → Warning → List ℕ
warning_line plan warning =
    codes "warning: " ++ (name_of (slice_get plan (element_of warning)) ++ (place_text warning ++ (codes ": " ++ (said_text warning ++ codes "\n"))))

-- the lines of some warnings
abbrev pub lines_of : List Planned → List Warning → List ℕ
lines_of plan found = flat_map (warning_line plan) found

-- The text of a plan's warnings, and of a trace's if there is one: a line for each.
abbrev pub lint_text : List Planned → Trace → List ℕ
lint_text plan trace = lines_of plan (warnings plan trace)
