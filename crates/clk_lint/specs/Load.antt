-- What senders send, as far as it is known: a plan is judged by it (this project's own choice).
use Rattle.std.specs.Prelude.{ℕ, zero, suc, List, [], ◌∷◌, length, map, max, Option, Some, None, option_map, slice_get, get_or}
use Rattle.std.specs.Option.{option_map_or}
use Rattle.std.specs.Borrow.{Bor}
use Rattle.clk_packet.specs.declared.packet.Packet.{Packet}
use Rattle.clk_packet.specs.Trace.{sent_by}
use Rattle.clk_syntax.specs.Classes.{Class, sender}
use Rattle.clk_tree.specs.Plan.{Planned}
use Rattle.clk_lint.specs.declared.load.TheConstants.{USUAL_LENGTH}

-- a trace, if there is one: the packets of each sender, by its number
abbrev pub Trace : Type 0
Trace = Option (List (List Packet))

-- a trace that is lent
abbrev pub trace_of : Option (Bor (List (List Packet))) → Trace
trace_of lent = option_map (λ (traces : Bor (List (List Packet))). traces.now) lent

-- the greatest value of a function on a list, or 0 if the list is empty
abbrev pub greatest : {X : Type 0} → (X → ℕ) → List X → ℕ
greatest value [] = 0
greatest value (x ∷ more) = max (value x) (greatest value more)

-- the length of the longest of some packets, in bytes, or 0 if there is none
abbrev pub longest_of : List Packet → ℕ
longest_of packets = greatest (λ (p : Packet). p.length) packets

-- the length of the longest packet that an element itself sends by a trace, or 0 if it sends none
abbrev pub longest_sent : List (List Packet) → Class → ℕ
longest_sent traces (sender n) = longest_of (sent_by traces n)
longest_sent traces class = 0

-- the places of the elements that are connected to the element at a place
abbrev pub sources_at : List Planned → ℕ → List ℕ
sources_at plan place = option_map_or (λ (e : Planned). e.sources) (slice_get plan place) []

-- The length of the longest packet that the element at a place and those below it send, in so many levels, by what each itself sends.
abbrev pub longest_at : List Planned → (sent : List ℕ) → (levels place : ℕ) → ℕ
longest_at plan sent zero place = 0
longest_at plan sent (suc levels) place = max (get_or sent place 0) (greatest (longest_at plan sent levels) (sources_at plan place))

-- The length of the longest packet that reaches an input by a trace, if the element at this place is connected to the input. No path has
-- more elements than the plan. Without a trace it is that of Ethernet.
abbrev pub longest_below : List Planned → Trace → (place : ℕ) → ℕ
longest_below plan None place = USUAL_LENGTH
longest_below plan (Some traces) place = longest_at plan (map (λ (e : Planned). longest_sent traces e.class) plan) (length plan) place

-- How many packets a sender may offer at once. A trace has no moments, so these are all of its packets. None are known without a trace.
abbrev pub burst_of : Trace → ℕ → ℕ
burst_of None n = 0
burst_of (Some traces) n = length (sent_by traces n)
