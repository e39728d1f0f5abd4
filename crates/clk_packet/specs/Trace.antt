-- Traces: what a text of records says, and what is wrong with it (this project's own format, in records as the crate csv reads them).
use Rattle.std.specs.Prelude.{ℕ, ◌+◌, List, [], ◌∷◌, length, map, ◌==◌, nat_lt, if◌then◌else◌, Option, Some, None, IfSome, ⊤, ◌≡◌, slice_get, unwrap_or}
use Rattle.std.specs.Option.{option_or}
use Rattle.std.specs.List.{filter_map}
use Rattle.csv.specs.Reading.{default_config, records, strip_bom}
use Rattle.clk_packet.specs.declared.limits.TheConstants.{MAX_SENDER, MAX_LENGTH, MAX_TRACE_BYTES, MAX_RECORDS}
use Rattle.clk_packet.specs.Numbers.{number_in}
use Rattle.clk_packet.specs.declared.packet.Packet.{Packet}
use Rattle.clk_packet.specs.declared.fault.Fault.{Fault}
use Rattle.clk_packet.specs.declared.fault.Fault.TheVariants.{Memory, Read, TooLarge, BadTrace}

-- The records of a text, each a list of fields: lines of fields between commas, as the crate csv reads them without a header row. A byte
-- order mark at the front and empty lines are no records.
abbrev pub records_of : List ℕ → List (List (List ℕ))
records_of text = records default_config (strip_bom text)

-- a sender and a length, if both are there
abbrev pub pair_of : Option ℕ → Option ℕ → Option (ℕ × ℕ)
pair_of None size = None
pair_of (Some sender) None = None
pair_of (Some sender) (Some size) = Some (sender, size)

-- what a record says: two fields, a sender's number and the length of its next packet in bytes
abbrev pub pair_in : List (List ℕ) → Option (ℕ × ℕ)
pair_in (sender ∷ size ∷ []) = pair_of (number_in 0 MAX_SENDER sender) (number_in 1 MAX_LENGTH size)
pair_in fields = None

-- fault 14 at this record, unless it says a sender and a length
abbrev pub bad_unless : ℕ → Option (ℕ × ℕ) → Option Fault
bad_unless row None = Some (BadTrace row)
bad_unless row (Some pair) = None

-- what is wrong with a record, by its number: it is one too many, whatever it holds, or it doesn't say a sender and a length
abbrev pub record_fault : ℕ → List (List ℕ) → Option Fault
record_fault row fields = if nat_lt MAX_RECORDS row then Some TooLarge else bad_unless row (pair_in fields)

-- the fault of the first record that has one, if the records are counted from a number on
abbrev pub first_fault : ℕ → List (List (List ℕ)) → Option Fault
first_fault row [] = None
first_fault row (fields ∷ more) = option_or (record_fault row fields) (first_fault (row + 1) more)

-- What is wrong with a trace: it has too many bytes, or else the fault of the first record that has one.
abbrev pub trace_fault : List ℕ → Option Fault
trace_fault text = if nat_lt MAX_TRACE_BYTES (length text) then Some TooLarge else first_fault 1 (records_of text)

-- the senders and lengths that a trace tells, in order
abbrev pub pairs_of : List ℕ → List (ℕ × ℕ)
pairs_of text = filter_map pair_in (records_of text)

-- What a sender sends by some pairs, with its packets counted from a number on. For each pair of the sender, in order, it has the sender's
-- number, the packet's number and its length.
abbrev pub sent_from : ℕ → ℕ → List (ℕ × ℕ) → List (ℕ × ℕ × ℕ)
sent_from sender number [] = []
sent_from sender number (pair ∷ more) =
    if pair.0 == sender then (sender, number, pair.1) ∷ sent_from sender (number + 1) more else sent_from sender number more

-- what a sender sends by some pairs: its packets are counted from 0
abbrev pub sent : ℕ → List (ℕ × ℕ) → List (ℕ × ℕ × ℕ)
sent sender pairs = sent_from sender 0 pairs

-- the packets that a sender sends, by the lists of packets of all senders
abbrev pub sent_by : List (List Packet) → ℕ → List Packet
sent_by traces sender = unwrap_or (slice_get traces sender) []

-- the sender, the number and the length of each packet
abbrev pub shown : List Packet → List (ℕ × ℕ × ℕ)
shown packets = map (λ p. (p.sender, p.number, p.length)) packets

-- how many packets all senders send together
abbrev pub packets_in : List (List Packet) → ℕ
packets_in [] = 0
packets_in (packets ∷ more) = length packets + packets_in more

-- Why reading a trace fails: an allocation may fail, the reader may fail, and any other fault is what is wrong with the trace, if its bytes
-- are known.
abbrev pub ExplainsTrace : Option (List ℕ) → Fault → Type 0
ExplainsTrace trace Memory = ⊤
ExplainsTrace trace Read = ⊤
ExplainsTrace trace TooLarge = IfSome trace (λ text. trace_fault text ≡ Some TooLarge)
ExplainsTrace trace (BadTrace row) = IfSome trace (λ text. trace_fault text ≡ Some (BadTrace row))
ExplainsTrace trace fault = ⊥
