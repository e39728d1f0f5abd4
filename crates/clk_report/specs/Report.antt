-- What a report says of each sender (this project's own format).
use Rattle.std.specs.Prelude.{ℕ, List, ◌++◌, length, codes, decimal}
use Rattle.std.specs.List.{flat_map}
use Rattle.clk_packet.specs.Counts.{bytes_of}
use Rattle.clk_packet.specs.Lists.{of_sender}
use Rattle.clk_packet.specs.declared.packet.Packet.{Packet}
use Rattle.clk_packet.specs.declared.tally.Tally.{Tally}

-- ` N B`: N packets, and B bytes
abbrev pub numbers_text : ℕ → ℕ → List ℕ
numbers_text packets bytes = codes " " ++ (decimal packets ++ (codes " " ++ decimal bytes))

-- ` N B` of these packets: how many they are, and their bytes
abbrev pub total_text : List Packet → List ℕ
total_text packets = numbers_text (length packets) (bytes_of packets)

-- `sender S: sent N B, accepted N B, refused N B, evicted N B, emitted N B`, if these packets were emitted at all devices. Sent is accepted
-- and refused together.
abbrev pub tally_text : List Packet → Tally → List ℕ
tally_text emitted tally =
    codes "sender " ++ (decimal tally.sender ++ (codes ": sent" ++ (total_text (tally.accepted ++ tally.refused)
    ++ (codes ", accepted" ++ (total_text tally.accepted ++ (codes ", refused" ++ (total_text tally.refused
    ++ (codes ", evicted" ++ (total_text tally.evicted ++ (codes ", emitted" ++ (total_text (of_sender tally.sender emitted) ++ codes "\n")))))))))))

-- the report: a line for each tally, in order
abbrev pub report_text : List Packet → List Tally → List ℕ
report_text emitted tallies = flat_map (tally_text emitted) tallies
