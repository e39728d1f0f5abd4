-- What a report says of a sender, by its counts.
use Rattle.std.specs.Prelude.{ℕ, ◌+◌, List, ◌++◌, codes, decimal}
use Rattle.clk_packet.specs.declared.counts.Counts.{Counts}
use Rattle.clk_packet.specs.declared.counts.Total.{Total}
use Rattle.clk_report.specs.Report.{numbers_text}

-- the total of what a sender sent: accepted and refused together
abbrev pub sent_in : Counts ℕ → Total ℕ
sent_in c = record { packets = c.accepted.packets + c.refused.packets; bytes = c.accepted.bytes + c.refused.bytes }

-- these words, and then ` N B`
abbrev pub words_text : List ℕ → Total ℕ → List ℕ
words_text words total = words ++ numbers_text total.packets total.bytes

-- the line of a sender with these counts
abbrev pub counts_text : Counts ℕ → List ℕ
counts_text c =
    codes "sender " ++ (decimal c.sender ++ (words_text (codes ": sent") (sent_in c) ++ (words_text (codes ", accepted") c.accepted ++ (words_text (codes ", refused") c.refused
    ++ (words_text (codes ", evicted") c.evicted ++ (words_text (codes ", emitted") c.emitted ++ codes "\n"))))))
