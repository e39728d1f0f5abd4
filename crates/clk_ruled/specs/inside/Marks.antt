-- The packets that were evicted, as settling marks them, and the tallies that list them.
use Rattle.std.specs.Prelude.{ℕ, ◌/◌, ◌%◌, get_or, Bool, false, List, [], map, filter}
use Rattle.clk_packet.specs.declared.packet.Packet.{Packet}
use Rattle.clk_packet.specs.declared.tally.Tally.{Tally}
use Rattle.clk_ruled.specs.declared.settling.marks.Marks.{Marks}
use Rattle.clk_ruled.specs.declared.settling.marks.Page.{Page}
use Rattle.clk_ruled.specs.Queue.{SeatLists}

-- the marks of the numbers of the sender at this place of the page
abbrev pub numbers_on : Page → ℕ → List Bool
numbers_on page place = get_or (map (λ numbers. numbers.items) page.senders.items) place []

-- whether a number of that sender is marked: those past its last mark aren't
abbrev pub is_on : Page → ℕ → ℕ → Bool
is_on page place number = get_or (numbers_on page place) number false

-- the marks of the numbers of a sender: there are 256 senders to a page
abbrev pub numbers_of : Marks → ℕ → List Bool
numbers_of marks s = get_or (map numbers_on marks.pages.items) (s / 256) (λ _. []) (s % 256)

-- whether the packet is marked
abbrev pub is_marked : Marks → Packet → Bool
is_marked marks p = get_or (numbers_of marks p.sender) p.number false

-- a seat's tally before it lists evicted packets
abbrev pub untold : SeatLists → Tally
untold l = record { sender = l.sender; accepted = l.accepted; refused = l.refused; evicted = [] }

-- the tally that lists as evicted those of its packets that pass the test
abbrev pub telling : (Packet → Bool) → Tally → Tally
telling was_put_out t = record { sender = t.sender; accepted = t.accepted; refused = t.refused; evicted = filter was_put_out t.accepted }
