-- What stays of lines, whatever their taps gather and pull.
use Rattle.std.proofs.Common.{◌≡◌, ℕ, ◌+◌, List, [], ◌∷◌, ◌++◌, map, refl, ap, rules}
use Rattle.std.specs.List.{flat_map, AllByRecursion}
use Rattle.clk_packet.specs.declared.packet.Packet.{Packet}
use Rattle.clk_ruled.specs.Queue.{SeatLists}
use Rattle.clk_ruled.specs.Settle.{accepted_count, evicted_count, all_evicted, tally_of}
use Rattle.clk_sched.specs.declared.visit.Visit.{Visit}
use Rattle.clk_sched.specs.Tree.{Tree}
use Rattle.clk_sched.specs.Results.{leaf_packets}
use Rattle.clk_sched.specs.Session.{Progress}
use Rattle.clk_drain.specs.Line.{LineLists, leaves_of, seats_of, seats_in, senders_at, pulling_all, AreLinesOf, Lasting, lasting_of, AreStill}
use Rattle.clk_drain.specs.Closing.{accepted_over, evicted_over, queue_of_line, seated, tallies_in}
use Rattle.clk_drain.specs.inside.Parts.{taken_at, AreGatheredFrom}

through : {X : Type 0} (f : Lasting → X) (lines : List LineLists) → map (λ l. f (lasting_of l)) lines ≡ map f (map lasting_of lines)
through f [] = refl
through f (l ∷ lines) = search (rules, (through f lines))

-- What is made of that stays too.
still-map : {X : Type 0} (f : Lasting → X) (old new : List LineLists) → AreStill old new → map (λ l. f (lasting_of l)) new ≡ map (λ l. f (lasting_of l)) old
still-map f old new still = search (rules, through)

pub still-queues : (old new : List LineLists) → AreStill old new → map queue_of_line new ≡ map queue_of_line old
still-queues = still-map (λ (k : Lasting). record { leaf = k.leaf; kind = k.setup.kind; capacity = k.setup.capacity; senders = senders_at k.seats })

-- over seats by line
abbrev over : (List SeatLists → ℕ) → List Lasting → ℕ
over count [] = 0
over count (k ∷ kept) = count k.seats + over count kept

accepted-through : (lines : List LineLists) → accepted_over lines ≡ over accepted_count (map lasting_of lines)
accepted-through [] = refl
accepted-through (l ∷ lines) = search (rules, (accepted-through lines))

pub still-accepted : (old new : List LineLists) → AreStill old new → accepted_over new ≡ accepted_over old
still-accepted old new still = search (rules, accepted-through)

evicted-through : (lines : List LineLists) → evicted_over lines ≡ over evicted_count (map lasting_of lines)
evicted-through [] = refl
evicted-through (l ∷ lines) = search (rules, (evicted-through lines))

pub still-evicted : (old new : List LineLists) → AreStill old new → evicted_over new ≡ evicted_over old
still-evicted old new still = search (rules, evicted-through)

seats-through : (lines : List LineLists) → seats_in lines ≡ flat_map (λ (k : Lasting). k.seats) (map lasting_of lines)
seats-through [] = refl
seats-through (l ∷ lines) = ap (λ rest. seats_of l ++ rest) (seats-through lines)

pub still-seats : (old new : List LineLists) → AreStill old new → seats_in new ≡ seats_in old
still-seats old new still = search (rules, seats-through)

pub still-seated : (old new : List LineLists) → AreStill old new → map seated new ≡ map seated old
still-seated = still-map (λ (k : Lasting). record { queue = record { leaf = k.leaf; kind = k.setup.kind; capacity = k.setup.capacity; senders = senders_at k.seats }; seats = k.seats })

tallies-through : (lines : List LineLists) → tallies_in lines ≡ flat_map (λ (k : Lasting). map (tally_of (all_evicted k.seats)) k.seats) (map lasting_of lines)
tallies-through [] = refl
tallies-through (l ∷ lines) = search (rules, (tallies-through lines))

pub still-tallies : (old new : List LineLists) → AreStill old new → tallies_in new ≡ tallies_in old
still-tallies old new still = search (rules, tallies-through)

-- Pulls let it stay.
pub pulled-still : (f : ℕ → List Packet) (lines : List LineLists) → AreStill lines (pulling_all f lines)
pulled-still f [] = refl
pulled-still f (l ∷ lines) = search (rules, (pulled-still f lines))

-- Gathering lets what was taken stay too.
taken-through : (tree : Tree) (log : List Visit) (lines : List LineLists) → AllByRecursion (λ (l : LineLists). l.tap.taken ≡ leaf_packets tree l.leaf log) lines ≡ AllByRecursion (λ (x : ℕ × List Packet). x.1 ≡ leaf_packets tree x.0 log) (map taken_at lines)
taken-through tree log [] = refl
taken-through tree log (l ∷ lines) = ap (λ (rest : Type 0). (l.tap.taken ≡ leaf_packets tree l.leaf log) × rest) (taken-through tree log lines)

leaves-through : (lines : List LineLists) → leaves_of lines ≡ map (λ (x : ℕ × List Packet). x.0) (map taken_at lines)
leaves-through [] = refl
leaves-through (l ∷ lines) = ap (λ rest. l.leaf ∷ rest) (leaves-through lines)

-- Lines at the same leaves, whose taps took the same, are a session's own where the others are.
pub same-lines : (session : Progress) (old new : List LineLists) → map taken_at new ≡ map taken_at old → AreLinesOf session old → AreLinesOf session new
same-lines session old new same h = search (rules, (leaves-through new), (leaves-through old), (taken-through session.tree session.log old), (taken-through session.tree session.log new))

pub gathered-lines : (session : Progress) (old new : List LineLists) → AreGatheredFrom old new → AreLinesOf session old → AreLinesOf session new
gathered-lines session old new g h = same-lines session old new g.taken h
