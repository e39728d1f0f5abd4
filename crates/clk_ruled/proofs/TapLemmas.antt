-- What the tap knows of the packets that it pulled.
use Rattle.std.proofs.Common.{ℕ, ◌+◌, ◌<◌, ◌≤◌, ◌==◌, Bool, List, [], ◌∷◌, ◌++◌, length, arith, if◌then◌else◌, rules}
use Rattle.std.specs.List.{AllByRecursion}
use Rattle.clk_packet.specs.declared.packet.Packet.{Packet}
use Rattle.clk_packet.specs.Lists.{of_sender, AreRising}
use Rattle.clk_ruled.specs.PacketLists.{packet_numbers}
use Rattle.clk_ruled.specs.Rule.{Out, to_puller, put_out, went_out, taken_in}

-- What holds of the numbers of all packets of a sender holds of those that were taken.
all-taken : (P : ℕ → Type 0) (s : ℕ) (gone : List Out) (held : List Packet) → AllByRecursion P (packet_numbers (of_sender s (went_out gone ++ held)))
    → AllByRecursion P (packet_numbers (of_sender s (taken_in gone)))
all-taken P s [] held a = tt
all-taken P s (o ∷ gone) held a = search (rules, (all-taken P s gone held))

rising-both : (b : Bool) (p : Packet) (x y : List Packet) → (AllByRecursion (λ m. p.number < m) (packet_numbers y) → AllByRecursion (λ m. p.number < m) (packet_numbers x))
    → (AreRising (packet_numbers y) → AreRising (packet_numbers x)) → AreRising (packet_numbers (if b then p ∷ y else y)) → AreRising (packet_numbers (if b then p ∷ x else x))
rising-both b p x y g f r = search rules

-- Of each sender the numbers that were taken rise, where those of all rise.
pub rising-taken : (s : ℕ) (gone : List Out) (held : List Packet) → AreRising (packet_numbers (of_sender s (went_out gone ++ held))) → AreRising (packet_numbers (of_sender s (taken_in gone)))
rising-taken s [] held r = tt
rising-taken s (to_puller p ∷ gone) held r =
    rising-both (p.sender == s) p (of_sender s (taken_in gone)) (of_sender s (went_out gone ++ held)) (all-taken (λ m. p.number < m) s gone held) (rising-taken s gone held) r
rising-taken s (put_out e p ∷ gone) held r = search (rules, (rising-taken s gone held))

-- No more was taken than came.
pub fewer-taken : (gone : List Out) (held : List Packet) → length (taken_in gone) + length held ≤ length (went_out gone ++ held)
fewer-taken [] held = omega arith
fewer-taken (o ∷ gone) held = search (rules, (fewer-taken gone held))
