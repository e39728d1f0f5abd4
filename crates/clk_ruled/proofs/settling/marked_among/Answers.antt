use Rattle.std.proofs.Common.{◌≡◌, Bool, false, List, [], ◌∷◌, filter, refl, rules}
use Rattle.clk_packet.specs.declared.packet.Packet.{Packet}
use Rattle.clk_ruled.proofs.settling.marked_among.Goals as goal

none-among : (marked : Packet → Bool) → ((p : Packet) → marked p ≡ false) → (packets : List Packet) → filter marked packets ≡ []
none-among marked none [] = refl
none-among marked none (p ∷ packets) = search (rules, (none-among marked none packets))

pub returns-then-is_empty-clause-marked : goal.returns-then-is_empty-clause-marked
returns-then-is_empty-clause-marked c = search (rules, none-among)
