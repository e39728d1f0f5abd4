-- How what was offered is shared out into what was accepted and what was refused.
use Rattle.std.proofs.Common.{◌≡◌, ℕ, ◌+◌, List, [], ◌∷◌, ◌++◌, length, sym, ◌∙◌, arith}
use Rattle.std.proofs.lemmas.Grind.{common_steps}
use Rattle.clk_packet.specs.declared.packet.Packet.{Packet}
use Rattle.clk_packet.specs.Lists.{AreRising}
use Rattle.clk_packet.proofs.Callers.Dealt.{dealt-first, dealt-second, dealt-length, dealt-rise, numbered-more}
use Rattle.clk_ruled.specs.PacketLists.{packet_numbers}
use Rattle.clk_ruled.specs.Queue.{IsShared}

pub shares-accepted : (s next : ℕ) (accepted refused : List Packet) (p : Packet) → p.sender ≡ s → p.number ≡ next → IsShared s next accepted refused → IsShared s (next + 1) (accepted ++ p ∷ []) refused
shares-accepted s next accepted refused p own number h = grind (arith, common_steps, numbered-more, (dealt-first h.offered accepted refused p h.dealt))

pub shares-refused : (s next : ℕ) (accepted refused : List Packet) (p : Packet) → p.sender ≡ s → p.number ≡ next → IsShared s next accepted refused → IsShared s (next + 1) accepted (refused ++ p ∷ [])
shares-refused s next accepted refused p own number h = grind (arith, common_steps, numbered-more, (dealt-second h.offered accepted refused p h.dealt))

pub shares-rise : (s next : ℕ) (accepted refused : List Packet) → IsShared s next accepted refused → AreRising (packet_numbers accepted)
shares-rise s next accepted refused h = dealt-rise s 0 h.offered accepted refused h.numbers h.dealt

-- no more are accepted than were offered, and the two lists together are as long
pub shares-count : (s next : ℕ) (accepted refused : List Packet) → IsShared s next accepted refused → length accepted + length refused ≡ next
shares-count s next accepted refused h = sym (dealt-length h.offered accepted refused h.dealt) ∙ h.count
