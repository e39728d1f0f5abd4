-- A seat that offers what is sent, one packet after another.
use Rattle.std.proofs.Common.{◌≡◌, ℕ, ◌+◌, ◌<◌, List, [], ◌∷◌, ◌++◌, length, take, slice_get, Some, None, sym, subst, arith, rules}
use Rattle.std.proofs.Math.Seq.{take-suc}
use Rattle.std.proofs.lemmas.List.{length-append}
use Rattle.std.proofs.lemmas.Option.{slice_get_within, slice_get_cases, get_or_from_slice_get}
use Rattle.clk_packet.specs.declared.packet.Packet.{Packet}
use Rattle.clk_packet.specs.declared.packet.Offered.{Offered}
use Rattle.clk_packet.proofs.Callers.Dealt.{dealt-first, dealt-second, numbered-more}
use Rattle.clk_ruled.specs.Queue.{SeatLists, IsOffered}
use Rattle.clk_drain.specs.Closing.{AreOffered}

count-more : (packets : List Packet) (p : Packet) (n : ℕ) → length packets ≡ n → length (packets ++ p ∷ []) ≡ n + 1
count-more packets p n e = omega (arith, length-append packets (p ∷ []), e)

-- A packet more was offered, whatever became of it.
pub offered-more : (packets : List Packet) (old new : SeatLists) (p : Packet) (got : Offered) → p.sender ≡ old.sender → p.number ≡ old.next → AreOffered packets old → IsOffered old p got new → AreOffered (packets ++ p ∷ []) new
offered-more packets old new p got own number h is = search (rules, count-more, numbered-more, dealt-first, dealt-second)

take-next : (packets : List Packet) (n : ℕ) (p : Packet) → slice_get packets n ≡ Some p → take (n + 1) packets ≡ take n packets ++ p ∷ []
take-next packets n p e = search (rules, (take-suc packets n p (slice_get_within packets n p e)), (slice_get_within packets n p e), (get_or_from_slice_get packets n p p e))

-- So the packets that are sent are offered one after another.
pub offered-next : (sent : List Packet) (old new : SeatLists) (n : ℕ) (p : Packet) (got : Offered) → slice_get sent n ≡ Some p → p.sender ≡ old.sender → p.number ≡ old.next → AreOffered (take n sent) old → IsOffered old p got new → AreOffered (take (n + 1) sent) new
offered-next sent old new n p got at own number h is = subst (λ packets. AreOffered packets new) (sym (take-next sent n p at)) (offered-more (take n sent) old new p got own number h is)

-- Of a seat that offered the first so many, as many are offered.
pub next-is : (sent : List Packet) (seat : SeatLists) (n : ℕ) → n < length sent → AreOffered (take n sent) seat → seat.next ≡ n
next-is sent seat n lt h = search rules

-- There is a packet at each place that isn't past the end.
pub none-past : (sent : List Packet) (n : ℕ) → n < length sent → None ≡ slice_get sent n → ⊥
none-past sent n lt e = search (rules, slice_get_cases)
