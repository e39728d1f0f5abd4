use Rattle.std.proofs.Common.{◌≡◌, List, [], ◌∷◌, ◌++◌, Option, Some, None, ap, subst, ◌∙◌, arith}
use Rattle.clk_packet.specs.declared.packet.Packet.{Packet}
use Rattle.clk_packet.specs.declared.packet.Kind.TheVariants.{FrontDrop}
use Rattle.clk_packet.specs.declared.packet.Offered.{Offered}
use Rattle.clk_packet.specs.declared.packet.Offered.TheVariants.{Accepted, Refused, Evicted}
use Rattle.clk_ring.specs.Queue.{Queue, empty_queue, holding, IsOffered, IsPulled}
use Rattle.clk_packet_tests.proofs.calling.ring.newest.Goals as goal

-- a FrontDropQueue of one packet, and the same with a packet in it
abbrev one : Queue
one = empty_queue FrontDrop 1

abbrev full : Packet → Queue
full p = holding one (p ∷ [])

offered-empty : (p : Packet) (outcome : Offered) (q : Queue) → IsOffered one p outcome q → q ≡ full p
offered-empty p Accepted q h = h.1
offered-empty p (Refused other) q h = absurd (cc (h.0))
offered-empty p (Evicted front) q h = absurd (omega (arith, h.1))

offered-full : (o p : Packet) (outcome : Offered) (q : Queue) → IsOffered (full o) p outcome q → q ≡ full p
offered-full o p Accepted q h = absurd (omega (arith, h.0))
offered-full o p (Refused other) q h = absurd (cc (h.0))
offered-full o p (Evicted front) q h =
    let none : h.2.0 ≡ [] = cc (h.2.1) in
    h.2.2 ∙ ap (λ (rest : List Packet). holding one (rest ++ p ∷ [])) none

pulled-full : (p : Packet) (got : Option Packet) (q : Queue) → IsPulled (full p) got q → got ≡ Some p
pulled-full p None q h = absurd (cc (h.0))
pulled-full p (Some other) q h = cc (h.1)

pub returns : goal.returns
returns c =
    let older = c.offer.new.self in
    let newer = c.offer-2.new.self in
    let first = offered-empty c.args.older c.offer.result older (subst (λ (q : Queue). IsOffered q c.args.older c.offer.result older) c.in_ok-ring.ensures.empty c.offer.ensures) in
    let second = offered-full c.args.older c.args.newer c.offer-2.result newer (subst (λ (q : Queue). IsOffered q c.args.newer c.offer-2.result newer) first c.offer-2.ensures) in
    pulled-full c.args.newer c.pull.result c.pull.new.self (subst (λ (q : Queue). IsPulled q c.pull.result c.pull.new.self) second c.pull.ensures)
