-- What a seat keeps as its offers go on.
use Rattle.std.proofs.Common.{◌≡◌, ◌≢◌, ℕ, ◌+◌, ◌<◌, ◌≤◌, ◌==◌, Bool, true, List, [], ◌∷◌, ◌++◌, length, map, refl, ap, ◌∙◌, arith, if◌then◌else◌, rules}
use Rattle.std.proofs.lemmas.Grind.{common_steps}
use Rattle.std.proofs.lemmas.Bool.Decides.{nat_tests}
use Rattle.crossbeam_queue.specs.Fifo.{Held}
use Rattle.clk_packet.specs.declared.packet.Packet.{Packet}
use Rattle.clk_packet.specs.declared.packet.Kind.TheVariants.{TailDrop, FrontDrop}
use Rattle.clk_ruled.specs.declared.view.QueueSetup.{QueueSetup}
use Rattle.clk_ruled.specs.declared.view.View.{View}
use Rattle.clk_packet.specs.Lists.{of_sender, stands_in}
use Rattle.clk_ruled.specs.Rooms.{room_of}
use Rattle.clk_ruled.specs.Queue.{places_of, IsShared}
use Rattle.clk_ruled.specs.inside.Rule.{Knows, seat_view}
use Rattle.clk_ruled.specs.inside.Parts.{SeatFits}
use Rattle.clk_ruled.proofs.Sharing.{shares-accepted, shares-refused, shares-rise, shares-count}
use Rattle.clk_ruled.proofs.Steps.{MayOffer, MayEvict}

pub few-accepted : (s next : ℕ) (accepted refused : List Packet) → IsShared s next accepted refused → (length accepted ≤ next) × (length refused ≤ next)
few-accepted s next accepted refused h = search (rules, shares-count)

pub may-offer : (v : View) (s room next : ℕ) (accepted refused evicted : List Packet) (p : Packet) → SeatFits v s room next accepted refused evicted → p.sender ≡ s → p.number ≡ next → next < room → MayOffer v p
may-offer v s room next accepted refused evicted p f own number lt = search (rules, (few-accepted s next accepted refused f.shares), (shares-rise s (next + 1) (accepted ++ p ∷ []) refused (search (rules, shares-accepted))))

pub room-known : (rooms : List (ℕ × ℕ)) (s : ℕ) → 0 < room_of rooms s → stands_in s (map (λ (r : ℕ × ℕ). r.0) rooms) ≡ true
room-known [] s lt = absurd (omega arith)
room-known (r ∷ rooms) s lt = search (rules, (room-known rooms s))

pub may-evict : (v : View) (s room next : ℕ) (accepted refused evicted : List Packet) → SeatFits v s room next accepted refused evicted → v.setup.kind ≡ FrontDrop → next < room → MayEvict v
may-evict v s room next accepted refused evicted f front lt =
    let here : room_of v.setup.rooms v.sender ≡ room = ap (room_of v.setup.rooms) f.own ∙ f.room_is in search (rules, room-known)

pub places-within : (setup : QueueSetup) (n : ℕ) → n ≡ places_of setup → 1 ≤ setup.capacity → n ≤ setup.capacity
places-within setup n e some = search rules

-- the seat after each of the three answers
pub fits-accepted : (v w : View) (s room next : ℕ) (accepted refused evicted new : List Packet) (p : Packet) → SeatFits v s room next accepted refused evicted → p.sender ≡ s → p.number ≡ next → next < room
    → w ≡ seat_view v.setup v.sender (v.accepted ++ p ∷ []) v.evicted → new ≡ accepted ++ p ∷ [] → SeatFits w s room (next + 1) new refused evicted
fits-accepted v w s room next accepted refused evicted new p f own number lt is made = grind (arith, common_steps, shares-accepted)

pub fits-refused : (v w : View) (s room next : ℕ) (accepted refused evicted new : List Packet) (p : Packet) → SeatFits v s room next accepted refused evicted → p.sender ≡ s → p.number ≡ next → next < room
    → v.setup.kind ≡ TailDrop → w ≡ v → new ≡ refused ++ p ∷ [] → SeatFits w s room (next + 1) accepted new evicted
fits-refused v w s room next accepted refused evicted new p f own number lt tail is made = search (rules, shares-refused)

abbrev pub evicted_view : View → Packet → View
evicted_view v front = seat_view v.setup v.sender v.accepted (v.evicted ++ front ∷ [])

pub fits-evicted : (v w : View) (s room next : ℕ) (accepted refused evicted new out : List Packet) (p front : Packet) → SeatFits v s room next accepted refused evicted → p.sender ≡ s → p.number ≡ next → next < room
    → v.setup.kind ≡ FrontDrop → w ≡ seat_view v.setup v.sender (v.accepted ++ p ∷ []) (v.evicted ++ front ∷ []) → new ≡ accepted ++ p ∷ [] → out ≡ evicted ++ front ∷ [] → SeatFits w s room (next + 1) new refused out
fits-evicted v w s room next accepted refused evicted new out p front f own number lt kind is made went = grind (arith, common_steps, shares-accepted)

is-own : (y : Bool) (m n : ℕ) (p : Packet) (l : List Packet) → (m == n) ≡ y → (m ≢ n → length (if m == m then p ∷ l else l) ≤ 0) → y ≡ true
is-own y m n p l e h = search rules

only-own : (s : ℕ) (all : List Packet) → ((t : ℕ) → t ≢ s → length (of_sender t all) ≤ 0) → length all ≤ length (of_sender s all)
only-own s [] h = omega arith
only-own s (p ∷ all) h = search (rules, (is-own (p.sender == s) p.sender s p (of_sender p.sender all) refl (h p.sender)), (only-own s all))

pub refused-alone : (v : View) (s room next : ℕ) (accepted refused evicted : List Packet) (n : ℕ) → SeatFits v s room next accepted refused evicted → next < room → n ≡ places_of v.setup
    → v.setup.rooms ≡ (s, room) ∷ [] → Held n (Knows v) → v.setup.capacity ≤ length accepted
refused-alone v s room next accepted refused evicted n f lt places alone held = grind (arith, common_steps, nat_tests, only-own, (few-accepted s next accepted refused f.shares))

-- once a packet was put out for it, the seat may still offer
pub offers-after : (v w : View) (p front : Packet) → MayOffer v p → w ≡ evicted_view v front → MayOffer w p
offers-after v w p front may is = search rules
