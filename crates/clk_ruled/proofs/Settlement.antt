-- What is known of a queue, once the tap has the lists of all its seats.
use Rattle.std.proofs.Common.{◌≡◌, ℕ, ◌+◌, ◌<◌, ◌≤◌, Bool, true, false, List, [], ◌∷◌, ◌++◌, length, map, refl, sym, ap, ◌∙◌, subst, arith, rules}
use Rattle.std.proofs.lemmas.Grind.{common_steps}
use Rattle.std.proofs.lemmas.List.{append-nil, nil_from_length}
use Rattle.std.specs.List.{flat_map, AllByRecursion}
use Rattle.atomic_table.specs.Seated.{TableId}
use Rattle.crossbeam_queue.specs.Fifo.{Held}
use Rattle.clk_packet.specs.declared.packet.Packet.{Packet}
use Rattle.clk_packet.specs.declared.tally.Tally.{Tally}
use Rattle.clk_ruled.specs.declared.view.Gathered.{Gathered}
use Rattle.clk_ruled.specs.declared.view.QueueSetup.{QueueSetup}
use Rattle.clk_ruled.specs.declared.view.View.{View}
use Rattle.clk_ruled.specs.Account.{IsAccount}
use Rattle.clk_ruled.specs.inside.Marks.{untold, telling}
use Rattle.clk_packet.specs.Lists.{of_sender, In, stands_in}
use Rattle.clk_packet.proofs.Callers.Lists.{rising-distinct}
use Rattle.clk_ruled.specs.PacketLists.{has_packet}
use Rattle.clk_ruled.specs.inside.Parts.{TapKeeps}
use Rattle.clk_ruled.specs.Queue.{SeatLists, TapLists, ClosedLists, IsSharedOut}
use Rattle.clk_ruled.specs.Rule.{Books, FitsTap, IsSound, AreGathered, evicted_by, taken_in, senders_of}
use Rattle.clk_ruled.specs.inside.Rule.{Knows}
use Rattle.clk_ruled.specs.Settle.{lists_of, as_gathered, accepted_of, evicted_of, all_evicted, accepted_count, evicted_count, lost_count, AreOfTap, AreTogether, HasEach, HasAllSeats, IsTakenWithin, IsAllTaken, tally_by, tally_of, IsSettled, HasLostBelow, IsAccounted}
use Rattle.clk_ruled.proofs.Account.{account, all-counted, as-many, left-held, evicted_in}
use Rattle.clk_ruled.proofs.TapSteps.{TapKnows}
use Rattle.clk_ruled.proofs.Tally.{times_in_all, senders_named, of-times, named-length, counted, unroomed}

-- what a tap keeps tells that its queue is accounted for
pub accounted : (keeps : Bool) (id : TableId) (v : View) → TapKeeps v → IsAccounted (record { id = id; setup = v.setup; keeps = keeps; taken = v.taken; gathered = v.gathered })
accounted keeps id v k = let fits : FitsTap k.knows.1.0 k.knows.1.1 v = k.knows.1.3.1 k.taps in search rules

-- a seat's lists are what the books say of its sender
record IsFit (b : Books) (l : SeatLists) : Type 0 where
  accepted : l.accepted ≡ of_sender l.sender b.all
  evicted : l.evicted ≡ evicted_by l.sender b.gone

abbrev AreFit : Books → List SeatLists → Type 0
AreFit b [] = Unit {0}
AreFit b (l ∷ seats) = IsFit b l × AreFit b seats

one-fit : (b : Books) (given : List ℕ) (l : SeatLists) (gathered : List Gathered) → AreGathered b given gathered → In (as_gathered l) gathered → IsFit b l
one-fit b given l [] h among = absurd among
one-fit b given l (g ∷ gathered) h among = search (rules, (one-fit b given l gathered h.2))

each-fit : (b : Books) (given : List ℕ) (tap : TapLists) (seats : List SeatLists) → AreGathered b given tap.gathered → HasEach tap seats → AreFit b seats
each-fit b given tap [] h has = tt
each-fit b given tap (l ∷ seats) h has = (one-fit b given l tap.gathered h has.0, each-fit b given tap seats h has.1)

abbrev senders_at : List SeatLists → List ℕ
senders_at seats = map (λ (l : SeatLists). l.sender) seats

accepted-fits : (b : Books) (s : ℕ) (seats : List SeatLists) → AreFit b seats → (stands_in s (senders_at seats) ≡ false → of_sender s b.all ≡ []) → accepted_of seats s ≡ of_sender s b.all
accepted-fits b s [] fit none = sym (none refl)
accepted-fits b s (l ∷ seats) fit none = search (rules, (accepted-fits b s seats fit.1))

evicted-fits : (b : Books) (s : ℕ) (seats : List SeatLists) → AreFit b seats → (stands_in s (senders_at seats) ≡ false → evicted_by s b.gone ≡ []) → evicted_of seats s ≡ evicted_by s b.gone
evicted-fits b s [] fit none = sym (none refl)
evicted-fits b s (l ∷ seats) fit none = search (rules, (evicted-fits b s seats fit.1))

-- all seats' lists together
all-evicted-fit : (b : Books) (seats : List SeatLists) → AreFit b seats → all_evicted seats ≡ flat_map (λ s. evicted_by s b.gone) (senders_at seats)
all-evicted-fit b [] fit = refl
all-evicted-fit b (l ∷ seats) fit = λ i. fit.0.evicted i ++ all-evicted-fit b seats fit.1 i

evicted-length : (seats : List SeatLists) → evicted_count seats ≡ length (all_evicted seats)
evicted-length [] = refl
evicted-length (l ∷ seats) = grind (arith, common_steps, (evicted-length seats))

accepted-times : (b : Books) (seats : List SeatLists) → AreFit b seats → accepted_count seats ≡ times_in_all (senders_at seats) (senders_named b.all)
accepted-times b [] fit = refl
accepted-times b (l ∷ seats) fit = search (rules, of-times, (accepted-times b seats fit.1))

same-senders : (seats : List SeatLists) → map (λ (r : ℕ × ℕ). r.0) (map (λ (l : SeatLists). (l.sender, l.room)) seats) ≡ senders_at seats
same-senders [] = refl
same-senders (l ∷ seats) = ap (λ k. l.sender ∷ k) (same-senders seats)

-- tallies that are told of what is marked tell of the packets, where just these are marked
pub tallies-told : (packets : List Packet) (marked : Packet → Bool) → ((p : Packet) → marked p ≡ has_packet packets p) → (seats : List SeatLists) → map (telling marked) (map untold seats) ≡ map (tally_of packets) seats
tallies-told packets marked same [] = refl
tallies-told packets marked same (l ∷ seats) = λ i. tally_by (λ p. same p i) l ∷ tallies-told packets marked same seats i

-- What the books say of seats that are all of their queue's: what each sender's seat had, and how many packets came and were evicted.
record AreBooked (b : Books) (seats : List SeatLists) : Type 0 where
  accepted : (s : ℕ) → of_sender s b.all ≡ accepted_of seats s
  evicted : (s : ℕ) → evicted_by s b.gone ≡ evicted_of seats s
  out : evicted_in b ≡ all_evicted seats
  came : accepted_count seats ≡ length b.all

booked : (b : Books) (held : List Packet) (setup : QueueSetup) (seats : List SeatLists) → IsSound b held → b.setup ≡ setup → map (λ (l : SeatLists). (l.sender, l.room)) seats ≡ setup.rooms → AreFit b seats → AreBooked b seats
booked b held setup seats sound same rooms fit =
    let senders : senders_of b.setup ≡ senders_at seats = search (rules, same-senders) in
    let unknown : (s : ℕ) → stands_in s (senders_at seats) ≡ false → stands_in s (senders_of b.setup) ≡ false = λ s e. ap (λ l. stands_in s l) senders ∙ e in
    let none_came : (s : ℕ) → stands_in s (senders_at seats) ≡ false → of_sender s b.all ≡ [] = λ s e. nil_from_length (of_sender s b.all) (unroomed b.setup.rooms s (length (of_sender s b.all)) (sound.room s) (unknown s e)) in
    search (rules, accepted-fits, evicted-fits, all-evicted-fit, accepted-times, counted, rising-distinct, of-times, named-length)

-- What came to a queue was put out, or taken, or is held, by the lists of all its seats.
seats-balance : (b : Books) (held : List Packet) (tap : TapLists) (seats : List SeatLists) → IsSound b held → tap.taken ≡ taken_in b.gone → AreBooked b seats
    → evicted_count seats + length tap.taken + length held ≡ accepted_count seats
seats-balance b held tap seats sound taken is = search (rules, all-counted, evicted-length)

-- the tap has the lists of seats that are all gathered
each-had : (tap : TapLists) (closed : List ClosedLists) → AreOfTap tap closed → AllByRecursion (λ (c : ClosedLists). c.is_gathered ≡ true) closed → HasEach tap (lists_of closed)
each-had tap [] of all = tt
each-had tap (c ∷ closed) of all = (of.0.had all.0, each-had tap closed of.1 all.1)

-- the tap's queue, by what it knows
abbrev tap_of : Bool → TableId → View → TapLists
tap_of keeps id v = record { id = id; setup = v.setup; keeps = keeps; taken = v.taken; gathered = v.gathered }

all-seats : (keeps : Bool) (id : TableId) (v : View) (held : List Packet) (closed : List ClosedLists) → TapKnows v held → HasAllSeats (tap_of keeps id v) closed
    → evicted_count (lists_of closed) + length v.taken + length held ≡ accepted_count (lists_of closed)
all-seats keeps id v held closed known seats =
    let tap : TapLists = tap_of keeps id v in
    let fit = each-fit known.books v.given tap (lists_of closed) known.gathered (each-had tap closed seats.together.each seats.gathered) in
    seats-balance known.books held tap (lists_of closed) known.sound known.taken_is (booked known.books held v.setup (lists_of closed) known.sound (sym known.setup) seats.together.senders fit)

pub seats-within : (keeps : Bool) (id : TableId) (v : View) → TapKeeps v → (closed : List ClosedLists) → HasAllSeats (tap_of keeps id v) closed → IsTakenWithin (tap_of keeps id v) closed
seats-within keeps id v k closed seats = search (rules, all-seats)

pub seats-all : (keeps : Bool) (id : TableId) (v : View) → TapKeeps v → Held 0 (Knows v) → (closed : List ClosedLists) → HasAllSeats (tap_of keeps id v) closed → IsAllTaken (tap_of keeps id v) closed
seats-all keeps id v k held closed seats = search (rules, all-seats)

-- The tap has the lists of all seats, which are an account of its queue then.
has-booked : (tap new : TapLists) (closed : List ClosedLists) → AreTogether tap closed → (new.setup ≡ tap.setup) × (new.taken ≡ tap.taken) → HasEach new (lists_of closed) → (a : IsAccounted new) → AreBooked a.books (lists_of closed)
has-booked tap new closed together same has a =
    booked a.books a.held tap.setup (lists_of closed) a.sound (sym a.setup ∙ same.0) together.senders (search (rules, each-fit))

whole-account : (tap new : TapLists) (closed : List ClosedLists) → AreTogether tap closed → (new.setup ≡ tap.setup) × (new.taken ≡ tap.taken) → HasEach new (lists_of closed) → (a : IsAccounted new)
    → IsAccount tap.setup.kind tap.setup.capacity (senders_of tap.setup) (accepted_of (lists_of closed)) (evicted_of (lists_of closed)) tap.taken a.held
whole-account tap new closed together same has a =
    let is = has-booked tap new closed together same has a in
    subst (λ (x : QueueSetup × (ℕ → List Packet) × (ℕ → List Packet) × List Packet). IsAccount x.0.kind x.0.capacity (senders_of x.0) x.1 x.2 x.3 a.held)
    (search rules) (account a.books a.held a.sound)

-- A seat that was opened with the tap is of a queue of its kind.
each-kind : (tap : TapLists) (closed : List ClosedLists) → AreOfTap tap closed → AllByRecursion (λ (l : SeatLists). l.setup.kind ≡ tap.setup.kind) (lists_of closed)
each-kind tap [] of = tt
each-kind tap (c ∷ closed) of = search (rules, (each-kind tap closed of.1))

-- The queue lost packets below its capacity.
pub lost-below : (tap new : TapLists) (closed : List ClosedLists) → AreTogether tap closed → (new.setup ≡ tap.setup) × (new.taken ≡ tap.taken) → HasEach new (lists_of closed) → IsAccounted new
    → AllByRecursion IsSharedOut (lists_of closed) → 0 < lost_count (lists_of closed) → accepted_count (lists_of closed) < tap.setup.capacity → HasLostBelow tap.setup.kind tap.setup.capacity (senders_of tap.setup) (lists_of closed) tap.taken
lost-below tap new closed together same has a dealt lost below = record {
  held = a.held;
  account = whole-account tap new closed together same has a;
  kinds = each-kind tap closed together.each;
  shared = dealt;
  lost = lost;
  below = below;
}

-- All is told.
pub settles : (tap new : TapLists) (closed : List ClosedLists) (pulled : List Packet) (told : List Tally) → (tap.keeps ≡ true → pulled ≡ tap.taken) → AreTogether tap closed → (new.setup ≡ tap.setup) × (new.taken ≡ tap.taken) → HasEach new (lists_of closed) → IsAccounted new
    → told ≡ map (tally_of (all_evicted (lists_of closed))) (lists_of closed)
    → AllByRecursion IsSharedOut (lists_of closed) → (0 < lost_count (lists_of closed) → tap.setup.capacity ≤ accepted_count (lists_of closed)) → IsSettled tap closed pulled told
settles tap new closed pulled told is_pulled together same has a tallies shared reached =
    let b : Books = a.books in let seats : List SeatLists = lists_of closed in
    let took : taken_in b.gone ≡ tap.taken = sym a.taken ∙ same.1 in
    let is = has-booked tap new closed together same has a in
    let gone = evicted-length seats ∙ ap length (sym is.out) in let came = is.came in let mine = ap length took in
    let whole = account b a.held a.sound in
    let its-account = whole-account tap new closed together same has a in record {
      taken = is_pulled;
      tallies = tallies;
      held = a.held;
      account = its-account;
      left = λ s. ((whole.is_last s).0, search (rules, left-held));
      all_taken = search (rules, as-many, append-nil);
      within = search (rules, seats-balance);
      shared = shared;
      reached = reached;
    }
