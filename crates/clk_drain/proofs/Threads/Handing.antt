-- What was opened fits together, and nothing was done with it yet.
use Rattle.std.proofs.Common.{◌≡◌, ℕ, List, [], ◌∷◌, map, refl, sym, ap, ◌∙◌, subst, Vec, rules}
use Rattle.std.specs.declared.alloc.Global.{Global}
use Rattle.std.specs.List.{AllByRecursion}
use Rattle.clk_packet.specs.declared.packet.Packet.{Packet}
use Rattle.clk_ruled.specs.declared.view.QueueSetup.{QueueSetup}
use Rattle.clk_ruled.specs.Queue.{OpenedQueue, SeatLists, TapLists, queue_of, empty_seat}
use Rattle.clk_packet.specs.Lists.{stands_in, AreRising}
use Rattle.clk_sched.specs.Tree.{Tree, root, leaves}
use Rattle.clk_sched.specs.Results.{leaf_packets}
use Rattle.clk_sched.specs.declared.visit.Visit.{Visit}
use Rattle.clk_drain.specs.declared.running.opening.LeafQueue.{LeafQueue}
use Rattle.clk_drain.specs.Line.{LineLists, leaves_of}
use Rattle.clk_tree.specs.PlanParts.{SharedQueue}
use Rattle.clk_drain.specs.inside.Threads.{Terms, IsUnused, EndLists}
use Rattle.clk_drain.specs.inside.Handed.{lines_from, AreTapsOf, FitPlaces, AreUnused, IsUnpulledOver}
use Rattle.clk_drain.specs.inside.Opening.{rooms_for, AreOpenAs}

-- The lines of opened queues stand at the leaves at which the queues were to stand.
pub leaves-open : (traces : List (List Packet)) (shared : List SharedQueue) (queues : List LeafQueue) (taps : List TapLists) (seats : List (Vec SeatLists Global)) → AreOpenAs traces shared queues taps seats
    → leaves_of (lines_from queues taps) ≡ map (λ (s : SharedQueue). s.leaf) shared
leaves-open traces [] [] [] [] h = refl
leaves-open traces (q ∷ shared) (at ∷ queues) (t ∷ taps) (s ∷ seats) h = λ i. h.0.0 i ∷ leaves-open traces shared queues taps seats h.1 i
leaves-open traces shared queues taps seats h = absurd h

taps-open : (traces : List (List Packet)) (shared : List SharedQueue) (queues : List LeafQueue) (taps : List TapLists) (seats : List (Vec SeatLists Global)) → AreOpenAs traces shared queues taps seats → AreTapsOf queues taps
taps-open traces [] [] [] [] h = tt
taps-open traces (q ∷ shared) (at ∷ queues) (t ∷ taps) (s ∷ seats) h = search (rules, (taps-open traces shared queues taps seats h.1))
taps-open traces shared queues taps seats h = absurd h

-- Each seat is its queue's, has room for all that its sender sends, and offered nothing.
seats-unused : (terms : Terms) (queue : OpenedQueue) (setup : QueueSetup) (senders : List ℕ) → queue ≡ queue_of queue.id setup → AllByRecursion (IsUnused terms queue) (map (empty_seat queue.id setup) (rooms_for terms.traces senders))
seats-unused terms queue setup [] is = tt
seats-unused terms queue setup (s ∷ senders) is = search (rules, (seats-unused terms queue setup senders is))

pub unused-open : (terms : Terms) (shared : List SharedQueue) (queues : List LeafQueue) (taps : List TapLists) (seats : List (Vec SeatLists Global)) → AreOpenAs terms.traces shared queues taps seats → FitPlaces (AreUnused terms) seats queues
unused-open terms [] [] [] [] h = tt
unused-open terms (q ∷ shared) (at ∷ queues) (t ∷ taps) (s ∷ seats) h = search (rules, seats-unused, (unused-open terms shared queues taps seats h.1))
unused-open terms shared queues taps seats h = absurd h

-- No tap took anything.
taken-none : (traces : List (List Packet)) (tree : Tree) (shared : List SharedQueue) (queues : List LeafQueue) (taps : List TapLists) (seats : List (Vec SeatLists Global)) → AreOpenAs traces shared queues taps seats
    → AllByRecursion (λ (l : LineLists). l.tap.taken ≡ leaf_packets tree l.leaf []) (lines_from queues taps)
taken-none traces tree [] [] [] [] h = tt
taken-none traces tree (q ∷ shared) (at ∷ queues) (t ∷ taps) (s ∷ seats) h = (ap (λ (tap : TapLists). tap.taken) h.0.1.2, taken-none traces tree shared queues taps seats h.1)
taken-none traces tree shared queues taps seats h = absurd h

-- A device's session is to be pulled over the queues that were opened with it for the first time.
pub unpulled-open : (traces : List (List Packet)) (shared : List SharedQueue) (queues : Vec LeafQueue Global) (seats : List (Vec SeatLists Global)) (ends : EndLists) → ends.session.log ≡ [] → AreRising (map (λ (s : SharedQueue). s.leaf) shared)
    → ((q : ℕ) → stands_in q (leaves (root ends.session.tree)) ≡ stands_in q (map (λ (s : SharedQueue). s.leaf) shared)) → AreOpenAs traces shared queues.items ends.taps seats → IsUnpulledOver queues ends
unpulled-open traces shared queues seats ends none rise stand h =
    let are = leaves-open traces shared queues.items ends.taps seats h in record {
      unpulled = record {
        none = none;
        own = record {
          rise = subst AreRising (sym are) rise;
          leaves = λ q. ap (stands_in q) are ∙ sym (stand q);
          taken = subst (λ (log : List Visit). AllByRecursion (λ (l : LineLists). l.tap.taken ≡ leaf_packets ends.session.tree l.leaf log) (lines_from queues.items ends.taps)) (sym none) (taken-none traces ends.session.tree shared queues.items ends.taps seats h);
        };
      };
      taps = taps-open traces shared queues.items ends.taps seats h;
    }
