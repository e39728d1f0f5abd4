-- Why a run fails.
use Rattle.std.proofs.Common.{◌≡◌, ℕ, ◌+◌, true, ⊎_elim, List, [], ◌∷◌, ◌++◌, length, map, suc, refl, sym, ap, ◌∙◌, subst, arith, Vec, rules, None}
use Rattle.std.proofs.lemmas.Grind.{common_steps}
use Rattle.std.proofs.lemmas.Bool.Decides.{nat_tests}
use Rattle.std.specs.declared.alloc.Global.{Global}
use Rattle.std.specs.List.{flat_map, AllByRecursion}
use Rattle.std.proofs.lemmas.List.{map-append}
use Rattle.clk_packet.specs.declared.packet.Packet.{Packet}
use Rattle.clk_packet.specs.declared.fault.Fault.{Fault}
use Rattle.clk_packet.specs.Lists.{are_distinct}
use Rattle.clk_packet.specs.Trace.{sent_by}
use Rattle.clk_ruled.specs.Queue.{SeatLists}
use Rattle.clk_tree.specs.Plan.{Planned}
use Rattle.clk_tree.specs.PlanTree.{device_count}
use Rattle.clk_tree.specs.PlanParts.{Queued, queues_of, SharedQueue}
use Rattle.clk_drain.specs.declared.running.opening.LeafQueue.{LeafQueue}
use Rattle.clk_drain.specs.Line.{LineLists, seats_of, seats_in}
use Rattle.clk_drain.specs.Closing.{HasSent, queue_of_line, seated}
use Rattle.clk_drain.specs.Lost.{SeatedQueue}
use Rattle.clk_drain.specs.inside.Threads.{Terms, EndLists, Feed}
use Rattle.clk_drain.specs.inside.Handed.{seated_in, IsFaultOfClosing}
use Rattle.clk_drain.specs.inside.Devices.{AreOpenFrom}
use Rattle.clk_gate.specs.Known.{senders_in, first_unknown}
use Rattle.clk_drain.specs.Laws.{queues_in_order, HasOffered}
use Rattle.clk_drain.specs.Run.{IsFaultOfRun}
use Rattle.clk_drain.proofs.Threads.Joining.{AreJoinedFeeds}
use Rattle.clk_drain.proofs.Losses.LossCounts.{lost-early}
use Rattle.clk_drain.proofs.Plans.PlanDevices.{queues_by_device}
use Rattle.clk_packet.proofs.Callers.Lists.{all-append}
use Rattle.clk_sched.proofs.Callers.Lists.{all-split}

abbrev queue_in : SeatedQueue → SharedQueue
queue_in s = s.queue

abbrev all_in : List (List SharedQueue) → List SharedQueue
all_in lists = flat_map (λ (queues : List SharedQueue). queues) lists

-- The queues of the lines of joined devices are those of the plan's devices.
lines-queues : (lines : List LineLists) → map queue_in (map seated lines) ≡ map queue_of_line lines
lines-queues [] = refl
lines-queues (l ∷ lines) = search (rules, (lines-queues lines))

feeds-queues : (terms : Terms) (all : List (List SharedQueue)) (ends : List EndLists) (feeds : List Feed) → AreJoinedFeeds terms all ends feeds → map queue_in (seated_in feeds) ≡ all_in all
feeds-queues terms [] [] [] h = refl
feeds-queues terms (shared ∷ all) (e ∷ ends) (f ∷ feeds) h = search (rules, map-append, lines-queues, (feeds-queues terms all ends feeds h.1))
feeds-queues terms all ends feeds h = absurd h

each-of : {X : Type 0} (f : X → List SharedQueue) (xs : List X) → all_in (map f xs) ≡ flat_map f xs
each-of f [] = refl
each-of f (x ∷ xs) = ap (λ rest. f x ++ rest) (each-of f xs)

ends-count : (plan : List Planned) (traces : List (List Packet)) (device end : ℕ) (queues : List (Vec LeafQueue Global)) (seats : List (Vec (Vec SeatLists Global) Global)) (ends : List EndLists) → AreOpenFrom plan traces device end queues seats ends → device + length ends ≡ end
ends-count plan traces device end [] [] [] h = omega (arith, h)
ends-count plan traces device end (q ∷ queues) (s ∷ seats) (e ∷ ends) h = let rest = ends-count plan traces (suc device) end queues seats ends h.1 in omega (arith, rest)
ends-count plan traces device end queues seats ends h = absurd h

plan-queues : (plan : List Planned) (traces : List (List Packet)) (queues : List (Vec LeafQueue Global)) (seats : List (Vec (Vec SeatLists Global) Global)) (ends : List EndLists) → AreOpenFrom plan traces 0 (device_count plan) queues seats ends → all_in (queues_by_device (queues_of plan) 0 (length ends)) ≡ queues_in_order plan
plan-queues plan traces queues seats ends opened = search (rules, each-of, ends-count)

-- The seats of each line offered all that is sent.
lines-offered : (traces : List (List Packet)) (lines : List LineLists) → AllByRecursion (HasSent (sent_by traces)) (seats_in lines) → AllByRecursion (HasOffered traces) (map seated lines)
lines-offered traces [] sent = tt
lines-offered traces (l ∷ lines) sent = grind (arith, common_steps, nat_tests, (all-split (HasSent (sent_by traces)) (seats_of l) (seats_in lines) sent), (lines-offered traces lines))

feeds-offered : (terms : Terms) (all : List (List SharedQueue)) (ends : List EndLists) (feeds : List Feed) → AreJoinedFeeds terms all ends feeds → AllByRecursion (HasOffered terms.traces) (seated_in feeds)
feeds-offered terms [] [] [] h = tt
feeds-offered terms (shared ∷ all) (e ∷ ends) (f ∷ feeds) h = search (rules, all-append, lines-offered, (feeds-offered terms all ends feeds h.1))
feeds-offered terms all ends feeds h = absurd h

-- A device that isn't closed.
pub unclosed : (plan : List Planned) (terms : Terms) (queues : List (Vec LeafQueue Global)) (seats : List (Vec (Vec SeatLists Global) Global)) (ends : List EndLists) (feeds : List Feed) (fault : Fault) → first_unknown (senders_in plan) terms.traces ≡ None
    → are_distinct (flat_map (λ (q : Queued). q.senders) (queues_of plan)) ≡ true → AreOpenFrom plan terms.traces 0 (device_count plan) queues seats ends
    → AreJoinedFeeds terms (queues_by_device (queues_of plan) 0 (length ends)) ends feeds → IsFaultOfClosing feeds fault → IsFaultOfRun plan terms.traces fault
unclosed plan terms queues seats ends feeds fault known apart opened joined o =
    ⊎_elim (λ memory. subst (IsFaultOfRun plan terms.traces) (sym memory) tt)
    (λ names.
    lost-early plan terms.traces fault apart known
    (record {
      queues = seated_in feeds;
      are = feeds-queues terms (queues_by_device (queues_of plan) 0 (length ends)) ends feeds joined ∙ plan-queues plan terms.traces queues seats ends opened;
      offered = feeds-offered terms (queues_by_device (queues_of plan) 0 (length ends)) ends feeds joined;
      names = names;
    }))
    o
