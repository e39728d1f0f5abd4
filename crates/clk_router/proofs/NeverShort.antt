-- The closing of a device over a plan never stops short: its queues lose nothing, and what it is told to be left is what queues and heads
-- hold.
use Rattle.std.proofs.Common.{◌≡◌, ℕ, zero, suc, ◌+◌, ◌<◌, ◌==◌, ◌||◌, Bool, true, false, List, [], ◌∷◌, length, map, Option, Some, None, slice_get, refl, sym, ap, ◌∙◌, subst, arith, rules}
use Rattle.std.specs.List.{AllByRecursion}
use Rattle.std.proofs.lemmas.Bool.{false≢true}
use Rattle.std.proofs.lemmas.Bool.Decides.{nat_tests}
use Rattle.clk_ring.specs.Queue.{Queue}
use Rattle.clk_ring.specs.QueueHistory.{held}
use Rattle.clk_packet.specs.Lists.{stands_in, AreRising}
use Rattle.clk_sched.specs.Tree.{Tree, root, leaves, leaves_distinct}
use Rattle.clk_sched.specs.Run.{IsRun}
use Rattle.clk_sched.specs.Results.{emitted, heads}
use Rattle.clk_sched.specs.Conservation.{ConservesCounts}
use Rattle.clk_sched.specs.Closing.{LosesNothing, held_in_all, left_in}
use Rattle.clk_tree.specs.Plan.{Planned}
use Rattle.clk_tree.specs.PlanTree.{device_count}
use Rattle.clk_tree.specs.PlanParts.{Queued, queues_of, senders_of, number_of}
use Rattle.clk_tree.specs.Shares.{AreTreesOf, AreSharedOut}
use Rattle.clk_router.specs.declared.devices.RouterDevice.{RouterDevice}
use Rattle.clk_router.specs.declared.queues.Queues.{Queues}
use Rattle.clk_router.specs.declared.parts.Parts.{Parts}
use Rattle.clk_router.specs.Events.{Room, Setup, Event, events_at, log_of, history, plan_setup}
use Rattle.clk_router.specs.inside.Closable.{AreQueuesOf, IsClosable, is_at}
use Rattle.clk_router.specs.inside.Parts.{CanStand, AreQueuesAt, IsAt}
use Rattle.clk_router.specs.inside.Queues.{packets_in, packets_at, GivesAt}
use Rattle.clk_router.proofs.Callers.Plans.{setup-by-paths, paths-apart, leaves-at}
use Rattle.clk_router.proofs.Callers.Apart.{history-alone}
use Rattle.clk_router.proofs.PartsLemmas.{IsHere, device-here}
use Rattle.clk_router.proofs.Settled.NoneLeft.{left-held}

-- Queues lose nothing.
pub queues-lose-nothing : LosesNothing (λ (old : Queues) leaf got (new : Queues). GivesAt old.rings.items leaf got new.rings.items) (λ (s : Queues) leaf. length (packets_at s.rings.items leaf))
queues-lose-nothing a leaf got b h = search rules

-- a sum over queues goes by what each holds
held-same : (f g : ℕ → ℕ) (qs : List ℕ) → ((q : ℕ) → stands_in q qs ≡ true → f q ≡ g q) → held_in_all f qs ≡ held_in_all g qs
held-same f g [] same = refl
held-same f g (q ∷ qs) same =
    let here = same q (ap (λ b. b || stands_in q qs) (let itself : (q == q) ≡ true = grind (arith, nat_tests) in itself)) in
    let rest = held-same f g qs (λ r s. same r (or-later (q == r) s)) in omega (arith, here, rest)
  where
    or-later : {c : Bool} (b : Bool) → c ≡ true → (b || c) ≡ true
    or-later true e = refl
    or-later false e = e

-- what a queue of a device holds, by its history there
held-there : (setup : Setup) → IsClosable setup → (d q : ℕ) (events : List Event) (room : Option Room) (ring : Option Queue) → slice_get setup.queues q ≡ room → is_at d room ≡ true → AreQueuesAt (history setup q events) room ring
    → length (packets_in ring) ≡ length (held (history setup q (events_at setup d events)))
held-there setup closable d q events None ring is at leads = absurd (false≢true at)
held-there setup closable d q events (Some room) None is at leads = absurd leads
held-there setup closable d q events (Some room) (Some ring) is at leads = ap length (sym leads.leads.holds) ∙ ap (λ h. length (held h)) (sym (history-alone setup closable.apart d q room is at events))

-- What a device over such a setup has kept: what came out of it, and what its queues and heads hold.
pub kept-is : (setup : Setup) (all_events : List Event) (parts : Parts) (d : ℕ) (device : RouterDevice) → IsClosable setup → IsAt setup all_events parts → ((tree : Tree) → IsRun tree []) → ((tree : Tree) → leaves_distinct tree ≡ true → ConservesCounts tree) → slice_get parts.devices.items d ≡ Some device
    → device.kept ≡ length (emitted device.session.log) + left_in device.session.tree device.session.log (λ q. length (packets_at parts.queues.rings.items q))
kept-is setup all_events parts d device closable at start counts was =
    let kept = here.is.kept in
    let left = left-held start counts setup closable all_events at.can_happen d here.tree here.its here.runs.run in
    let out = ap (λ l. length (emitted l)) here.is.log in
    let holds = holds_there ∙ same_held in
    omega (arith, kept, left, out, holds)
  where
    here : IsHere setup all_events d device
    here = device-here setup all_events parts d device at was

    its : List Event
    its = events_at setup d all_events

    of : AreQueuesOf setup d here.tree
    of = closable.queues d here.tree here.its

    same_held : left_in here.tree (log_of its) (λ q. length (packets_at parts.queues.rings.items q)) ≡ left_in here.tree (log_of its) (λ q. length (held (history setup q its)))
    same_held = ap (λ n. n + length (heads here.tree (log_of its)))
        (held-same (λ q. length (packets_at parts.queues.rings.items q)) (λ q. length (held (history setup q its))) (leaves (root here.tree))
        (λ q s. held-there setup closable d q all_events (slice_get setup.queues q) (slice_get parts.queues.rings.items q) refl (sym (of.leaves_are q) ∙ s) (at.queues q)))

    holds_there : left_in device.session.tree device.session.log (λ q. length (packets_at parts.queues.rings.items q)) ≡ left_in here.tree (log_of its) (λ q. length (packets_at parts.queues.rings.items q))
    holds_there = λ i. left_in (here.is.tree_is i) (here.is.log i) (λ q. length (packets_at parts.queues.rings.items q))

-- the closings of a plan come to their ends
stand-at : (trees : List Tree) (d : ℕ) (tree : Tree) → AllByRecursion CanStand trees → slice_get trees d ≡ Some tree → CanStand tree
stand-at [] d tree h e = absurd (cc)
stand-at (t ∷ trees) zero tree h e = let same : t ≡ tree = cc in subst CanStand same h.0
stand-at (t ∷ trees) (suc d) tree h e = stand-at trees d tree h.1 e

pub plan-closable : (plan : List Planned) (trees : List Tree) → AreTreesOf plan trees → AreSharedOut (queues_of plan) trees → AreRising (map number_of (senders_of plan))
    → AllByRecursion (λ (q : Queued). q.device < device_count plan) (queues_of plan) → AllByRecursion CanStand trees → IsClosable (plan_setup trees plan)
plan-closable plan trees are shared rising paths stand = subst IsClosable (sym (setup-by-paths plan trees are shared paths))
    (record {
      apart = paths-apart plan trees are shared rising paths;
      queues = λ d tree at. record { its = at; senders = rising; distinct = (stand-at trees d tree stand at).distinct; leaves_are = leaves-at plan trees are shared paths d tree at };
      sound = λ d tree at. (stand-at trees d tree stand at).sound;
      bound = λ d tree at. (stand-at trees d tree stand at).bound;
    })
