-- What a pull emits is of a sender of the setup.
use Rattle.std.proofs.Common.{◌≡◌, ℕ, ◌==◌, true, List, [], ◌∷◌, ◌++◌, length, map, Option, Some, None, MatchOption, slice_get, sym, subst, arith, rules}
use Rattle.std.specs.Bool.{⊤}
use Rattle.std.specs.List.{cons_option, list_any, AllByRecursion}
use Rattle.std.proofs.lemmas.Bool.{false≢true}
use Rattle.std.proofs.lemmas.Bool.Decides.{nat_tests}
use Rattle.clk_packet.specs.declared.packet.Packet.{Packet}
use Rattle.clk_sched.specs.declared.visit.Visit.{Visit}
use Rattle.clk_sched.specs.Log.{visits_of, result_of}
use Rattle.clk_sched.specs.Tree.{Tree, root, leaves_distinct}
use Rattle.clk_sched.specs.Results.{Traced, traced_emitted, emitted}
use Rattle.clk_sched.specs.Conservation.{ConservesPackets, MakesNothing}
use Rattle.clk_sched.proofs.Callers.Lists.{all-split}
use Rattle.clk_sched.proofs.Callers.Traced.{CameOf, emitted-traced}
use Rattle.clk_tree.specs.declared.plan.parts.SenderSpec.{SenderSpec}
use Rattle.clk_tree.specs.PlanParts.{number_of}
use Rattle.clk_router.specs.Events.{Setup, Event, pulled, sends_to, events_at, log_of, emitted_in, IsOfDevice, RunsTree, CanHappen}
use Rattle.clk_router.specs.Settled.{emitted_by}
use Rattle.clk_router.specs.inside.Closable.{IsClosable}
use Rattle.clk_router.specs.inside.Parts.{IsWhole}
use Rattle.clk_router.proofs.Callers.Events.{events-here}
use Rattle.clk_router.proofs.Settled.Accounted.{came}
use Rattle.clk_router.proofs.Settled.Dealt.{member-there}
use Rattle.clk_router.proofs.Settled.InsideSteps.{emitted-pull, pull-emitted}
use Rattle.clk_router.proofs.Settled.OwnPackets.{SendsIn}

-- a packet is of one of these senders
abbrev IsKnown : List SenderSpec → Packet → Type 0
IsKnown senders p = list_any (λ n. n == p.sender) (map number_of senders) ≡ true

-- who sends to a queue is one of the senders
sends-known : (senders : List SenderSpec) (s q : ℕ) → sends_to senders s q ≡ true → list_any (λ n. n == s) (map number_of senders) ≡ true
sends-known [] s q e = absurd (false≢true e)
sends-known (x ∷ senders) s q e = search (rules, (sends-known senders s q))

all-known : (senders : List SenderSpec) (tree : Tree) (ts : List Traced) → AllByRecursion (CameOf (SendsIn senders (root tree))) ts → AllByRecursion (IsKnown senders) (map (λ (t : Traced). t.0) ts)
all-known senders tree [] h = tt
all-known senders tree (t ∷ ts) h = search (rules, sends-known, (all-known senders tree ts h.1))

-- if there is a result, it is the one packet of this list
of-result : (senders : List SenderSpec) (o : Option Packet) → AllByRecursion (IsKnown senders) (cons_option o []) → MatchOption o ⊤ (IsKnown senders)
of-result senders None h = tt
of-result senders (Some p) h = h.0

pub of-senders : ((tree : Tree) → leaves_distinct tree ≡ true → ConservesPackets tree) → ((tree : Tree) → MakesNothing tree) → (setup : Setup) → IsWhole setup → IsClosable setup → (events : List Event) (c m : ℕ) (visits : List Visit)
    → CanHappen setup (events ++ pulled c m visits ∷ []) → MatchOption (emitted_in (pulled c m visits)) ⊤ (IsKnown setup.senders)
of-senders conserves makes setup whole closable events c m visits goes_on = of-result setup.senders (result_of (visits_of 0 visits)) (subst (AllByRecursion (IsKnown setup.senders)) result last)
  where
    more : List Event
    more = events ++ pulled c m visits ∷ []

    its_tree : (t : Tree) × (slice_get setup.trees c ≡ Some t)
    its_tree = member-there setup.trees c (all-split (IsOfDevice (length setup.trees)) events (pulled c m visits ∷ []) goes_on.devices).1.0

    result : emitted visits ≡ cons_option (result_of (visits_of 0 visits)) []
    result =
        let here : (c == c) ≡ true = grind (arith, nat_tests) in
        pull-emitted its_tree.0 (events_at setup c events) c m visits
        (subst (RunsTree its_tree.0) (events-here setup c events (pulled c m visits) here) (subst (λ o. MatchOption o ⊤ (λ t. RunsTree t (events_at setup c more))) its_tree.1 (goes_on.runs c)))

    all : AllByRecursion (IsKnown setup.senders) (emitted_by setup c more)
    all =
        let log = log_of (events_at setup c more) in
        subst (AllByRecursion (IsKnown setup.senders)) (sym (emitted-traced its_tree.0 log)) (all-known setup.senders its_tree.0 (traced_emitted its_tree.0 log) (came conserves makes setup whole closable more goes_on c its_tree.0 its_tree.1).0)

    last : AllByRecursion (IsKnown setup.senders) (emitted visits)
    last = (all-split (IsKnown setup.senders) (emitted_by setup c events) (emitted visits) (subst (AllByRecursion (IsKnown setup.senders)) (emitted-pull setup c events m visits) all)).1
