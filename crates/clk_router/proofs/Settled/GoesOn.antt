-- How the packets inside each queue of a router change, in events that can happen.
use Rattle.std.proofs.Common.{◌≡◌, ◌<◌, true, length, MatchOption, refl, sym, subst}
use Rattle.clk_sched.specs.Tree.{Tree, leaves_distinct}
use Rattle.clk_sched.specs.Conservation.{ConservesPackets, MakesNothing}
use Rattle.clk_sched.specs.FewHeads.{HoldsFewHeads}
use Rattle.clk_router.specs.Events.{Room, Setup}
use Rattle.clk_router.specs.InsideQueues.{QueueGoesOn, QueuesGoOn}
use Rattle.clk_router.specs.inside.Closable.{IsClosable}
use Rattle.clk_router.specs.inside.Parts.{IsWhole}
use Rattle.clk_router.proofs.PartsLemmas.{all-there}
use Rattle.clk_router.proofs.Settled.Dealt.{member-there}
use Rattle.clk_router.proofs.Settled.Inside.{inside-fits}
use Rattle.clk_router.proofs.Settled.InsideOffered.{inside-offered}
use Rattle.clk_router.proofs.Settled.OfSenders.{of-senders}
use Rattle.clk_router.proofs.Settled.InsideSteps.{inside-other, inside-accepted, inside-refused, inside-full, inside-evicted, inside-pulled}

pub queues-go_on : ((tree : Tree) → leaves_distinct tree ≡ true → ConservesPackets tree) → ((tree : Tree) → MakesNothing tree) → ((tree : Tree) → leaves_distinct tree ≡ true → HoldsFewHeads tree) → (setup : Setup) → IsWhole setup → IsClosable setup → QueuesGoOn setup
queues-go_on conserves makes few setup whole closable =
    record {
      start = λ d q. refl;
      each = λ events q room can is.
          (let its = member-there setup.trees room.device (all-there (λ (r : Room). r.device < length setup.trees) setup.queues q room whole.paths is) in
          subst (λ o. MatchOption o ⊥ (QueueGoesOn setup events q room)) (sym its.1)
          (record {
            other = λ p outcome none. inside-other setup room.device q events p outcome none;
            accepted = λ p sends. inside-accepted conserves makes setup whole closable events can q room is p sends;
            refused = λ p r sends. inside-refused conserves makes setup whole closable events can q room is p r sends;
            full = λ p outcome sends goes_on never. inside-full conserves makes setup whole closable events can q room is p outcome sends goes_on never;
            evicted = λ p front sends goes_on. inside-evicted conserves makes setup whole closable events can q room is p front sends goes_on;
            pulled_on = λ c m visits goes_on. inside-pulled conserves makes setup whole closable events can q room is its.0 its.1 c m visits goes_on;
            fits = inside-fits conserves makes setup whole closable events can few q room its.0 is its.1;
            were_offered = inside-offered setup events can room.device q room is;
          }));
      of_senders = λ events c m visits goes_on. of-senders conserves makes setup whole closable events c m visits goes_on;
    }
