use Rattle.std.proofs.Common.{◌≡◌, ◌<◌, List, [], ◌∷◌, refl, lit≤, inr, ap, ⊎_elim, arith, get_or}
use Rattle.std.specs.List.{AllByRecursion}
use Rattle.clk_packet.specs.declared.packet.Packet.{Packet}
use Rattle.clk_ruled.specs.declared.view.QueueSetup.{QueueSetup}
use Rattle.clk_ruled.specs.Account.{IsAccount}
use Rattle.clk_ruled.specs.Queue.{SeatLists, IsSharedOut}
use Rattle.clk_ruled.specs.Rule.{senders_of}
use Rattle.clk_ruled.specs.Settle.{HasLostBelow, lists_of, accepted_of, evicted_of, accepted_count, lost_count}
use Rattle.clk_ruled.specs.SettleExamples.{front_dropped, tail_dropped}
use Rattle.clk_ruled.specs.Examples.{p0_0, pulled, held}
use Rattle.clk_ruled.proofs.Worked.{front-account-by-seats, front-shared, tail-account, tail-shared}
use Rattle.clk_ruled.proofs.examples.fault_examples.Goals as goal

lost-early : (setup : QueueSetup) (seats : List SeatLists) (taken kept : List Packet) → IsAccount setup.kind setup.capacity (senders_of setup) (accepted_of seats) (evicted_of seats) taken kept
    → AllByRecursion (λ (l : SeatLists). l.setup.kind ≡ setup.kind) seats → AllByRecursion IsSharedOut seats → 0 < lost_count seats → accepted_count seats < setup.capacity
    → HasLostBelow setup.kind setup.capacity (senders_of setup) seats taken
lost-early setup seats taken kept account kinds shared lost below = record {
  held = kept;
  account = account;
  kinds = kinds;
  shared = shared;
  lost = lost;
  below = below;
}

pub returns-clause-is_refused_early : goal.returns-clause-is_refused_early
returns-clause-is_refused_early c =
    λ id. let queue = tail_dropped 2 (p0_0 ∷ []) id in
    inr (refl, lost-early queue.tap.setup (lists_of queue.seats) (p0_0 ∷ []) [] (tail-account 2) (refl, tt) (tail-shared id 2) (lit≤ tt) (lit≤ tt))

pub returns-clause-is_evicted_early : goal.returns-clause-is_evicted_early
returns-clause-is_evicted_early c =
    λ id. let queue = front_dropped 5 pulled id in
    inr (refl, lost-early queue.tap.setup (lists_of queue.seats) pulled held (front-account-by-seats 5 (lit≤ tt)) (refl, (refl, tt)) (front-shared id queue.tap.setup) (lit≤ tt) (lit≤ tt))

pub returns-clause-not_refused_one_pulled : goal.returns-clause-not_refused_one_pulled
returns-clause-not_refused_one_pulled c =
    λ id. ⊎_elim (λ e. absurd (cc)) (λ why. let numbers = ap (λ (l : List Packet). (get_or l 0 p0_0).number) (why.1.account.balances 0) in absurd (omega (arith, numbers)))
