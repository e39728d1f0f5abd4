-- The order of a RoundRobinSched after its turns names each input once, and takes no notice of turns without visits.
use Rattle.std.proofs.Common.{◌≡◌, ℕ, ◌<◌, ◌≤◌, List, [], ◌∷◌, refl, arith, rules}
use Rattle.clk_sched.specs.Turns.{Turn}
use Rattle.clk_sched.specs.Laws.RoundRobin.{beginning, round_robin_order}
use Rattle.clk_sched.proofs.Lists.Members.{all-weaker}
use Rattle.clk_sched.proofs.Classes.Orders.{IsOrderOf, IsBeyond, around}
use Rattle.clk_sched.proofs.Classes.BusyTurns.{busy, busy-tells}

beginning-below : (inputs : ℕ) (earlier : List Turn) → 1 ≤ inputs → beginning inputs earlier < inputs
beginning-below inputs [] l = omega arith
beginning-below inputs (t ∷ earlier) l = search (rules, (beginning-below inputs earlier l))

pub round_robin-order : (inputs : ℕ) (earlier : List Turn) → 1 ≤ inputs → IsOrderOf inputs (round_robin_order inputs earlier)
round_robin-order inputs earlier l =
    let all = around inputs (beginning inputs earlier) 0 inputs (beginning-below inputs earlier l) (omega arith) in
    record {
      within = all-weaker (IsBeyond inputs (beginning inputs earlier) 0) (λ i. i < inputs) (round_robin_order inputs earlier) (λ i b. b.place.within) all.0;
      apart = all.1;
    }

pub busy-beginning : (inputs : ℕ) (ts : List Turn) → beginning inputs (busy ts) ≡ beginning inputs ts
busy-beginning inputs = busy-tells (beginning inputs) (λ t us ts e. search rules) (λ moment ts. refl)
