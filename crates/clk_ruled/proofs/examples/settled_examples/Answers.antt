use Rattle.std.proofs.Common.{◌≡◌, false, List, [], ◌∷◌, ◌++◌, get_or, refl, lit≤, ap, Bool, arith, length}
use Rattle.clk_packet.specs.declared.packet.Packet.{Packet}
use Rattle.clk_ruled.specs.PacketLists.{without}
use Rattle.clk_ruled.specs.SettleExamples.{front_dropped, front_tallies, tail_tallies}
use Rattle.clk_ruled.specs.Examples.{p0_0, p0_1, p1_0, p1_1, put_out, pulled, held}
use Rattle.clk_ruled.proofs.Worked.{by-senders, of_these, of_seats, front-account-by-seats, front-shared, tail-shared, tail-account, not-last}
use Rattle.clk_ruled.proofs.examples.settled_examples.Goals as goal

-- what the queue took from a sender
abbrev accepted : Bool → Bool → List Packet
accepted a b = of_seats a b (p0_0 ∷ p0_1 ∷ []) (p1_0 ∷ p1_1 ∷ [])

pub returns-clause-is_front_dropped : goal.returns-clause-is_front_dropped
returns-clause-is_front_dropped c =
    λ id. record {
      taken = λ _. refl;
      tallies = λ i. front_tallies;
      held = held;
      account = front-account-by-seats 2 (lit≤ tt);
      left = by-senders (λ a b. (before : List Packet) × (accepted a b ≡ before ++ without (without (accepted a b) put_out) pulled)) (p0_0 ∷ p0_1 ∷ [], refl) ([], refl) ([], refl);
      all_taken = λ many. absurd (omega (arith, many));
      within = lit≤ tt;
      shared = front-shared id (front_dropped 2 pulled id).tap.setup;
      reached = λ lost. lit≤ tt;
    }

-- what the Queue took from a sender
abbrev accepted_alone : Bool → Bool → List Packet
accepted_alone a b = of_seats a false (p0_0 ∷ []) []

pub returns-clause-is_tail_dropped : goal.returns-clause-is_tail_dropped
returns-clause-is_tail_dropped c =
    λ id. record {
      taken = λ _. refl;
      tallies = λ i. tail_tallies;
      held = [];
      account = tail-account 1;
      left = by-senders (λ a b. (before : List Packet) × (accepted_alone a b ≡ before ++ without (without (accepted_alone a b) []) (p0_0 ∷ []))) (p0_0 ∷ [], refl) ([], refl) ([], refl);
      all_taken = λ many. by-senders (λ a b. without (accepted_alone a b) [] ≡ of_these a b (p0_0 ∷ [])) refl refl refl;
      within = lit≤ tt;
      shared = tail-shared id 1;
      reached = λ _. lit≤ tt;
    }

pub returns-clause-not_newer_first : goal.returns-clause-not_newer_first
returns-clause-not_newer_first c = λ id s. let numbers = ap (λ (l : List Packet). (get_or l 0 p0_0).number) (s.account.balances 1) in absurd (omega (arith, numbers))

pub returns-clause-not_older_left : goal.returns-clause-not_older_left
returns-clause-not_older_left c = λ id s. absurd (not-last p0_0 p0_1 refl refl (s.left 0).0 (s.left 0).1)

pub returns-clause-not_one_left : goal.returns-clause-not_one_left
returns-clause-not_one_left c = λ id s. let counts = ap length (s.all_taken refl 0) in absurd (omega (arith, counts))
