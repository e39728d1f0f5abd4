use Rattle.std.proofs.Common.{ℕ, [], ◌∷◌, refl, lit≤, inl, inr, arith, sum_by}
use Rattle.std.proofs.lemmas.List.Sorted.{IsPermutation-refl, IsNonDecreasingBy-short, sum_by-IsPermutation}
use Rattle.clk_packet.specs.declared.packet.Packet.{Packet}
use Rattle.clk_packet.specs.declared.tally.Tally.{Tally}
use Rattle.clk_sched.specs.Examples.Priority.{p0_0}
use Rattle.clk_drain.specs.Examples.{p0_1, sent, tally}
use Rattle.clk_drain.specs.DrainExamples.{gave}
use Rattle.clk_drain.proofs.examples.drain_examples.Goals as goal

pub returns-clause-is_drained : goal.returns-clause-is_drained
returns-clause-is_drained c =
    λ id. record {
      sent = sent;
      offered = ((refl, (refl, refl, (refl, refl, tt)), inl ([], refl, inr ([], refl, (refl, refl)))), tt);
      outcome = λ packets offered. record {
        rise = (tt, tt);
        known = (refl, tt);
        settled = (
          record {
            run = record {
              shape = record { blocks = refl; one_moment = ((refl, tt), tt); moments = (lit≤ tt, tt) };
              device = (record { plain = (record { fresh = refl; passed = refl }, tt); in_order = (refl, refl) }, tt);
              below = tt;
            };
            emitted = refl;
            queues = (
              record {
                each = (record { offered_are = offered.0.2; accepted_are = inr ([], refl, (refl, refl)); tail_drop = λ _. refl; front_drop = λ e. absurd (cc) }, tt);
                given = refl;
                reached = λ _. lit≤ tt;
              },
              tt,
            );
            own = (refl, tt);
          },
          tt,
        );
      };
      told = record { same = IsPermutation-refl _; order = IsNonDecreasingBy-short (λ (t : Tally). t.sender) (tally 0 (p0_0 ∷ []) (p0_1 ∷ []) [] ∷ []) (lit≤ tt) };
      made = 1;
      goes_on = record {
        within = lit≤ tt;
        drained = record {
          more = gave p0_0 ∷ [];
          tree = refl;
          log = refl;
          pulls_are = refl;
          run = record {
            shape = record { blocks = refl; one_moment = ((refl, tt), tt); moments = (lit≤ tt, tt) };
            device = (record { plain = (record { fresh = refl; passed = refl }, tt); in_order = (refl, refl) }, tt);
            below = tt;
          };
          made_are = refl;
          moments = refl;
          given_are = refl;
        };
        stops = refl;
      };
    }

-- the numbers of what the tallies say to be accepted, added up
abbrev numbers : Tally → ℕ
numbers t = sum_by (λ (p : Packet). p.number) t.accepted

pub returns-clause-not_other_accepted : goal.returns-clause-not_other_accepted
returns-clause-not_other_accepted c = λ id d. let same = sum_by-IsPermutation numbers _ _ d.told.same in absurd (omega (arith, same))
