use Rattle.std.proofs.Common.{[], ◌∷◌, Some, None, refl, lit≤}
use Rattle.clk_sched.specs.Examples.Priority.{p1_0}
use Rattle.clk_sched.specs.Examples.Draining.{pull_giving}
use Rattle.clk_sched.proofs.Runs.WorkedPulls.{run-of-two, run-of-three, run-of-four}
use Rattle.clk_sched.proofs.examples.full_drain_examples.Goals as goal

pub returns-clause-is_drained : goal.returns-clause-is_drained
returns-clause-is_drained c =
    record {
      within = lit≤ tt;
      drained = record {
        more = pull_giving 2 6 None ∷ pull_giving 3 7 (Some p1_0) ∷ [];
        tree = refl;
        log = refl;
        pulls_are = refl;
        run = run-of-four 0 6 7 None (Some p1_0) (lit≤ tt) (lit≤ tt);
        made_are = refl;
        moments = refl;
        given_are = refl;
      };
      stops = refl;
    }

pub returns-clause-is_pulled_again : goal.returns-clause-is_pulled_again
returns-clause-is_pulled_again c =
    record {
      within = lit≤ tt;
      drained = record {
        more = pull_giving 2 6 (Some p1_0) ∷ [];
        tree = refl;
        log = refl;
        pulls_are = refl;
        run = run-of-three 0 6 (Some p1_0) (lit≤ tt);
        made_are = refl;
        moments = refl;
        given_are = refl;
      };
      stops = refl;
    }

pub returns-clause-is_none_left : goal.returns-clause-is_none_left
returns-clause-is_none_left c =
    record {
      within = lit≤ tt;
      drained = record { more = []; tree = refl; log = refl; pulls_are = refl; run = run-of-two 0; made_are = refl; moments = refl; given_are = refl };
      stops = tt;
    }
