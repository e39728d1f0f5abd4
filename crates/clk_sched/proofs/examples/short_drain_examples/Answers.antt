use Rattle.std.proofs.Common.{[], ◌∷◌, Some, None, refl, lit≤}
use Rattle.clk_sched.specs.Drain.{StopsShort}
use Rattle.clk_sched.specs.Examples.Priority.{p1_0}
use Rattle.clk_sched.specs.Examples.Draining.{pull_giving, pulled_twice, drained, stopped_at_first, stopped_at_bound}
use Rattle.clk_sched.proofs.Runs.WorkedPulls.{run-of-three, run-of-four}
use Rattle.clk_sched.proofs.examples.short_drain_examples.Goals as goal

at-first : StopsShort pulled_twice stopped_at_first 5 1 1
at-first =
    record {
      within = lit≤ tt;
      given = 0;
      fewer = lit≤ tt;
      drained = record {
        more = pull_giving 2 6 None ∷ [];
        tree = refl;
        log = refl;
        pulls_are = refl;
        run = run-of-three 0 6 None (lit≤ tt);
        made_are = refl;
        moments = refl;
        given_are = refl;
      };
    }

at-bound : StopsShort pulled_twice stopped_at_bound 5 2 1
at-bound =
    record {
      within = lit≤ tt;
      given = 0;
      fewer = lit≤ tt;
      drained = record {
        more = pull_giving 2 6 None ∷ pull_giving 3 7 None ∷ [];
        tree = refl;
        log = refl;
        pulls_are = refl;
        run = run-of-four 0 6 7 None None (lit≤ tt) (lit≤ tt);
        made_are = refl;
        moments = refl;
        given_are = refl;
      };
    }

one-left : StopsShort pulled_twice drained 5 2 2
one-left =
    record {
      within = lit≤ tt;
      given = 1;
      fewer = lit≤ tt;
      drained = record {
        more = pull_giving 2 6 None ∷ pull_giving 3 7 (Some p1_0) ∷ [];
        tree = refl;
        log = refl;
        pulls_are = refl;
        run = run-of-four 0 6 7 None (Some p1_0) (lit≤ tt) (lit≤ tt);
        made_are = refl;
        moments = refl;
        given_are = refl;
      };
    }

pub returns-clause-is_memory : goal.returns-clause-is_memory
returns-clause-is_memory c = (1, at-first)

pub returns-clause-is_memory_at_bound : goal.returns-clause-is_memory_at_bound
returns-clause-is_memory_at_bound c = (2, at-bound)

pub returns-clause-is_bound : goal.returns-clause-is_bound
returns-clause-is_bound c = (refl, at-bound)

pub returns-clause-is_memory_with_one_left : goal.returns-clause-is_memory_with_one_left
returns-clause-is_memory_with_one_left c = (2, one-left)
