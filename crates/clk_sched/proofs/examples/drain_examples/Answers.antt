use Rattle.std.proofs.Common.{◌+◌, [], ◌∷◌, Some, None, length, refl, sym, lit≤, ap, ◌∙◌}
use Rattle.clk_sched.specs.Log.{moment_of}
use Rattle.clk_sched.specs.Examples.Priority.{p1_0}
use Rattle.clk_sched.specs.Examples.Draining.{pull_giving}
use Rattle.clk_sched.proofs.Runs.WorkedPulls.{run-of-three, run-of-four}
use Rattle.std.proofs.lemmas.List.{length-map}
use Rattle.std.proofs.lemmas.List.FromFn.{length-range_with_len}
use Rattle.clk_sched.proofs.examples.drain_examples.Goals as goal

pub returns-clause-is_drained : goal.returns-clause-is_drained
returns-clause-is_drained c =
    record {
      more = pull_giving 2 6 None ∷ pull_giving 3 7 (Some p1_0) ∷ [];
      tree = refl;
      log = refl;
      pulls_are = refl;
      run = run-of-four 0 6 7 None (Some p1_0) (lit≤ tt) (lit≤ tt);
      made_are = refl;
      moments = refl;
      given_are = refl;
    }

pub returns-clause-is_stopped : goal.returns-clause-is_stopped
returns-clause-is_stopped c =
    record {
      more = pull_giving 2 6 None ∷ [];
      tree = refl;
      log = refl;
      pulls_are = refl;
      run = run-of-three 0 6 None (lit≤ tt);
      made_are = refl;
      moments = refl;
      given_are = refl;
    }

pub returns-clause-made_follow : goal.returns-clause-made_follow
returns-clause-made_follow c = λ more moment made e. sym (length-map more moment_of) ∙ ap length e ∙ length-range_with_len (moment + 1) made
