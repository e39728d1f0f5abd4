use Rattle.std.proofs.Common.{refl}
use Rattle.std.proofs.lemmas.Result.{IfErr-weaker, on_ok_weaker}
use Rattle.clk_command.proofs.TaskLemmas.{does-standard, explains-standard, takes-standard}
use Rattle.clk_command.proofs.commands.perform.Goals as goal

pub returns-then-is_standard-3-clause-done : goal.returns-then-is_standard-3-clause-done
returns-then-is_standard-3-clause-done g c =
    on_ok_weaker c.do_job.result (does-standard _ _ _ _ _ _ c.in-Over.is (c.if-is_standard-3.ensures.dash refl) c.requires.apart) c.do_job.ensures.done

pub returns-then-is_standard-3-clause-fault : goal.returns-then-is_standard-3-clause-fault
returns-then-is_standard-3-clause-fault g c =
    IfErr-weaker c.do_job.result _ _ (λ fault. explains-standard _ _ _ _ _ fault c.in-Over.is (c.if-is_standard-3.ensures.dash refl) c.requires.apart) c.do_job.ensures.fault

pub returns-then-is_standard-3-clause-limit : goal.returns-then-is_standard-3-clause-limit
returns-then-is_standard-3-clause-limit g c = takes-standard _ _ _ _ _ _ c.in-Over.is (c.if-is_standard-3.ensures.dash refl) c.do_job.ensures.tree_limit
