use Rattle.std.proofs.Common.{◌∙◌, sym}
use Rattle.clk_packet.proofs.Callers.Written.{wrote-so}
use Rattle.clk_command.proofs.TaskLemmas.{read-kept}
use Rattle.clk_command.proofs.over.check_tree.Goals as goal

pub returns-clause-wrote : goal.returns-clause-wrote
returns-clause-wrote g c =
    wrote-so _ _ _ _ _ _ _ (c.in_ok-read_plan.field-0, c.in_ok-read_plan.ensures.plan, c.deref.ensures.value ∙ c.in_ok-text.ensures.text) c.write_all.ensures

pub returns-clause-read_failures : goal.returns-clause-read_failures
returns-clause-read_failures g c = c.in_ok-read_plan.ensures.failures ∙ sym (read-kept c.write_all.result _ c.write_all.ensures.fault)

pub returns-clause-limit : goal.returns-clause-limit
returns-clause-limit g c = c.in_ok-read_plan.ensures.limit
