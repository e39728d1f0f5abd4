use Rattle.std.proofs.Common.{inl, inr}
use Rattle.std.proofs.lemmas.Result.{IfErr-weaker, IfOk-weaker}
use Rattle.clk_command.proofs.TaskLemmas.{fault-read, plan-read}
use Rattle.clk_command.proofs.over.read_plan.Goals as goal

pub returns-clause-plan : goal.returns-clause-plan
returns-clause-plan g c =
    IfOk-weaker c.read.result _ _ (λ plan denotes. plan-read _ c.in_ok-text.text.items _ c.in_ok-text.ensures.bytes (rw c.deref.ensures.value at denotes)) c.read.ensures.denotes

pub returns-clause-fault : goal.returns-clause-fault
returns-clause-fault g c = IfErr-weaker c.read.result _ _ (λ fault why. elim why [
  | inl memory ↦ inl (inl memory)
  | inr has ↦ inr (fault-read _ c.in_ok-text.text.items fault c.in_ok-text.ensures.bytes (rw c.deref.ensures.value at has))
]) c.read.ensures.fault
