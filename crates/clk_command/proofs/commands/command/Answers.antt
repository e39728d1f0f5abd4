use Rattle.std.proofs.Common.{inl, inr}
use Rattle.clk_command.proofs.TaskLemmas.{takes-none}
use Rattle.clk_command.proofs.commands.command.Goals as goal

pub returns-clause-mistaken : goal.returns-clause-mistaken
returns-clause-mistaken g c = λ e.
    let told = c.tell.ensures.mistake e in
    elim (rw c.deref.ensures.value at c.in-Err.ensures.refused) [
      | inl memory ↦ absurd (told.0 memory)
      | inr among ↦ inl (_, among, told.1, told.2)
    ]

pub returns-in-Some-clause-limit : goal.returns-in-Some-clause-limit
returns-in-Some-clause-limit g c = takes-none _ _
