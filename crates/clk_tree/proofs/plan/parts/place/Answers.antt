use Rattle.std.proofs.Common.{nat_le, ap, ◌∙◌}
use Rattle.std.specs.List.{insert, prefix_len}
use Rattle.clk_tree.specs.declared.plan.parts.SenderSpec.{SenderSpec}
use Rattle.clk_tree.proofs.Building.PartSteps.{insert-placed}
use Rattle.clk_tree.proofs.plan.parts.place.Goals as goal

pub returns-clause-placed : goal.returns-clause-placed
returns-clause-placed c =
    c.in_ok-insert.ensures.items
    ∙ ap (λ n. insert c.args.senders.now.items n c.args.sender)
    (c.rank-at.ensures.rank ∙ ap (prefix_len (λ (t : SenderSpec). nat_le t.number c.args.sender.number)) c.deref.ensures.value)
    ∙ insert-placed c.args.sender c.args.senders.now.items
