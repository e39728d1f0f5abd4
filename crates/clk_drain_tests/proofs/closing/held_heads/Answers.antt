use Rattle.std.proofs.Common.{rules, [], ◌∷◌, sym, ap, ◌∙◌, subst}
use Rattle.clk_packet.specs.Lists.{are_distinct, AreRising}
use Rattle.clk_packet.specs.Scheduler.{drr}
use Rattle.clk_drain.specs.Line.{leaves_of}
use Rattle.clk_drain_tests.proofs.Built.{leaves-built}
use Rattle.clk_drain_tests.proofs.closing.held_heads.Goals as goal

pub close-requires : goal.close-requires
close-requires g c =
    let tree = leaves-built (drr c.in_ok-vec.field-0.items) c.in_ok-queues.field-0.items (0 ∷ 1 ∷ 2 ∷ []) c.in_ok-tree.tree c.in_ok-tree.ensures c.in_ok-queues.ensures in
    let rise : AreRising (0 ∷ 1 ∷ 2 ∷ []) = search rules in record {
      leaves = ap leaves_of c.in_ok-lines.ensures.items ∙ (λ i. c.in_ok-line.ensures.leaf i ∷ c.in_ok-line-2.ensures.leaf i ∷ c.in_ok-line-3.ensures.leaf i ∷ []) ∙ sym tree;
      rise = subst AreRising (sym tree) rise;
      distinct = ap are_distinct tree;
      fresh = search rules;
    }
