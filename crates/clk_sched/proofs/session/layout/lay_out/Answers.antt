use Rattle.std.proofs.Common.{length, refl, sym, ap, ◌∙◌, subst, arith}
use Rattle.std.proofs.lemmas.List.{length-map}
use Rattle.clk_sched.specs.Tree.{root, IsWellFormed}
use Rattle.clk_sched.specs.inside.LaidOut.{entry}
use Rattle.clk_sched.proofs.Trees.LaidOut.{lays-out}
use Rattle.clk_sched.proofs.Trees.Added.{adds-device}
use Rattle.clk_sched.proofs.session.layout.lay_out.Goals as goal

pub index-requires : goal.index-requires
index-requires c =
    let added = adds-device c.args.tree.now c.from_ref.result.now _ c.lay_node.new.tables c.from_ref.ensures.value c.new.ensures.items c.new-2.ensures.items c.in_ok-lay_node.ensures.adds in
    let some = sym (length-map c.lay_node.new.tables.inputs.items entry) ∙ ap length added.0 in
    omega (arith, some)

pub returns-clause-laid_out : goal.returns-clause-laid_out
returns-clause-laid_out c =
    let added = adds-device c.args.tree.now c.from_ref.result.now _ c.lay_node.new.tables c.from_ref.ensures.value c.new.ensures.items c.new-2.ensures.items c.in_ok-lay_node.ensures.adds in
    lays-out c.args.tree.now _ (subst (λ t. IsWellFormed (root t)) c.tree.view_is c.tree.invariant.1) added.0 added.1 (ap (λ l. l.items) c.in_ok-new.ensures.made) refl refl
