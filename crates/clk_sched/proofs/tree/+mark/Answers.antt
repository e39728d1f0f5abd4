use Rattle.std.proofs.Common.{◌≡◌, ◌∷◌, [], sym, ap, ◌∙◌, subst, arith, rules}
use Rattle.clk_sched.specs.Built.{leaves_of}
use Rattle.clk_sched.specs.inside.Kept.{kept}
use Rattle.clk_sched.specs.inside.Marks.{AreMarked}
use Rattle.clk_sched.proofs.Trees.TreeLemmas.{leaves-row}
use Rattle.clk_sched.proofs.Trees.Distinct.{marked-less, marks-queue}
use Rattle.clk_sched.proofs.tree.+mark.Goals as goal

pub Tree::mark-returns-in-Leaf : goal.Tree::mark-returns-in-Leaf
Tree::mark-returns-in-Leaf t c before distinct marks =
    let is : leaves_of c.args.self.now ≡ c.from-place.result ∷ [] = ap leaves_of (sym c.self.view_is ∙ ap kept c.in-Leaf.is) ∙ ap (λ q. q ∷ []) (sym c.from-place.ensures) in
    rw is (marks-queue c.args.marks.now before c.from-place.result (search) (omega arith) distinct marks)

pub distinct::mark-returns-then-mark : goal.distinct::mark-returns-then-mark
distinct::mark-returns-then-mark t c before distinct marks = search (rules, leaves-row)

pub distinct::mark-returns-else-mark : goal.distinct::mark-returns-else-mark
distinct::mark-returns-else-mark t c before distinct marks =
    subst (AreMarked c.mark.result c.mark.new.marks) (leaves-row before c.args.trees.now c.first-item.result (omega arith) c.first-item.is)
    (marked-less c.mark.result c.mark.new.marks _ _ c.if-mark.false (c.mark.ensures before distinct marks))
