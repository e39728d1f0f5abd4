use Rattle.std.proofs.Common.{subst, arith}
use Rattle.clk_sched.specs.Due.{IsDue, tree_could_emit}
use Rattle.clk_sched.specs.Session.{counted_moment, progress_of}
use Rattle.clk_sched.specs.inside.Due.{AreDue}
use Rattle.clk_sched.proofs.Nodes.Asked.{entry}
use Rattle.clk_sched.proofs.Sessions.Due.{tree-due}
use Rattle.clk_sched.proofs.session.Session.due.Goals as goal

pub returns : goal.returns
returns g c =
    let n = c.self.inside.nodes in
    let b = g.B.Backlog.backlogged c.args.queues.now in
    let run = c.self.invariant.0 in
    let found = tree-due c.self.inside.tree n b c.index.result.now c.due_among.result run (entry n.inputs.items 0 c.index.result.now (let size = c.self.invariant.0.size in omega (arith, size)) c.index.ensures)
    (subst (λ is. AreDue n b is c.due_among.result) c.deref.ensures.value c.due_among.ensures.due) in
    record {
      due = subst (λ s. IsDue (tree_could_emit s.tree s.log b) (counted_moment (progress_of s)) c.due_among.result) c.self.view_is
          (subst (λ moment. IsDue (tree_could_emit c.self.inside.tree n.log.items b) moment c.due_among.result) run.moment found);
    }
