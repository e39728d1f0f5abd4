use Rattle.std.proofs.Common.{◌≡◌, ◌∷◌, [], Some, sym, ◌∙◌, subst, arith, rules}
use Rattle.std.proofs.lemmas.Grind.{common_steps}
use Rattle.clk_sched.specs.inside.Due.{sooner_of, AreDue}
use Rattle.clk_sched.proofs.Nodes.Asked.{entry}
use Rattle.clk_sched.proofs.Trees.TreeLemmas.{rest}
use Rattle.clk_sched.proofs.Sessions.Due.{none-due, first-of, queue-due, scheduler-due, first-due, first-at_once}
use Rattle.clk_sched.proofs.session.nodes.Nodes.+due.Goals as goal

pub due_at-returns-clause-due : goal.due_at-returns-clause-due
due_at-returns-clause-due g t c = search (rules, entry)

pub due_among-returns-in_default-clause-due : goal.due_among-returns-in_default-clause-due
due_among-returns-in_default-clause-due g t c = none-due c.args.self.now (g.B.Backlog.backlogged c.args.queues.now) c.args.inputs.now c.in_default.len_below

pub due_among-returns-then-eq-clause-due : goal.due_among-returns-then-eq-clause-due
due_among-returns-then-eq-clause-due g t c =
    let n = c.args.self.now in
    let b = g.B.Backlog.backlogged c.args.queues.now in
    let once : c.due_from-here.result ≡ Some n.moment = grind (arith, common_steps, c.eq.ensures, c.if-eq.true) in
    subst (λ inputs. AreDue n b inputs c.due_from-here.result) (first-of c.args.inputs.now c.in-len1-up.len_at_least)
    (first-at_once n b _ (rest c.args.inputs.now) c.due_from-here.result once c.due_from-here.ensures.due)

pub due_among-returns-clause-due : goal.due_among-returns-clause-due
due_among-returns-clause-due g t c =
    let n = c.args.self.now in
    let b = g.B.Backlog.backlogged c.args.queues.now in
    subst (λ due. AreDue n b c.args.inputs.now due) (sym c.sooner.ensures)
    (subst (λ inputs. AreDue n b inputs (sooner_of c.due_from-here.result c.due_among.result)) (first-of c.args.inputs.now c.in-len1-up.len_at_least)
    (first-due n b _ (rest c.args.inputs.now) c.due_from-here.result c.due_among.result c.due_from-here.ensures.due c.due_among.ensures.due))

pub due_from-returns-in-Queue-clause-due : goal.due_from-returns-in-Queue-clause-due
due_from-returns-in-Queue-clause-due g t c =
    let n = c.args.self.now in
    let b = g.B.Backlog.backlogged c.args.queues.now in
    subst (λ i. AreDue n b (i ∷ []) c.due_if.result) (sym c.in-Queue.is)
    (queue-due n b c.in-Queue.leaf c.due_if.result (λ moment l. c.due_if.ensures.due moment l ∙ c.is_backlogged.ensures) c.due_if.ensures.now)

pub due_from-returns-in-Node-clause-due : goal.due_from-returns-in-Node-clause-due
due_from-returns-in-Node-clause-due g t c =
    let n = c.args.self.now in
    let b = g.B.Backlog.backlogged c.args.queues.now in
    subst (λ i. AreDue n b (i ∷ []) c.due_at.result) (sym c.in-Node.is) (scheduler-due n b c.in-Node.below c.due_at.result c.due_at.ensures.due)
