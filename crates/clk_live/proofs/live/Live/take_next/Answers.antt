use Rattle.std.proofs.Common.{length, subst}
use Rattle.std.specs.List.{AllByRecursion}
use Rattle.clk_router.specs.Events.{CanHappen}
use Rattle.clk_router.specs.InsideQueues.{QueuesGoOn}
use Rattle.clk_tree.specs.PlanParts.{SendsWithin}
use Rattle.clk_live.specs.State.{LiveState, seen}
use Rattle.clk_live.proofs.Fitting.{if-accepts, if-stay-full}
use Rattle.clk_live.proofs.Outlets.{gave-none}
use Rattle.clk_live.proofs.live.Live.take_next.Goals as goal

pub returns-clause-gave_all : goal.returns-clause-gave_all
returns-clause-gave_all c = λ none. gave-none c.args.self.now.outlets c.take-taken.new.self.outlets c.args.place c.take-taken.ensures.outlets (c.take-taken.ensures.none_waits none)

pub returns-clause-accepted : goal.returns-clause-accepted
returns-clause-accepted c =
    let wired = subst (λ (l : LiveState). AllByRecursion (SendsWithin (length l.course.setup.queues)) l.course.setup.senders) c.self.view_is c.self.invariant.wired in
    let law = subst (λ (l : LiveState). QueuesGoOn l.course.setup) c.self.view_is (rw c.deref.ensures at c.queues_go_on.ensures) in
    let can = subst (λ (l : LiveState). CanHappen l.course.setup l.course.events) c.self.view_is (rw c.deref-2.ensures at c.has_happened.ensures) in
    let can_new = subst (λ (l : LiveState). CanHappen l.course.setup l.course.events) c.self-2.view_is (rw c.deref-3.ensures at c.has_happened-2.ensures) in
    λ not_full. if-accepts c.args.place (seen c.args.self.now) (seen c.take-taken.new.self) c.take-taken.result wired law can can_new not_full c.take-taken.ensures.taken

pub returns-clause-full : goal.returns-clause-full
returns-clause-full c =
    let can_new = subst (λ (l : LiveState). CanHappen l.course.setup l.course.events) c.self-2.view_is (rw c.deref-3.ensures at c.has_happened-2.ensures) in
    if-stay-full c.args.place (seen c.args.self.now) (seen c.take-taken.new.self) c.take-taken.result can_new c.take-taken.ensures.none c.take-taken.ensures.taken
