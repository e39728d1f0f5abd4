use Rattle.std.proofs.Common.{◌≡◌, ◌≤◌, refl, subst, arith}
use Rattle.clk_router.specs.Course.{Course}
use Rattle.clickpull_c.specs.Answers.{HasNoQueue}
use Rattle.clickpull_c.specs.Tells.{TellsQueue}
use Rattle.clickpull_c.proofs.LiveSteps.{told, untold}
use Rattle.clickpull_c.proofs.live.telling.tell_queue.Goals as goal

pub returns-then-from-queues : goal.returns-then-from-queues
returns-then-from-queues c =
    let high : c.queues.result ≤ c.from.result = grind arith in
    untold c.args.router.now c.in-Some.live 8 (λ s. TellsQueue s.course c.args.number c.args.queue.now 8) (λ s. HasNoQueue s.course c.args.number 8) (c.args.queue.now ≡ c.args.queue.now) c.in-Some.is
    (subst (λ (k : Course). HasNoQueue k c.args.number 8) c.router-router.ensures.course (record { answers = refl; missing = omega (arith, high, c.from.ensures, (rw c.deref.ensures at c.queues.ensures.count)) })) refl

pub returns : goal.returns
returns c =
    told c.args.router.now c.in-Some.live 0 (λ s. TellsQueue s.course c.args.number c.queue_for_c.result 0) (λ s. HasNoQueue s.course c.args.number 0) (c.queue_for_c.result ≡ c.args.queue.now) c.in-Some.is
    (subst (λ (k : Course). TellsQueue k c.args.number c.queue_for_c.result 0) c.router-router.ensures.course (record { answers = refl; queue = c.queue.result; is = (rw c.deref-2.ensures at c.queue.ensures.state); filled_is = c.queue_for_c.ensures }))
