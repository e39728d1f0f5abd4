use Rattle.std.proofs.Common.{List, sym, subst, rules, arith}
use Rattle.clk_drain.specs.inside.Threads.{EndLists}
use Rattle.clk_drain.specs.inside.Handed.{AreTapsOf, IsUnpulledOver, HavePulled}
use Rattle.clk_drain.proofs.Threads.Ended.{placed-of, unpulled-at, pulled-at}
use Rattle.clk_drain.proofs.running.threads.+pull_each.Goals as goal

pub bounds-queues-len : goal.bounds-queues-len
bounds-queues-len g t c = let lt = (placed-of IsUnpulledOver c.args.ends.items c.pop.new.self.items c.in-Some.its_ends c.args.queues.now c.in-Some.ensures.items c.requires.unpulled).within in omega (arith, c.len.ensures, lt)

pub new-requires-clause-rise : goal.new-requires-clause-rise
new-requires-clause-rise g t c = search (rules, unpulled-at)

pub new-requires-clause-taps : goal.new-requires-clause-taps
new-requires-clause-taps g t c =
    subst (λ qs. AreTapsOf qs c.in-Some.its_ends.taps) (sym c.deref.ensures.value)
    (unpulled-at _ _ _ _ _ c.index-queues-len.result c.in-Some.ensures.items (omega (arith, c.len.ensures)) c.index-queues-len.is c.requires.unpulled).taps

pub pull_all-requires : goal.pull_all-requires
pull_all-requires g t c = search (rules, unpulled-at)

pub returns-then-is_empty-clause-pulled : goal.returns-then-is_empty-clause-pulled
returns-then-is_empty-clause-pulled g t c =
    let lt = (placed-of IsUnpulledOver c.args.ends.items c.pop.new.self.items c.in-Some.its_ends c.args.queues.now c.in-Some.ensures.items c.requires.unpulled).within in
    subst (λ (x : List EndLists × List EndLists). HavePulled c.args.terms.now x.0 x.1 c.args.queues.now) (λ i. (sym c.in-Some.ensures.items i, sym c.in_ok-push.ensures.items i))
    (pulled-at c.args.terms.now c.pop.new.self.items c.in-Some.its_ends c.pop.new.self.items c.in_ok-into_ends.field-0 c.args.queues.now c.len.result c.index-queues-len.result c.deref.result.now c.in_ok-consumer.consumer c.in_ok-pull_all.field-0
    (omega (arith, c.len.ensures)) c.index-queues-len.is (omega (arith, c.len.ensures, lt)) c.deref.ensures.value c.in_ok-consumer.ensures.consumer c.in_ok-pull_all.ensures.pulled c.in_ok-into_ends.ensures.ends
    (search rules))

pub start_pulling-requires-clause-unpulled : goal.start_pulling-requires-clause-unpulled
start_pulling-requires-clause-unpulled g t c κs within = search (rules, unpulled-at)

pub pull_each-pulled-requires-clause-unpulled : goal.pull_each-pulled-requires-clause-unpulled
pull_each-pulled-requires-clause-unpulled g t c κs within = search (rules, placed-of)

pub returns-clause-pulled : goal.returns-clause-pulled
returns-clause-pulled g t c =
    let lt = (placed-of IsUnpulledOver c.args.ends.items c.pop.new.self.items c.in-Some.its_ends c.args.queues.now c.in-Some.ensures.items c.requires.unpulled).within in
    subst (λ (x : List EndLists × List EndLists). HavePulled c.args.terms.now x.0 x.1 c.args.queues.now) (λ i. (sym c.in-Some.ensures.items i, sym c.in_ok-push-2.ensures.items i))
    (pulled-at c.args.terms.now c.pop.new.self.items c.in-Some.its_ends c.in_ok-pulled.pulled.items c.in_ok-into_ends-2.field-0 c.args.queues.now c.len.result c.index-queues-len.result c.deref.result.now c.in_ok-consumer.consumer c.in_ok-consumer-2.field-0
    (omega (arith, c.len.ensures)) c.index-queues-len.is (omega (arith, c.len.ensures, lt)) c.deref.ensures.value c.in_ok-consumer.ensures.consumer
    (search rules) c.in_ok-into_ends-2.ensures.ends
    c.in_ok-pulled.ensures.pulled)
