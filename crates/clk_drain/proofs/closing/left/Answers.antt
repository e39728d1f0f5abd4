use Rattle.std.proofs.Common.{rules}
use Rattle.clk_sched.specs.Session.{progress_of}
use Rattle.clk_drain.proofs.Drains.Left.{rest-held}
use Rattle.clk_drain.proofs.closing.left.Goals as goal

pub evicted-requires : goal.evicted-requires
evicted-requires c = search (rules, (rest-held (progress_of c.args.session.now) c.args.lines.now c.log.ensures.distinct (search rules) c.log.ensures.run c.requires.lines c.requires.gathered))

pub overflow_sub-result : goal.overflow_sub-result
overflow_sub-result c = search (rules, (rest-held (progress_of c.args.session.now) c.args.lines.now c.log.ensures.distinct (search rules) c.log.ensures.run c.requires.lines c.requires.gathered))

pub overflow_sub-result-2 : goal.overflow_sub-result-2
overflow_sub-result-2 c = search (rules, (rest-held (progress_of c.args.session.now) c.args.lines.now c.log.ensures.distinct (search rules) c.log.ensures.run c.requires.lines c.requires.gathered))

pub returns-clause-held : goal.returns-clause-held
returns-clause-held c = search (rules, (rest-held (progress_of c.args.session.now) c.args.lines.now c.log.ensures.distinct (search rules) c.log.ensures.run c.requires.lines c.requires.gathered))
