use Rattle.std.proofs.Common.{rules}
use Rattle.crossbeam_queue.specs.Passes.{view}
use Rattle.clk_ruled.specs.Queue.{setup_of}
use Rattle.clk_ruled.proofs.Begins.{begins}
use Rattle.clk_ruled.proofs.Opening.{seated-first}
use Rattle.clk_ruled.proofs.queue.RuledQueue.open_keeping.Goals as goal

pub ruled-requires-clause-rule : goal.ruled-requires-clause-rule
ruled-requires-clause-rule c = begins

pub seats_for-requires-clause-open : goal.seats_for-requires-clause-open
seats_for-requires-clause-open c = search (rules, (seated-first (setup_of c.args.kind c.args.capacity c.args.senders.now) c.set_up.new.pass.table_id (view c.set_up.new.pass) c.set_up.ensures.open c.requires.capacity.0 c.requires.rising))
