use Rattle.clk_ruled.specs.Queue.{setup_of}
use Rattle.clk_ruled.proofs.queue.RuledQueue.open_keeping.Given as goal

abbrev pub ghosts-set_up : goal.ghosts-set_up
ghosts-set_up a = record { setup = setup_of a.kind a.capacity a.senders.now }
