-- A router may go to another thread.
use denote.Param.Send.{IsSend, sendable}
use Rattle.std.proofs.Crossing as heap
use Rattle.clk_sched.proofs.tree.Tree.TheLaws.TheKnot as trees
use Rattle.clk_packet.proofs.scheduler.Scheduler.TheSendSync as scheduler
use Rattle.clk_sched.proofs.session.nodes.Nodes.TheSendSync as nodes
use Rattle.clk_sched.proofs.session.emitted.EmittedPackets.TheSendSync as emitted
use Rattle.clk_sched.proofs.session.keeps.Keeps.TheSendSync as keeps
use Rattle.clk_router.proofs.past.Past.TheSendSync as past
use Rattle.clk_router.proofs.queues.Queues.TheSendSync as queues
use Rattle.clk_router.proofs.senders.Sender.TheSendSync as senders
use Rattle.clk_router.proofs.accounts.Account.TheSendSync as accounts
use Rattle.clk_router.specs.contracts.counting.CountingRouter.{the_row}

pub router : IsSend the_row
router = search (
  scheduler.the_send,
  nodes.the_field_send,
  emitted.the_field_send,
  keeps.the_field_send,
  past.the_send,
  queues.the_field_send,
  senders.the_send,
  accounts.the_send,
  heap.crosses,
  trees.crosses,
  sendable,
) depth 60 fits 20000
