-- A live router may go to another thread, and so may the tokens that are left of one.
use denote.Param.Send.{IsSend, sendable}
use Rattle.std.proofs.Crossing as heap
use Rattle.circular_buffer.proofs.heap.HeapCircularBuffer.TheSendSync as buffers
use Rattle.clk_inlet.proofs.outlet.Outlet.TheSendSync as outlets
use Rattle.clk_router.proofs.Crosses.{router}
use Rattle.clk_live.specs.contracts.live.Live as Live
use Rattle.clk_live.specs.contracts.reclaiming.Reclaimed as Reclaimed

pub live : IsSend Live.the_row
live = search (router, outlets.the_send, buffers.the_send, heap.crosses, sendable) depth 60 fits 20000

pub reclaimed : IsSend Reclaimed.the_row
reclaimed = search (buffers.the_send, heap.crosses, sendable) depth 60 fits 20000
