-- A live router with its inlets may go to another thread.
use denote.Param.Send.{IsSend, sendable}
use Rattle.std.proofs.Crossing as heap
use Rattle.clk_inlet.proofs.inlet.Inlet.TheSendSync as inlets
use Rattle.clk_live.proofs.Crosses.{live, reclaimed}
use Rattle.clickpull_c.specs.contracts.live.router.LiveRouter.{the_row}

pub live_router : IsSend the_row
live_router = search (live, reclaimed, inlets.the_send, heap.crosses, sendable) depth 60 fits 20000
