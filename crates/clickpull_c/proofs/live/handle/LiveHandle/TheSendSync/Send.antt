-- The handle of a live router may go to another thread, as the router may.
use denote.Param.Send.{IsSend}
use Rattle.clickpull_c.specs.contracts.live.router.LiveRouter as Value
use Rattle.clickpull_c.proofs.LiveCrosses.{live_router}
use Rattle.clickpull_c.proofs.HandleSend.{handle_send}
use Rattle.clickpull_c.specs.contracts.live.handle.LiveHandle.{the_row, the_type}

pub send : IsSend the_row
send = handle_send Value.the_row live_router the_type.name the_type.D (λ h. h.at) (λ h. h.alloc) (λ h. h.router) the_type.coded the_type.shr_at
