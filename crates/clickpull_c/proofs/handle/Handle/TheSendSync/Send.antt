-- The handle of a router may go to another thread, as the router may.
use denote.Param.Send.{IsSend}
use Rattle.clk_router.specs.contracts.counting.CountingRouter as Value
use Rattle.clk_router.proofs.Crosses.{router}
use Rattle.clickpull_c.proofs.HandleSend.{handle_send}
use Rattle.clickpull_c.specs.contracts.handle.Handle.{the_row, the_type}

pub send : IsSend the_row
send = handle_send Value.the_row router the_type.name the_type.D (λ h. h.at) (λ h. h.alloc) (λ h. h.router) the_type.coded the_type.shr_at
