-- The handle of an inlet may go to another thread, as the inlet may.
use denote.Param.Send.{IsSend}
use Rattle.clk_inlet.specs.contracts.inlet.Inlet as Value
use Rattle.clk_inlet.proofs.inlet.Inlet.TheSendSync as inlet
use Rattle.clickpull_c.proofs.HandleSend.{handle_send}
use Rattle.clickpull_c.specs.contracts.inlets.handle.InletHandle.{the_row, the_type}

pub send : IsSend the_row
send = handle_send Value.the_row inlet.the_send the_type.name the_type.D (λ h. h.at) (λ h. h.alloc) (λ h. h.inlet) the_type.coded the_type.shr_at
