-- What a handle has after changes through a borrow of its inlet.
use base.Fml.{Fml}
use denote.Follow.{follows}
use Rattle.std.specs.Borrow.{MutBor}
use Rattle.clk_inlet.specs.contracts.inlet.Inlet as Value
use Rattle.clickpull_c.specs.declared.inlets.handle.InletHandle.{InletHandle}
use Rattle.clickpull_c.specs.contracts.inlets.handle.InletHandle as At

-- the handle with another inlet
abbrev pub with_inlet : InletHandle → Value.the_row.Denot → InletHandle
with_inlet handle inlet = record { at = handle.at; alloc = handle.alloc; inlet = inlet }

-- once the borrow r ends, the handle behind h has the inlet that was last written through r
abbrev pub inlet_handle_follows : MutBor InletHandle → MutBor Value.the_row.Denot → Fml
inlet_handle_follows h r = follows At.the_row Value.the_row h.ghost_name r.ghost_name (with_inlet h.now)
