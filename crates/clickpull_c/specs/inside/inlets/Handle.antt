-- What the handle of an inlet owns: what a box of the inlet does.
use base.Fml.{Fml}
use base.Stored.{Coded}
use denote.RawPtr.{Ptr}
use Rattle.std.specs.Box.Ownership.{box_owns}
use Rattle.std.specs.Global.{Global}
use Rattle.std_heap.specs.contracts.GlobalAllocator.TheImpl.{ghosts}
use Rattle.clk_inlet.specs.contracts.inlet.Inlet.{the_row}

-- the inlet at p, and the right to free its block
abbrev pub inlet_handle_owns : Global → Ptr → the_row.Denot → Fml
inlet_handle_owns alloc = box_owns (ghosts.dealloc_token alloc) the_row

-- how the logic stores an inlet
abbrev pub inlet_coded : Coded the_row.Denot
inlet_coded = the_row.coded
