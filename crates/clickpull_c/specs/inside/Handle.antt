-- What the handle of a router owns: what a box of the router does.
use base.Fml.{Fml}
use base.Stored.{Coded}
use denote.RawPtr.{Ptr}
use Rattle.std.specs.Box.Ownership.{box_owns}
use Rattle.std.specs.Global.{Global}
use Rattle.std_heap.specs.contracts.GlobalAllocator.TheImpl.{ghosts}
use Rattle.clk_router.specs.contracts.counting.CountingRouter.{the_row}

-- the router at p, and the right to free its block
abbrev pub handle_owns : Global → Ptr → the_row.Denot → Fml
handle_owns alloc = box_owns (ghosts.dealloc_token alloc) the_row

-- how the logic stores a router
abbrev pub router_coded : Coded the_row.Denot
router_coded = the_row.coded
