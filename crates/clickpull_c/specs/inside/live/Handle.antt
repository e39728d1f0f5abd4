-- What the handle of a live router owns: what a box of the router does.
use base.Fml.{Fml}
use base.Stored.{Coded}
use denote.RawPtr.{Ptr}
use Rattle.std.specs.Box.Ownership.{box_owns}
use Rattle.std.specs.Global.{Global}
use Rattle.std_heap.specs.contracts.GlobalAllocator.TheImpl.{ghosts}
use Rattle.clickpull_c.specs.contracts.live.router.LiveRouter.{the_row}

-- the live router at p, and the right to free its block
abbrev pub live_handle_owns : Global → Ptr → the_row.Denot → Fml
live_handle_owns alloc = box_owns (ghosts.dealloc_token alloc) the_row

-- how the logic stores a live router
abbrev pub live_coded : Coded the_row.Denot
live_coded = the_row.coded
