-- What a place for a router owns: what its router's handle owns, if it has one.
use base.Fml.{Fml, ftrue}
use base.Stored.{Coded}
use denote.RawPtr.{Ptr}
use Rattle.std.specs.Prelude.{Option, Some, None}
use Rattle.std.specs.Coded.{coded_option}
use Rattle.std.specs.Global.{Global}
use Rattle.clk_router.specs.contracts.counting.CountingRouter.{the_row}
use Rattle.clickpull_c.specs.inside.Handle.{handle_owns}

-- nothing, if the place is empty; else what the handle of its router owns
abbrev pub place_owns : Global → Ptr → Option the_row.Denot → Fml
place_owns alloc at None = ftrue
place_owns alloc at (Some router) = handle_owns alloc at router

-- how the logic stores what a place has
abbrev pub place_coded : Coded (Option the_row.Denot)
place_coded = coded_option the_row.coded
