-- What a place for a live router owns: what its router's handle owns, if it has one.
use base.Fml.{Fml, ftrue}
use base.Stored.{Coded}
use denote.RawPtr.{Ptr}
use Rattle.std.specs.Prelude.{Option, Some, None}
use Rattle.std.specs.Coded.{coded_option}
use Rattle.std.specs.Global.{Global}
use Rattle.clickpull_c.specs.contracts.live.router.LiveRouter.{the_row}
use Rattle.clickpull_c.specs.inside.live.Handle.{live_handle_owns}

-- nothing, if the place is empty; else what the handle of its live router owns
abbrev pub live_place_owns : Global → Ptr → Option the_row.Denot → Fml
live_place_owns alloc at None = ftrue
live_place_owns alloc at (Some router) = live_handle_owns alloc at router

-- how the logic stores what a place has
abbrev pub live_place_coded : Coded (Option the_row.Denot)
live_place_coded = coded_option the_row.coded
