-- What a place for an inlet owns: what its inlet's handle owns, if it has one.
use base.Fml.{Fml, ftrue}
use base.Stored.{Coded}
use denote.RawPtr.{Ptr}
use Rattle.std.specs.Prelude.{Option, Some, None}
use Rattle.std.specs.Coded.{coded_option}
use Rattle.std.specs.Global.{Global}
use Rattle.clk_inlet.specs.contracts.inlet.Inlet.{the_row}
use Rattle.clickpull_c.specs.inside.inlets.Handle.{inlet_handle_owns}

-- nothing, if the place is empty; else what the handle of its inlet owns
abbrev pub inlet_place_owns : Global → Ptr → Option the_row.Denot → Fml
inlet_place_owns alloc at None = ftrue
inlet_place_owns alloc at (Some inlet) = inlet_handle_owns alloc at inlet

-- how the logic stores what a place has
abbrev pub inlet_place_coded : Coded (Option the_row.Denot)
inlet_place_coded = coded_option the_row.coded
