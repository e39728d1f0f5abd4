-- What sessions keep of the past. Some keep their visits in memory, and of others contracts alone know the visits.
use Rattle.std.specs.Prelude.{◌||◌, Bool, true, false}
use Rattle.clk_sched.specs.declared.session.keeps.Keeps.{Keeps}

abbrev pub keeps_all : Keeps
keeps_all = record { visits = true; packed = false; packets = true; latest = false }

abbrev pub keeps_nothing : Keeps
keeps_nothing = record { visits = false; packed = false; packets = false; latest = false }

abbrev pub keeps_latest : Keeps
keeps_latest = record { visits = false; packed = false; packets = false; latest = true }

-- whether what is kept grows from pull to pull
abbrev pub grows : Keeps → Bool
grows keeps = keeps.visits || (keeps.packed || keeps.packets)

-- whether visits are kept, as a list or packed
abbrev pub keeps_visits : Keeps → Bool
keeps_visits keeps = keeps.visits || keeps.packed

-- whether emitted packets are kept, or can be read off the visits that are kept
abbrev pub keeps_emitted : Keeps → Bool
keeps_emitted keeps = keeps.packets || keeps_visits keeps
