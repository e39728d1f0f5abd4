-- What the states of nodes hold as heads.
use Rattle.std.specs.Prelude.{List, []}
use Rattle.std.specs.List.{filter_map, flat_map}
use Rattle.clk_packet.specs.declared.packet.Packet.{Packet}
use Rattle.clk_sched.specs.declared.session.drr.Served.{Served}
use Rattle.clk_sched.specs.declared.session.state.State.{State}
use Rattle.clk_sched.specs.declared.session.state.State.TheVariants.{Drr}

-- the heads of inputs, in order
abbrev pub heads_in : List Served → List Packet
heads_in row = filter_map (λ (s : Served). s.head) row

-- the heads that a state holds: only that of a DRRSched has any
abbrev pub heads_of : State → List Packet
heads_of (Drr d) = heads_in d.value.row.items
heads_of s = []

-- the heads that nodes hold, by node
abbrev pub heads_of_all : List State → List Packet
heads_of_all states = flat_map heads_of states
