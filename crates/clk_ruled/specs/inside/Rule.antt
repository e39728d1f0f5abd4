-- What a pass of the shared queue knows.
use Rattle.std.specs.Prelude.{ℕ, true, false, List, []}
use Rattle.clk_packet.specs.declared.packet.Packet.{Packet}
use Rattle.clk_packet.specs.declared.packet.Kind.TheVariants.{TailDrop}
use Rattle.clk_ruled.specs.declared.view.QueueSetup.{QueueSetup}
use Rattle.clk_ruled.specs.declared.view.Gathered.{Gathered}
use Rattle.clk_ruled.specs.declared.view.View.{View}
use Rattle.clk_ruled.specs.Rule.{Books, Fits, IsSound}

-- what a user of the queue knows while these packets are held: there are books in order, and its view fits them
abbrev pub Knows : View → List Packet → Type 0
Knows v held = (b : Books) × (pass : ℕ) × IsSound b held × Fits b pass v

-- the setup of no queue, for views without one
abbrev pub no_setup : QueueSetup
no_setup = record { kind = TailDrop; capacity = 0; rooms = [] }

-- the view of a pass that is used no more
abbrev pub spent_view : View
spent_view = record { sits = false; taps = false; setup = no_setup; sender = 0; accepted = []; evicted = []; taken = []; given = []; gathered = [] }

-- the view of the pass that a closed seat keeps once it is gathered
abbrev pub retired_view : QueueSetup → View
retired_view setup = record { sits = false; taps = false; setup = setup; sender = 0; accepted = []; evicted = []; taken = []; given = []; gathered = [] }

-- the view of the tap before the queue is opened
abbrev pub blank_view : View
blank_view = record { sits = false; taps = true; setup = no_setup; sender = 0; accepted = []; evicted = []; taken = []; given = []; gathered = [] }

-- the view of a seat
abbrev pub seat_view : QueueSetup → ℕ → List Packet → List Packet → View
seat_view setup s accepted evicted = record { sits = true; taps = false; setup = setup; sender = s; accepted = accepted; evicted = evicted; taken = []; given = []; gathered = [] }

-- the view of the tap
abbrev pub tap_view : QueueSetup → List Packet → List ℕ → List Gathered → View
tap_view setup taken given gathered = record { sits = false; taps = true; setup = setup; sender = 0; accepted = []; evicted = []; taken = taken; given = given; gathered = gathered }

-- what a user with this view knows: at some moment it is true of the packets held
abbrev pub KnowsAfter : View → Type 0
KnowsAfter v = (held : List Packet) × Knows v held
