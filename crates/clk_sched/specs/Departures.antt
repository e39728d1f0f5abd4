-- The packets emitted at the device in some pulls, and their moments.
use Rattle.std.specs.Prelude.{◌≡◌, ℕ, ◌<◌, List, [], ◌∷◌, ◌++◌, length, drop, Option, Some, None, ⊤}
use Rattle.std.specs.List.{flat_map}
use Rattle.std.specs.Vec.{vec_len, vec_capacity}
use Rattle.clk_packet.specs.declared.packet.Packet.{Packet}
use Rattle.clk_sched.specs.declared.visit.Visit.{Visit}
use Rattle.clk_sched.specs.declared.session.departures.Departure.{Departure}
use Rattle.clk_sched.specs.declared.session.departures.Departures.{Departures}
use Rattle.clk_sched.specs.declared.session.departures.Departures.TheVariants.{Kept, Dropped}
use Rattle.clk_sched.specs.Log.{pulls, visits_of, moment_of, result_of}
use Rattle.clk_sched.specs.Session.{Progress}

-- what a pull at this moment emitted, as a list
abbrev pub departure_at : ℕ → Option Packet → List Departure
departure_at moment None = []
departure_at moment (Some p) = record { moment = moment; packet = p } ∷ []

-- what some pulls emitted, in order
abbrev pub departures_in : List (List Visit) → List Departure
departures_in more = flat_map (λ pull. departure_at (moment_of pull) (result_of (visits_of 0 pull))) more

-- the pulls that were made between two states of a session
abbrev pub pulls_since : Progress → Progress → List (List Visit)
pulls_since old new = drop (length (pulls old.log)) (pulls new.log)

-- There is room for one more departure, if departures are kept.
abbrev pub HasRoom : Departures → Type 0
HasRoom (Kept list) = vec_len list < vec_capacity list
HasRoom Dropped = ⊤

-- These departures were added to those that are kept. If departures are dropped, they still are.
abbrev pub IsAddedTo : Departures → List Departure → Departures → Type 0
IsAddedTo (Kept old) more (Kept new) = new.items ≡ old.items ++ more
IsAddedTo (Kept old) more Dropped = ⊥
IsAddedTo Dropped more (Kept new) = ⊥
IsAddedTo Dropped more Dropped = ⊤
