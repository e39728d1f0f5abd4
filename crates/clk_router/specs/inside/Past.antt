-- What is known of the past of a router from its parts.
use Rattle.std.specs.Prelude.{ℕ, List, [], ◌∷◌, length, drop, map}
use Rattle.clk_sched.specs.declared.visit.Visit.{Visit}
use Rattle.clk_sched.specs.Session.{SessionLists}
use Rattle.clk_sched.specs.Log.{pulls}
use Rattle.clk_sched.specs.Tree.{Tree}
use Rattle.clk_router.specs.declared.devices.RouterDevice.{RouterDevice}
use Rattle.clk_router.specs.declared.parts.Parts.{Parts}
use Rattle.clk_router.specs.Events.{Setup, Event, pulled, events_at, log_of, closing_pulls}

-- the setup of nothing
abbrev pub nothing : Setup
nothing = record { trees = []; queues = []; senders = []; names = [] }

-- the tree of a device
abbrev pub device_tree : RouterDevice → Tree
device_tree device = device.session.tree

-- the trees of the devices of a router
abbrev pub trees_in : Parts → List Tree
trees_in parts = map device_tree parts.devices.items

-- the visits of a device after these events
abbrev pub visits_shown : Setup → List Event → ℕ → SessionLists → List Visit
visits_shown setup events device session = drop (length (log_of (events_at setup device events))) session.log

-- the one pull of a device after these events
abbrev pub pull_shown : Setup → List Event → ℕ → ℕ → SessionLists → List Event
pull_shown setup events device moment session = pulled device moment (visits_shown setup events device session) ∷ []

-- the pulls of a device after these events, each with its visits
abbrev pub made_shown : Setup → List Event → ℕ → SessionLists → List (List Visit)
made_shown setup events device session = drop (length (pulls (log_of (events_at setup device events)))) (pulls session.log)

-- the pulls of a drain of a device after these events
abbrev pub pulls_shown : Setup → List Event → ℕ → ℕ → SessionLists → List Event
pulls_shown setup events device moment session = closing_pulls device moment (events_at setup device events) (made_shown setup events device session)
