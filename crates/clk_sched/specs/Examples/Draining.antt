-- A worked session before and after a pull and a drain, and changes of it that are neither.
use Rattle.std.specs.Prelude.{◌≡◌, ℕ, ◌+◌, List, [], ◌∷◌, ◌++◌, length, map, Option, Some, None}
use Rattle.std.specs.List.{range_with_len}
use Rattle.clk_packet.specs.declared.packet.Packet.{Packet}
use Rattle.clk_sched.specs.declared.visit.Visit.{Visit}
use Rattle.clk_packet.specs.Scheduler.{prio}
use Rattle.clk_sched.specs.Tree.{Tree, end, leaf, scheduler}
use Rattle.clk_sched.specs.Log.{asking, moment_of}
use Rattle.clk_sched.specs.Session.{Progress}
use Rattle.clk_sched.specs.Examples.Priority.{p0_0, p1_0}

-- A PrioSched over one queue. A drain of it makes at most two pulls for each packet that is left.
abbrev pub over_queue : ℕ → Tree
over_queue q = scheduler prio (leaf q end)

-- pull k of this tree, at moment t, in which the queue gave `o`
abbrev pub pull_giving : (k t : ℕ) → Option Packet → List Visit
pull_giving k t o = asking k t 1 0 o ∷ asking k t 0 0 o ∷ []

-- The session was pulled at moments 3 and 5, and its queue gave a packet in the first of these pulls.
abbrev pub first_two : List Visit
first_two = pull_giving 0 3 (Some p0_0) ++ pull_giving 1 5 None

-- a session with this log
abbrev with_log : List Visit → Progress
with_log log = record { tree = over_queue 0; log = log }

-- a session that was pulled twice and then made these visits
abbrev going_on : List Visit → Progress
going_on visits = with_log (first_two ++ visits)

abbrev pub never_pulled : Progress
never_pulled = with_log []

abbrev pub pulled_twice : Progress
pulled_twice = with_log first_two

-- `pulled_twice`, but its log has the second pull before the first
abbrev pub pulls_turned : Progress
pulls_turned = with_log (pull_giving 1 5 None ++ pull_giving 0 3 (Some p0_0))

-- `pulled_twice`, pulled once more at moment 6: the queue gave a packet
abbrev pub pulled_again : Progress
pulled_again = going_on (pull_giving 2 6 (Some p1_0))

-- `pulled_twice`, pulled once more at moment 5, the latest so far: the queue gave a packet
abbrev pub pulled_at_greatest : Progress
pulled_at_greatest = going_on (pull_giving 2 5 (Some p1_0))

-- `pulled_again` over another queue
abbrev pub other_tree_pulled : Progress
other_tree_pulled = record { tree = over_queue 1; log = pulled_again.log }

-- `pulled_again`, but the PrioSched made no visit
abbrev pub pulled_without_prio : Progress
pulled_without_prio = going_on (asking 2 6 0 0 (Some p1_0) ∷ [])

-- `pulled_twice`, pulled twice more, at moments 6 and 7: the queue gave none, and then a packet
abbrev pub drained : Progress
drained = going_on (pull_giving 2 6 None ++ pull_giving 3 7 (Some p1_0))

-- `drained` over another queue
abbrev pub other_tree_drained : Progress
other_tree_drained = record { tree = over_queue 1; log = drained.log }

-- `drained`, but the PrioSched made no visit in the first of its last two pulls
abbrev pub drained_without_prio : Progress
drained_without_prio = going_on (asking 2 6 0 0 None ∷ pull_giving 3 7 (Some p1_0))

-- `drained`, but its last two pulls are at moments 5 and 6
abbrev pub drained_at_once : Progress
drained_at_once = going_on (pull_giving 2 5 None ++ pull_giving 3 6 (Some p1_0))

-- `drained`, but its last two pulls are at moments 7 and 8
abbrev pub drained_late : Progress
drained_late = going_on (pull_giving 2 7 None ++ pull_giving 3 8 (Some p1_0))

-- `drained`, but its last two pulls are at moments 6 and 8
abbrev pub drain_pauses : Progress
drain_pauses = going_on (pull_giving 2 6 None ++ pull_giving 3 8 (Some p1_0))

-- `pulled_twice`, pulled twice more: the first of these pulls emitted the last packet
abbrev pub drain_goes_on : Progress
drain_goes_on = going_on (pull_giving 2 6 (Some p1_0) ++ pull_giving 3 7 None)

-- `pulled_twice`, pulled three times more: the third of these pulls emitted the last packet, though a drain of one packet makes at most two
abbrev pub drained_past_bound : Progress
drained_past_bound = going_on (pull_giving 2 6 None ++ pull_giving 3 7 None ++ pull_giving 4 8 (Some p1_0))

-- `pulled_twice`, pulled once more: the queue gave none
abbrev pub stopped_at_first : Progress
stopped_at_first = going_on (pull_giving 2 6 None)

-- `pulled_twice`, pulled twice more: the queue gave none
abbrev pub stopped_at_bound : Progress
stopped_at_bound = going_on (pull_giving 2 6 None ++ pull_giving 3 7 None)

-- `pulled_twice`, pulled three times more: the queue gave none
abbrev pub stopped_past_bound : Progress
stopped_past_bound = going_on (pull_giving 2 6 None ++ pull_giving 3 7 None ++ pull_giving 4 8 None)

-- How many pulls a drain made follows from their moments, so that none is wrong in that alone.
abbrev pub CountFollows : Type 0
CountFollows = (more : List (List Visit)) (moment made : ℕ) → map moment_of more ≡ range_with_len (moment + 1) made → length more ≡ made
