-- From which moment on a device could emit a packet, as things stand.
use Rattle.std.specs.Prelude.{◌≡◌, ℕ, max, nat_lt, Bool, false, List, length, Option, None, MatchOption, slice_get}
use Rattle.clk_packet.specs.declared.packet.Packet.{Packet}
use Rattle.clk_ring.specs.QueueHistory.{held}
use Rattle.clk_sched.specs.Due.{IsDue, has_come, tree_could_emit}
use Rattle.clk_router.specs.Course.{Course, events_of, moment_at, IsPulled}
use Rattle.clk_router.specs.Events.{Setup, Event, log_of, history, CanHappen}

-- whether a queue holds a packet
abbrev pub is_backlogged : Setup → List Event → ℕ → Bool
is_backlogged setup events q = nat_lt 0 (length (held (history setup q events)))

-- A pull of the device could emit a packet at the due moment or later, and not before. There is none if no packet is left.
abbrev pub IsDeviceDue : Course → ℕ → Option ℕ → Type 0
IsDeviceDue c device due =
    MatchOption (slice_get c.setup.trees device) ⊥ (λ tree. IsDue (tree_could_emit tree (log_of (events_of c device)) (is_backlogged c.setup c.events)) (moment_at c device) due)

-- If the next event is a pull of the device before the due moment, it emits no packet.
abbrev pub EmitsNoneBefore : Course → ℕ → Option ℕ → Type 0
EmitsNoneBefore c device due =
    (new : Course) (moment : ℕ) (got : Option Packet) → IsPulled c new device moment got → CanHappen new.setup new.events → has_come due (max (moment_at c device) moment) ≡ false → got ≡ None
