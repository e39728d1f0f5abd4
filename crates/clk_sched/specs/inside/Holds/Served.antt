-- What a DRRSched holds of each input: its quantum, its deficit and its head.
use Rattle.std.specs.Prelude.{◌≡◌, ◌≢◌, ℕ, ◌+◌, ◌-◌, ◌<◌, ◌≤◌, ◌==◌, Bool, false, nat_le, List, Option, Some, None, slice_get, slice_set, if◌then◌else◌}
use Rattle.clk_packet.specs.declared.packet.Packet.{Packet}
use Rattle.clk_packet.specs.declared.limits.TheConstants.{MAX_LENGTH, MAX_QUANTUM}
use Rattle.clk_sched.specs.declared.session.drr.Served.{Served}

-- each quantum keeps to its limit
abbrev pub AreQuantaWithin : List Served → Type 0
AreQuantaWithin row = (i : ℕ) (s : Served) → slice_get row i ≡ Some s → s.quantum ≤ MAX_QUANTUM

-- each deficit is less than the greatest length, at the cursor plus the quantum
abbrev pub AreDeficitsWithin : ℕ → List Served → Type 0
AreDeficitsWithin cursor row = (i : ℕ) (s : Served) → slice_get row i ≡ Some s → s.deficit < MAX_LENGTH + (if i == cursor then s.quantum else 0)

-- an input that holds no head has no deficit
abbrev pub IsWithoutDeficit : Served → Type 0
IsWithoutDeficit s = s.head ≡ None → s.deficit ≡ 0

-- each input that holds no head has no deficit, but for the one at the cursor, which was arrived at
abbrev pub AreIdleWithoutDeficits : ℕ → List Served → Type 0
AreIdleWithoutDeficits cursor row = (i : ℕ) (s : Served) → slice_get row i ≡ Some s → i ≢ cursor → IsWithoutDeficit s

-- an input before its first arrival
abbrev pub waiting : ℕ → Served
waiting quantum = record { quantum = quantum; deficit = 0; head = None }

-- an input that is arrived at
abbrev pub with_quantum : Served → Served
with_quantum s = record { quantum = s.quantum; deficit = s.deficit + s.quantum; head = s.head }

-- an input of a row was arrived at
abbrev pub IsArrivedAt : ℕ → List Served → List Served → Type 0
IsArrivedAt i before after = (s : Served) → slice_get before i ≡ Some s → after ≡ slice_set before i (with_quantum s)

-- whether its deficit covers what was got
abbrev pub covers : Served → Option Packet → Bool
covers s None = false
covers s (Some p) = nat_le p.length s.deficit

-- an input after a visit that got this: what isn't covered is held
abbrev pub settled : Served → Option Packet → Served
settled s None = record { quantum = s.quantum; deficit = 0; head = None }
settled s (Some p) =
    if nat_le p.length s.deficit then record { quantum = s.quantum; deficit = s.deficit - p.length; head = None } else record { quantum = s.quantum; deficit = s.deficit; head = Some p }
