-- Packets and visits of worked examples, and the examples by class, and of sessions.
use Rattle.std.specs.Prelude.{ℕ, Bool, Option, List, map, filter, nat_lt}
use Rattle.clk_packet.specs.declared.packet.Packet.{Packet}
use Rattle.clk_sched.specs.declared.visit.Visit.{Visit}
pub mod Device
pub mod Priority
pub mod RoundRobin
pub mod Deficit
pub mod Stride
pub mod Shaper
pub mod Nested
pub mod Draining
pub mod Largest
pub mod Due

-- a visit of pull k at moment t, by node x to input i
abbrev pub look : (k t x i : ℕ) → Bool → Option Packet → Bool → Visit
look k t x i asked o result = record { pull = k; moment = t; got = o; node = x; input = i; fresh = asked; passed = result }

-- packets by their senders and numbers
abbrev pub names : List Packet → List (ℕ × ℕ)
names packets = map (λ (p : Packet). (p.sender, p.number)) packets

-- the log of the first n pulls
abbrev pub first_pulls : ℕ → List Visit → List Visit
first_pulls n log = filter (λ (v : Visit). nat_lt v.pull n) log
