-- What draining a device of a run returns.
use Rattle.std.specs.Prelude.{◌≡◌, ℕ, true, List}
use Rattle.clk_packet.specs.declared.packet.Packet.{Packet}
use Rattle.clk_sched.specs.declared.session.keeps.Keeps.{Keeps}
use Rattle.clk_sched.specs.declared.session.packed.PackedLog.{PackedLog}
use Rattle.clk_sched.specs.declared.visit.Visit.{Visit}
use Rattle.clk_sched.specs.Keeps.{keeps_emitted, keeps_visits}
use Rattle.clk_sched.specs.Packed.{logged}
use Rattle.clk_sched.specs.Session.{Progress}
use Rattle.clk_drain.specs.declared.drained.Drained.{Drained}
use Rattle.clk_drain.specs.Line.{LineLists}
use Rattle.clk_drain.specs.Closing.{IsDrainedTo}

-- A session was drained over its lines, from a moment on, and all is settled. `drained` has what the session keeps: its log, the packets
-- that it emitted, or neither.
pub record IsDrainedAs (session : Progress) (keeps : Keeps) (lines : List LineLists) (moment : ℕ) (drained : Drained PackedLog) : Type 0 where
  pub log : List Visit
  pub emitted : List Packet
  pub kept : keeps_visits keeps ≡ true → logged drained.log ≡ log
  pub told : keeps_emitted keeps ≡ true → drained.emitted.items ≡ emitted
  pub is : IsDrainedTo session lines moment log emitted drained.tallies.items
