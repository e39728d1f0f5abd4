-- Why a tree is refused a session.
use Rattle.std.specs.Prelude.{◌<◌, ◌≤◌, suc}
use Rattle.clk_packet.specs.declared.fault.Fault.{Fault}
use Rattle.clk_packet.specs.declared.fault.Fault.TheVariants.{Memory, TooLarge}
use Rattle.clk_packet.specs.declared.limits.TheConstants.{MAX_ELEMENTS}
use Rattle.clk_sched.specs.Tree.{Tree, root}
use Rattle.clk_sched.specs.Session.{elements}

-- Why a tree is refused a session: it has more than `MAX_ELEMENTS` queues and schedulers, the device counted, or an allocation failed. A
-- tree that is too large always gets fault 18, and no other tree does.
abbrev pub IsRefused : Tree → Fault → Type 0
IsRefused tree Memory = suc (elements (root tree)) ≤ MAX_ELEMENTS
IsRefused tree TooLarge = MAX_ELEMENTS < suc (elements (root tree))
IsRefused tree fault = ⊥
