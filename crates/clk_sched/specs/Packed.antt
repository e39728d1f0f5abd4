-- A log of visits in less memory than a list of them takes.
use Rattle.std.specs.Prelude.{ℕ, ◌+◌, ◌≤◌, List, ◌++◌, map}
use Rattle.std.specs.Vec.{vec_len, vec_capacity}
use Rattle.clk_sched.specs.declared.visit.Visit.{Visit}
use Rattle.clk_sched.specs.declared.session.packed.PackedVisit.{PackedVisit}
use Rattle.clk_sched.specs.declared.session.packed.PackedLog.{PackedLog}

-- the visit that is packed
abbrev pub unpacked : PackedVisit → Visit
unpacked p = record { pull = p.pull; moment = p.moment; got = p.got; node = p.node; input = p.input; fresh = p.fresh; passed = p.passed }

-- the visits of a log: those that are packed, and then the others
abbrev pub logged : PackedLog → List Visit
logged log = map unpacked log.packed.items ++ log.rest.items

-- There is room for so many more visits, whether they can be packed or not.
abbrev pub HasRoomFor : ℕ → PackedLog → Type 0
HasRoomFor n log = (vec_len log.packed + n ≤ vec_capacity log.packed) × (vec_len log.rest + n ≤ vec_capacity log.rest)
