use Rattle.std.proofs.Common.{◌≡◌, ◌++◌, map}
use Rattle.std.specs.Vec.Iter.{into_iter_items}
use Rattle.clk_sched.specs.Packed.{logged}
use Rattle.clk_drain.proofs.outcome.Outcome+PackedLog.unpack.Given as goal

-- the logs that are unpacked, and those that are left, are all
abbrev pub invariant-loop-log : goal.invariant-loop-log
invariant-loop-log l = map (λ log. log.items) l.unpacked.items ++ map logged (into_iter_items l.log-iterator) ≡ map logged l.fn.self.logs.items
