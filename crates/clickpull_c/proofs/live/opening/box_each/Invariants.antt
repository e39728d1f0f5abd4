use Rattle.std.proofs.Common.{◌≡◌, ◌++◌, Some, map}
use Rattle.std.specs.Option.{option_map}
use Rattle.std.specs.Vec.Iter.{into_iter_items}
use Rattle.clickpull_c.proofs.live.opening.box_each.Given as goal

abbrev pub invariant-loop-inlet : goal.invariant-loop-inlet
invariant-loop-inlet l = map (option_map (λ b. b.value)) l.boxed.items ++ map Some (into_iter_items l.inlet-iterator) ≡ map Some l.fn.inlets.items
