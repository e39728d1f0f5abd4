use Rattle.std.proofs.Common.{rules, refl, sym}
use Rattle.clk_sched.proofs.Classes.Deficits.{sum-fits, limits-first, limits-moved, none-left, deficits-first, adds-within}
use Rattle.clk_sched.proofs.session.drr.Deficits.new.Goals as goal

pub add_quantum-requires-clause-fits : goal.add_quantum-requires-clause-fits
add_quantum-requires-clause-fits c s e =
    let row = c.in_ok-row.row.items in
    let limits = limits-first c.args.quanta.now row c.in_ok-row.ensures c.requires.inputs.0 c.requires.inputs.1 c.requires.quanta in
    sum-fits 0 row 0 s limits (rw (sym c.as_mut_slice.ensures.value) e)

pub invariant_of-result : goal.invariant_of-result
invariant_of-result c =
    let row = c.in_ok-row.row.items in
    let limits = limits-first c.args.quanta.now row c.in_ok-row.ensures c.requires.inputs.0 c.requires.inputs.1 c.requires.quanta in
    let adds = adds-within c.in_ok-row.row c.as_mut_slice.result.now c.add_quantum.new.row 0 0 c.as_mut_slice.ensures.value (search rules) refl c.add_quantum.ensures.adds in
    let after = limits-moved 0 row _ 0 limits (λ s e. none-left c.args.quanta.now row 0 s c.in_ok-row.ensures e) limits.cursor_within adds in
    record { few = after.few; cursor_within = after.cursor_within; quanta_within = after.quanta_within; deficits_within = after.deficits_within; idle_without = after.idle_without }

pub returns : goal.returns
returns c =
    let row = c.in_ok-row.row.items in
    let limits = limits-first c.args.quanta.now row c.in_ok-row.ensures c.requires.inputs.0 c.requires.inputs.1 c.requires.quanta in
    let adds = adds-within c.in_ok-row.row c.as_mut_slice.result.now c.add_quantum.new.row 0 0 c.as_mut_slice.ensures.value (search rules) refl c.add_quantum.ensures.adds in
    deficits-first c.args.quanta.now _ row c.in_ok-row.ensures limits.cursor_within refl adds
