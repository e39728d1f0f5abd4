use Rattle.std.proofs.Common.{rules, ℕ, ◌+◌, ◌-◌, ◌%◌, ◌<◌, length, sym, ap, subst, mod-lt, arith}
use Rattle.clk_sched.proofs.Classes.Deficits.{sum-fits, limits-of, limits-moved, adds-within}
use Rattle.clk_sched.proofs.session.drr.Deficits.move_on.Goals as goal

pub add_quantum-requires-clause-fits : goal.add_quantum-requires-clause-fits
add_quantum-requires-clause-fits c s e = let d = c.args.self.now in sum-fits d.cursor d.row.items c.from.result s (limits-of d) (rw (sym c.as_mut_slice-row.ensures.value) e)

pub invariant_of-self : goal.invariant_of-self
invariant_of-self c =
    let d = c.args.self.now in
    let next : ℕ = c.input_after-self.result in
    let within : next < length d.row.items = subst (λ n. n < length d.row.items) (sym c.input_after-self.ensures)
    (subst (λ n. (d.cursor + c.args.inputs - 1 + 1) % n < length d.row.items) (sym (ap length c.as_mut_slice-row.ensures.value)) (mod-lt (d.cursor + c.args.inputs - 1 + 1) (omega arith))) in
    let adds = adds-within d.row c.as_mut_slice-row.result.now c.add_quantum.new.row _ _ c.as_mut_slice-row.ensures.value (search rules) c.from.ensures c.add_quantum.ensures.adds in
    let after = limits-moved d.cursor d.row.items _ next (limits-of d) c.requires.left within adds in
    record { few = after.few; cursor_within = after.cursor_within; quanta_within = after.quanta_within; deficits_within = after.deficits_within; idle_without = after.idle_without }
