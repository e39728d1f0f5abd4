use Rattle.std.proofs.Common.{◌≡◌, ◌++◌, length, take, sym, subst, ap, ◌∙◌, ℕ, arith}
use Rattle.std.proofs.Math.Seq.{take-append_seam}
use Rattle.rtrb.specs.Fifo.{Allowed}
use Rattle.rtrb.specs.Ring.{received}
use Rattle.clk_inlet.specs.Items.{MayFollow}
use Rattle.clk_inlet.proofs.outlet.pop_seen.Goals as goal

pub returns-clause-allowed : goal.returns-clause-allowed
returns-clause-allowed c =
    let popped = c.pop_entire_slice.new.slice in
    let back = c.split_at_mut-front.result.1.now in
    let long : length popped ≡ c.args.count = omega (arith, c.pop_entire_slice.auto.slice, c.split_at_mut-front.ensures.front_len) in
    let e = ap (λ (n : ℕ). take n (popped ++ back)) (sym long) ∙ take-append_seam popped back in
    subst (Allowed MayFollow (received c.args.consumer.now)) (sym e) c.in-Ok.ensures.ok.2
