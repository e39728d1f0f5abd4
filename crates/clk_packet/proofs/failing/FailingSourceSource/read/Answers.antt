use Rattle.std.proofs.Common.{◌≡◌, ◌++◌, ◌+◌, ◌<◌, length, take, drop, min, arith}
use Rattle.std.proofs.lemmas.Grind.{common_steps}
use Rattle.clk_packet.proofs.Copies.{copy_consumes}
use Rattle.clk_packet.proofs.failing.FailingSourceSource.read.Goals as goal

pub returns-clause-bytes : goal.returns-clause-bytes
returns-clause-bytes c =
    let n = c.copy_what_fits-count.result in
    let left = c.args.self.now.left in
    let until = c.args.self.now.until in
    let to = c.args.buf.now in
    let moved : drop (c.self.inside.given + n) c.self.inside.bytes.items ≡ drop n left = grind (arith, common_steps) in
    let count : n ≡ min (length (take until left)) (length to) = grind (arith, common_steps) in
    let some : 0 < until = grind (arith, common_steps) in
    let copied : c.copy_what_fits-count.new.to ≡ take n (take until left) ++ drop n to = grind (arith, common_steps) in
    rw (moved, copied) (copy_consumes n until left to count some)
