use Rattle.std.proofs.Common.{◌≡◌, ◌+◌, ◌≤◌, refl, length, arith}
use Rattle.std.proofs.lemmas.Bool.Decides.{nat_tests}
use Rattle.clk_packet.specs.declared.limits.TheConstants.{MAX_RECORDS}
use Rattle.clk_packet.proofs.PlainLemmas.{StandsPlain-none, StandsPlain-more, StandsPlain-end}
use Rattle.clk_packet.proofs.traces.plain.read_plain.Goals as goal

pub loop-init : goal.loop-init
loop-init c = rw c.new-traces.ensures (record { count = refl; few = omega arith; stands = StandsPlain-none c.args.text.now })

pub add-requires : goal.add-requires
add-requires c = let count = c.loop.invariant.count in let more = c.loop-test.true in record { room = grind (arith, nat_tests) }

pub loop-preserved : goal.loop-preserved
loop-preserved c =
    let inv = c.loop.invariant in
    let count = inv.count in
    let total = c.in_ok-add.ensures.added.total in
    let more = c.loop-test.true in
    let few : c.loop.counter + 1 ≤ MAX_RECORDS = grind (arith, nat_tests) in
    record {
      count = omega (arith, count, total);
      few = few;
      stands = StandsPlain-more c.args.text.now (c.loop.counter + 1) c.loop.rest.now c.loop.traces c.in-Some.sender c.in-Some.length.bytes c.in-Some.after.now c.add.new.self few inv.stands c.in-Some.ensures
          c.in_ok-add.ensures.added;
    }

pub returns : goal.returns
returns c =
    let inv = c.loop.invariant in
    let count = inv.count in
    let few = inv.few in
    let none : length c.loop.rest.now ≡ 0 = grind (arith, nat_tests) in
    let end = StandsPlain-end c.args.text.now (c.loop.counter + 1) c.loop.rest.now c.loop.traces none inv.stands in
    (end.sound, end.sent_is, omega (arith, count, few))
