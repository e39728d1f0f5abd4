use Rattle.std.proofs.Common.{◌+◌, ◌<◌, ◌≤◌, length, take, ap, sym, rules, arith}
use Rattle.std.proofs.lemmas.List.{take_all}
use Rattle.std.proofs.lemmas.List.Elements.{All-more, All-same, All-weaker}
use Rattle.clk_packet.specs.declared.tally.Tally.{Tally}
use Rattle.clk_report.proofs.reports.table_len.Goals as goal

pub loop-tally-preserved : goal.loop-tally-preserved
loop-tally-preserved c =
    let number = λ (t : Tally). t.sender in
    let is = ap number c.tally-item.is in
    let kept : c.loop-tally.len ≤ c.max-len.result = search rules in
    let counted : c.from.result + 1 ≤ c.max-len.result = search rules in
    let limit : c.max-len.result ≤ 65536 = search rules in
    record {
      within =
          All-more (λ t. number t < c.max-len.result) c.args.tallies.now c.loop-tally.tally-index c.tally-item.result c.loop-tally-test.true
          (All-weaker (λ t. number t < c.loop-tally.len) (λ t. number t < c.max-len.result) (λ t below. omega (arith, kept)) _ c.loop-tally.invariant.within)
          (omega (arith, is, counted));
      limit = limit;
    }

pub returns-clause-within : goal.returns-clause-within
returns-clause-within c =
    let all : length c.args.tallies.now ≤ c.loop-tally.tally-index = omega arith in
    All-same (λ t. t.sender < c.loop-tally.len) _ (take c.loop-tally.tally-index c.args.tallies.now) (sym (take_all c.loop-tally.tally-index c.args.tallies.now all)) c.loop-tally.invariant.within
