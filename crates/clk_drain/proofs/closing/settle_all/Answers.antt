use Rattle.std.proofs.Common.{rules}
use Rattle.std.proofs.lemmas.List.Sorted.{IsNonDecreasingBy-from_sort_by_key}
use Rattle.clk_packet.specs.declared.tally.Tally.{Tally}
use Rattle.clk_drain.proofs.closing.settle_all.Goals as goal

pub returns-clause-tallies : goal.returns-clause-tallies
returns-clause-tallies c = record {
  same = search rules;
  order = IsNonDecreasingBy-from_sort_by_key (λ (t : Tally). t.sender) _ c.sort_unstable_by_key.ensures.sorted (λ a r q k. search rules);
}
