use Rattle.std.proofs.Common.{◌≡◌, drop}
use Rattle.std.specs.List.{AllByRecursion}
use Rattle.clk_syntax.specs.Within.{IsLinkWithin}
use Rattle.clk_syntax.specs.Ports.{wrong_kind}
use Rattle.clk_syntax.specs.inside.Checks.{first_of, mixed_link}
use Rattle.clk_syntax.proofs.checks.ports.wrong_kind.Given as goal

abbrev pub invariant-loop-link : goal.invariant-loop-link
invariant-loop-link l = record {
  within : AllByRecursion (IsLinkWithin l.nodes) (drop l.link-index l.links);
  same : first_of (mixed_link l.nodes) (drop l.link-index l.links) ≡ wrong_kind l.nodes l.links;
}
