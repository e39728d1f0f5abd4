use Rattle.std.proofs.Common.{◌≡◌, drop}
use Rattle.std.specs.List.{AllByRecursion}
use Rattle.clk_syntax.specs.Within.{IsLinkWithin}
use Rattle.clk_syntax.specs.Ports.{bad_port}
use Rattle.clk_syntax.specs.inside.Checks.{first_of, bad_link}
use Rattle.clk_syntax.proofs.checks.ports.bad_port.Given as goal

abbrev pub invariant-loop-link : goal.invariant-loop-link
invariant-loop-link l = record {
  within : AllByRecursion (IsLinkWithin l.nodes) (drop l.link-index l.links);
  same : first_of (bad_link l.nodes) (drop l.link-index l.links) ≡ bad_port l.nodes l.links;
}
