-- What is made of a text in which the checks find nothing is the plan that it denotes.
use Rattle.std.proofs.Common.{◌≡◌, ℕ, List, length, None, ap, ap₂, ◌∙◌}
use Rattle.clk_syntax.specs.declared.node.Node.{Node}
use Rattle.clk_syntax.specs.declared.node.Link.{Link}
use Rattle.clk_syntax.specs.declared.texts.statements.Connection.{Connection}
use Rattle.clk_syntax.specs.declared.texts.token.Token.{Token}
use Rattle.clk_syntax.specs.Source.{Declared, elements, wires}
use Rattle.clk_syntax.specs.Faults.{nodes_fault}
use Rattle.clk_syntax.specs.Reading.{IsNamedText}
use Rattle.clk_syntax.proofs.Callers.Meaning.{faultless-by}
use Rattle.clk_tree.specs.Plan.{Planned, all_known, planned_from, plan_of, Denotes}
use Rattle.clk_tree.proofs.Distinct.DistinctPlans.{nodes-known}

pub denotes-by : (text : List ℕ) (tokens : List Token) (declared : List Declared) (connections : List Connection) (nodes : List Node) (links : List Link) (plan : List Planned)
    → IsNamedText text tokens declared connections nodes links → nodes_fault nodes links ≡ None → plan ≡ planned_from (length nodes) links 0 (all_known (elements text declared)) → Denotes text plan
denotes-by text tokens declared connections nodes links plan h none is = record {
  faultless = faultless-by text tokens declared connections nodes links h none;
  is = is ∙ ap₂ (λ n ls. planned_from n ls 0 (all_known (elements text declared))) (ap length h.nodes_are ∙ nodes-known (elements text declared)) h.links_are
      ∙ ap₂ (λ d c. plan_of (elements text d) (wires text c)) h.read.2 h.read.3;
}
