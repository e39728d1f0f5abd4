-- The canonical text of a plan denotes it.
use Rattle.std.proofs.Common.{◌≡◌, ℕ, ◌≤◌, List, length, None, refl, sym, subst}
use Rattle.std.specs.List.{AllByRecursion}
use Rattle.clk_syntax.specs.declared.limits.TheConstants.{MAX_TREE_BYTES}
use Rattle.clk_syntax.specs.Tokens.{tokens_of}
use Rattle.clk_syntax.specs.Source.{Element, Wire}
use Rattle.clk_syntax.specs.Faults.{fault_of}
use Rattle.clk_syntax.specs.Reading.{elements_of, wires_of}
use Rattle.clk_syntax.proofs.Callers.Meaning.{right-text, can-be-read}
use Rattle.clk_tree.specs.Plan.{Planned, plan_of, Denotes}
use Rattle.clk_tree.specs.Canonical.{canonical_text}
use Rattle.clk_tree.proofs.Canonical.CanonicalSource.{CanBeWritten}
use Rattle.clk_tree.proofs.Canonical.CanonicalStatements.{IsCanonicalSource, canonical-source}
use Rattle.clk_tree.proofs.Canonical.ReadBack.{plan-read-back}
use Rattle.clk_tree.proofs.Canonical.ReadPlans.{plan-written}
use Rattle.clk_tree.proofs.Rewired.Rewired.{declared-again}
use Rattle.clk_tree.proofs.Rewired.WiringAgain.{same-faultless}
use Rattle.clk_tree.proofs.Rewired.WiringAgainPlan.{same-plan}

source-denotes : (elements : List Element) (wires : List Wire) → fault_of elements wires ≡ None → IsCanonicalSource (plan_of elements wires)
    → length (canonical_text (plan_of elements wires)) ≤ MAX_TREE_BYTES → Denotes (canonical_text (plan_of elements wires)) (plan_of elements wires)
source-denotes elements wires none source short =
    let text = canonical_text (plan_of elements wires) in
    let again = elements_of text source.statements in
    let joined = wires_of text source.statements in
    let h = declared-again elements wires none again joined (plan-read-back elements wires none) source.elements source.wires in
    record {
      faultless = record {
        short_and_right = right-text text (tokens_of text) short refl (can-be-read (tokens_of text) source.statements source.is_text);
        statements = source.statements;
        is_text = source.is_text;
        sound = same-faultless elements again wires joined none h.names h.nodes h.links;
      };
      is = sym (same-plan elements again wires joined none h.known h.links);
    }

pub canonical-denotes : (text : List ℕ) (plan : List Planned) → Denotes text plan → length (canonical_text plan) ≤ MAX_TREE_BYTES → Denotes (canonical_text plan) plan
canonical-denotes text plan denotes =
    let statements = denotes.faultless.statements in
    let can = subst (λ p. AllByRecursion (CanBeWritten (length p)) p) denotes.is (plan-written text plan denotes) in
    subst (λ p. length (canonical_text p) ≤ MAX_TREE_BYTES → Denotes (canonical_text p) p) (sym denotes.is)
    (source-denotes (elements_of text statements) (wires_of text statements) denotes.faultless.sound (canonical-source (plan_of (elements_of text statements) (wires_of text statements)) can))

-- bytes that are the canonical text
pub written-denotes : (text bytes : List ℕ) (plan : List Planned) → Denotes text plan → bytes ≡ canonical_text plan → length bytes ≤ MAX_TREE_BYTES → Denotes bytes plan
written-denotes text bytes plan denotes are = subst (λ b. length b ≤ MAX_TREE_BYTES → Denotes b plan) (sym are) (canonical-denotes text plan denotes)
