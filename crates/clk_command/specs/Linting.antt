-- The warnings of a plan and a trace, and why there are none (this project's own definition).
use Rattle.std.specs.Prelude.{◌≡◌, ℕ, List, Option, Some, None}
use Rattle.clk_packet.specs.declared.fault.Fault.{Fault}
use Rattle.clk_tree.specs.Plan.{Planned}
use Rattle.clk_gate.specs.Known.{senders_in, first_unknown, IsUnknownSender}
use Rattle.clk_lint.specs.Lines.{lint_text}
use Rattle.clk_command.specs.Running.{OverTrace, ExplainsOverTrace}

-- The text has the warnings of a plan and of what the trace says, or of some packets if its bytes aren't known. The plan has all senders.
abbrev pub LintWrites : (plan : List Planned) → (trace : Option (List ℕ)) → (text : List ℕ) → Type 0
LintWrites plan trace text = OverTrace trace (λ traces. (first_unknown (senders_in plan) traces ≡ None) × (text ≡ lint_text plan (Some traces)))

-- Why the warnings of a plan and a trace fail with a fault: what the trace says is refused if the plan lacks a sender, which the fault names.
abbrev pub ExplainsLint : List Planned → Option (List ℕ) → Fault → Type 0
ExplainsLint plan trace = ExplainsOverTrace trace (IsUnknownSender (senders_in plan))
