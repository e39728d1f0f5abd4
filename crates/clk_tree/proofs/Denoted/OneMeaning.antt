-- A text has one meaning: it has one fault or none, and the plan follows from its statements.
use Rattle.std.proofs.Common.{◌≡◌, ◌⊎◌, ℕ, List, inl, inr, refl, sym, ap, ◌∙◌}
use Rattle.clk_packet.specs.declared.fault.Fault.{Fault}
use Rattle.clk_syntax.specs.Reading.{elements_of, wires_of, IsFaultless, HasFault}
use Rattle.clk_syntax.proofs.Callers.Meaning.{one-fault, not-faultless, same-statements, says, text-no-memory}
use Rattle.clk_tree.specs.Plan.{Planned, plan_of, Denotes}
use Rattle.clk_tree.specs.Laws.{HasOneMeaning}

one-plan : (text : List ℕ) (plan other : List Planned) → Denotes text plan → Denotes text other → plan ≡ other
one-plan text plan other d k =
    d.is ∙ ap (λ s. plan_of (elements_of text s) (wires_of text s)) (same-statements text d.faultless k.faultless) ∙ sym k.is

denotes-some : (text : List ℕ) → IsFaultless text ⊎ ((fault : Fault) × HasFault text fault) → ((plan : List Planned) × Denotes text plan) ⊎ ((fault : Fault) × HasFault text fault)
denotes-some text (inl f) = inl (plan_of (elements_of text f.statements) (wires_of text f.statements), record { faultless = f; is = refl })
denotes-some text (inr h) = inr h

pub one-meaning : (text : List ℕ) → HasOneMeaning text
one-meaning text = record {
  some = denotes-some text (says text);
  not_both = λ plan fault d. not-faultless text fault d.faultless;
  one_plan = one-plan text;
  one_fault = one-fault text;
  not_memory = text-no-memory text;
}
