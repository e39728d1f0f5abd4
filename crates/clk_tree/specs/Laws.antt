-- What a text says as a whole.
use Rattle.std.specs.Prelude.{◌≡◌, ◌⊎◌, ℕ, List}
use Rattle.clk_packet.specs.declared.fault.Fault.{Fault}
use Rattle.clk_packet.specs.declared.fault.Fault.TheVariants.{Memory}
use Rattle.clk_syntax.specs.Reading.{HasFault}
use Rattle.clk_tree.specs.Plan.{Planned, Denotes}

-- A text has one meaning: it denotes a plan or has a fault, never both, and no second plan or fault. Its fault is never fault 1 (`Memory`).
pub record HasOneMeaning (text : List ℕ) : Type 0 where
  pub some : ((plan : List Planned) × Denotes text plan) ⊎ ((fault : Fault) × HasFault text fault)
  pub not_both : (plan : List Planned) (fault : Fault) → Denotes text plan → ¬ (HasFault text fault)
  pub one_plan : (plan other : List Planned) → Denotes text plan → Denotes text other → plan ≡ other
  pub one_fault : (fault other : Fault) → HasFault text fault → HasFault text other → fault ≡ other
  pub not_memory : ¬ (HasFault text Memory)

abbrev pub TextsHaveOneMeaning : Type 0
TextsHaveOneMeaning = (text : List ℕ) → HasOneMeaning text
