-- What opening a router over a text does.
use Rattle.std.specs.Prelude.{◌≡◌, ℕ, List, ◌⊎◌, Option, Some}
use Rattle.clk_packet.specs.declared.fault.Fault.{Fault}
use Rattle.clk_packet.specs.declared.fault.Fault.TheVariants.{Memory}
use Rattle.clk_syntax.specs.Reading.{HasFault}
use Rattle.clk_tree.specs.Plan.{Planned, Denotes}
use Rattle.clk_sched.specs.Keeps.{keeps_nothing}
use Rattle.clk_router.specs.Course.{Course, IsOpened}
use Rattle.clickpull_c.specs.declared.values.CFault.{CFault}
use Rattle.clickpull_c.specs.declared.statuses.TheConstants.{FAULT}
use Rattle.clickpull_c.specs.Values.{fault_in_c}

-- A router was opened over the plan that a text denotes, and nothing has happened.
pub record Opens (text : List ℕ) (c : Course) : Type 0 where
  pub plan : List Planned
  pub denotes : Denotes text plan
  pub opened : IsOpened plan keeps_nothing c

-- A place was given a router that was opened over this text.
pub record IsGiven (text : List ℕ) (place : Option Course) : Type 0 where
  pub router : Course
  pub has : place ≡ Some router
  pub opens : Opens text router

-- An allocation failed, or the text has this fault. It was filled in.
pub record IsFaulty (text : List ℕ) (filled : CFault) (status : ℕ) : Type 0 where
  pub answers : status ≡ FAULT
  pub fault : Fault
  pub has : (fault ≡ Memory) ⊎ HasFault text fault
  pub filled_is : filled ≡ fault_in_c fault
