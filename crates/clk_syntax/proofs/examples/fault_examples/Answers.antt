use Rattle.std.proofs.Common.{refl}
use Rattle.clk_packet.specs.declared.fault.Fault.TheVariants.{UnknownName, NoDevice}
use Rattle.clk_syntax.specs.Examples.{unknown_names}
use Rattle.clk_syntax.proofs.Meaning.Told.{told-of, has-told}
use Rattle.clk_syntax.proofs.Meaning.SpaceLemmas.{spaces-told}
use Rattle.clk_syntax.proofs.examples.fault_examples.Goals as goal

pub returns-clause-is_no_device : goal.returns-clause-is_no_device
returns-clause-is_no_device c = spaces-told

pub returns-clause-is_unknown_name : goal.returns-clause-is_unknown_name
returns-clause-is_unknown_name c = has-told unknown_names (UnknownName 0) refl

pub returns-clause-not_of_other_statements : goal.returns-clause-not_of_other_statements
returns-clause-not_of_other_statements c = λ h. let e = told-of unknown_names NoDevice h in absurd (cc)

pub returns-clause-not_of_other_name : goal.returns-clause-not_of_other_name
returns-clause-not_of_other_name c = λ h. let e = told-of unknown_names (UnknownName 5) h in absurd (cc)
