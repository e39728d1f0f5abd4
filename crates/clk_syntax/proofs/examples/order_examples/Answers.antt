use Rattle.std.proofs.Common.{refl}
use Rattle.clk_packet.specs.declared.fault.Fault.TheVariants.{UnknownClass, BadArgument, NameTwice, UnknownName, BadPort, PortTwice, PortMissing, WrongKind, NoDevice}
use Rattle.clk_syntax.specs.Examples.{unknown_class_then_twice, bad_argument_then_unknown_class, unknown_name_then_bad_argument, bad_port_then_unknown_name, port_twice_then_bad_port, port_missing_then_twice, wrong_kind_then_port_missing, wrong_kind_and_no_device, not_a_tree_and_no_device}
use Rattle.clk_syntax.proofs.Meaning.Told.{has-told}
use Rattle.clk_syntax.proofs.examples.order_examples.Goals as goal

pub returns-clause-name_twice_first : goal.returns-clause-name_twice_first
returns-clause-name_twice_first c = has-told unknown_class_then_twice (NameTwice 10) refl

pub returns-clause-unknown_class_first : goal.returns-clause-unknown_class_first
returns-clause-unknown_class_first c = has-told bad_argument_then_unknown_class (UnknownClass 20) refl

pub returns-clause-bad_argument_first : goal.returns-clause-bad_argument_first
returns-clause-bad_argument_first c = has-told unknown_name_then_bad_argument (BadArgument 13) refl

pub returns-clause-unknown_name_first : goal.returns-clause-unknown_name_first
returns-clause-unknown_name_first c = has-told bad_port_then_unknown_name (UnknownName 24) refl

pub returns-clause-bad_port_first : goal.returns-clause-bad_port_first
returns-clause-bad_port_first c = has-told port_twice_then_bad_port (BadPort 48) refl

pub returns-clause-port_twice_first : goal.returns-clause-port_twice_first
returns-clause-port_twice_first c = has-told port_missing_then_twice (PortTwice 36) refl

pub returns-clause-port_missing_first : goal.returns-clause-port_missing_first
returns-clause-port_missing_first c = has-told wrong_kind_then_port_missing (PortMissing 42) refl

pub returns-clause-wrong_kind_first : goal.returns-clause-wrong_kind_first
returns-clause-wrong_kind_first c = has-told wrong_kind_and_no_device (WrongKind 32) refl

pub returns-clause-no_device_first : goal.returns-clause-no_device_first
returns-clause-no_device_first c = has-told not_a_tree_and_no_device NoDevice refl
