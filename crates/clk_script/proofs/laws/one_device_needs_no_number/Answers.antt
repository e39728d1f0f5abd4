use Rattle.std.proofs.Common.{refl}
use Rattle.clk_script.proofs.Meanings.OneDevice.{meaning-alone, meaning-several}
use Rattle.clk_script.proofs.laws.one_device_needs_no_number.Goals as goal

pub returns-clause-alone : goal.returns-clause-alone
returns-clause-alone c = meaning-alone

pub returns-clause-all : goal.returns-clause-all
returns-clause-all c = meaning-several

pub returns-clause-two_queues : goal.returns-clause-two_queues
returns-clause-two_queues c = (_, record { trees = refl; senders = (refl, (refl, tt)) })
