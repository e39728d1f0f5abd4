use Rattle.std.proofs.Common.{◌∙◌, sym}
use Rattle.clk_packet.proofs.TraceLemmas.{IsAnswer-of}
use Rattle.clk_packet.proofs.traces.Traces.read_csv.Goals as goal

pub returns-clause-sound : goal.returns-clause-sound
returns-clause-sound g c = (IsAnswer-of _ c.in_ok-text.text.items c.read_text-traces.result c.in_ok-text.ensures.bytes (rw c.deref.ensures.value at c.read_text-traces.ensures)).sound

pub returns-clause-sent : goal.returns-clause-sent
returns-clause-sent g c = (IsAnswer-of _ c.in_ok-text.text.items c.read_text-traces.result c.in_ok-text.ensures.bytes (rw c.deref.ensures.value at c.read_text-traces.ensures)).sent_is

pub returns-clause-within : goal.returns-clause-within
returns-clause-within g c = (IsAnswer-of _ c.in_ok-text.text.items c.read_text-traces.result c.in_ok-text.ensures.bytes (rw c.deref.ensures.value at c.read_text-traces.ensures)).within

pub returns-clause-fault : goal.returns-clause-fault
returns-clause-fault g c = (IsAnswer-of _ c.in_ok-text.text.items c.read_text-traces.result c.in_ok-text.ensures.bytes (rw c.deref.ensures.value at c.read_text-traces.ensures)).explains

pub returns-clause-failures : goal.returns-clause-failures
returns-clause-failures g c = c.in_ok-text.ensures.fault ∙ sym ((IsAnswer-of _ c.in_ok-text.text.items c.read_text-traces.result c.in_ok-text.ensures.bytes (rw c.deref.ensures.value at c.read_text-traces.ensures)).reads _)
