use Rattle.std.proofs.Common.{subst}
use Rattle.clk_packet.specs.Dealt.{AreNumbered}
use Rattle.clk_packet.specs.Trace.{sent_by}
use Rattle.clk_packet.proofs.LengthLemmas.{numbered-by}
use Rattle.clk_packet.proofs.traces.Traces.are_numbered.Goals as goal

pub returns : goal.returns
returns c s = subst (λ traces. AreNumbered s 0 (sent_by traces s)) c.self.view_is (numbered-by c.self.inside.senders.items s)
