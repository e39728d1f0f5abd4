-- Packets with tokens as C sees them.
use Rattle.std.specs.Prelude.{ℕ}
use Rattle.clk_packet.specs.declared.packet.Packet.{Packet}
use Rattle.clk_live.specs.declared.draining.Departed.{Departed}
use Rattle.clk_live.specs.declared.pulling.Emitted.{Emitted}
use Rattle.clk_live.specs.declared.taking.OfferOutcome.{OfferOutcome}
use Rattle.clk_live.specs.declared.taking.OfferOutcome.TheVariants.{Accepted, Refused, Evicted}
use Rattle.clk_live.specs.declared.taking.Taken.{Taken}
use Rattle.clickpull_c.specs.declared.live.values.CDeparted.{CDeparted}
use Rattle.clickpull_c.specs.declared.live.values.CEmitted.{CEmitted}
use Rattle.clickpull_c.specs.declared.live.values.CTaken.{CTaken}
use Rattle.clickpull_c.specs.declared.statuses.TheConstants.{ACCEPTED, REFUSED, EVICTED}
use Rattle.clickpull_c.specs.Values.{no_packet, packet_in_c}

-- a packet that was taken, with its token and outcome, as C sees them
abbrev pub told_in_c : Packet → ℕ → OfferOutcome → CTaken
told_in_c p token Accepted = record { packet = packet_in_c p; token = token; evicted = no_packet; evicted_token = 0; outcome = ACCEPTED }
told_in_c p token Refused = record { packet = packet_in_c p; token = token; evicted = no_packet; evicted_token = 0; outcome = REFUSED }
told_in_c p token (Evicted front its) = record { packet = packet_in_c p; token = token; evicted = packet_in_c front; evicted_token = its; outcome = EVICTED }

-- what a take returns, as C sees it
abbrev pub taken_in_c : Taken → CTaken
taken_in_c t = told_in_c t.packet t.token t.outcome

-- a packet that a device emitted, with its token, as C sees them
abbrev pub emitted_in_c : Emitted → CEmitted
emitted_in_c e = record { packet = packet_in_c e.packet; token = e.token }

-- a packet that a drain emitted, with its moment and token, as C sees them
abbrev pub departed_in_c : Departed → CDeparted
departed_in_c d = record { moment = d.moment; packet = packet_in_c d.packet; token = d.token }
