-- Packets, outcomes, faults and accounts as C sees them.
use Rattle.std.specs.Prelude.{ℕ}
use Rattle.clk_packet.specs.declared.counts.Total.{Total}
use Rattle.clk_packet.specs.declared.packet.Packet.{Packet}
use Rattle.clk_packet.specs.declared.packet.Kind.{Kind}
use Rattle.clk_packet.specs.declared.packet.Kind.TheVariants.{TailDrop, FrontDrop}
use Rattle.clk_packet.specs.declared.packet.Offered.{Offered}
use Rattle.clk_packet.specs.declared.packet.Offered.TheVariants.{Accepted, Refused, Evicted}
use Rattle.clk_packet.specs.declared.fault.Fault.{Fault}
use Rattle.clk_packet.specs.declared.fault.Fault.TheVariants.{BadText, UnknownClass, BadArgument, NameTwice, UnknownName, BadPort, PortTwice, PortMissing, WrongKind, ManyDevices, NotATree}
use Rattle.clk_packet.specs.Fault.{number_of}
use Rattle.clk_router.specs.declared.accounts.Account.{Account}
use Rattle.clk_router.specs.declared.queue_state.QueueState.{QueueState}
use Rattle.clickpull_c.specs.declared.values.CPacket.{CPacket}
use Rattle.clickpull_c.specs.declared.values.COffered.{COffered}
use Rattle.clickpull_c.specs.declared.values.CTotal.{CTotal}
use Rattle.clickpull_c.specs.declared.values.CAccount.{CAccount}
use Rattle.clickpull_c.specs.declared.values.CQueue.{CQueue}
use Rattle.clickpull_c.specs.declared.values.CFault.{CFault}
use Rattle.clickpull_c.specs.declared.statuses.TheConstants.{ACCEPTED, REFUSED, EVICTED}

-- the packet that stands where none is filled in: all zero
abbrev pub no_packet : CPacket
no_packet = record { number = 0; sender = 0; length = 0 }

-- a packet, as C sees it
abbrev pub packet_in_c : Packet → CPacket
packet_in_c p = record { number = p.number; sender = p.sender; length = p.length }

-- a packet that was offered, with its outcome, as C sees them
abbrev pub offered_in_c : Packet → Offered → COffered
offered_in_c p Accepted = record { packet = packet_in_c p; evicted = no_packet; outcome = ACCEPTED }
offered_in_c p (Refused same) = record { packet = packet_in_c p; evicted = no_packet; outcome = REFUSED }
offered_in_c p (Evicted front) = record { packet = packet_in_c p; evicted = packet_in_c front; outcome = EVICTED }

-- at which byte of a text its fault is, or 0
abbrev pub offset_of : Fault → ℕ
offset_of (BadText offset) = offset
offset_of (UnknownClass offset) = offset
offset_of (BadArgument offset) = offset
offset_of (NameTwice offset) = offset
offset_of (UnknownName offset) = offset
offset_of (BadPort offset) = offset
offset_of (PortTwice offset) = offset
offset_of (PortMissing offset) = offset
offset_of (WrongKind offset) = offset
offset_of (ManyDevices offset) = offset
offset_of (NotATree offset) = offset
offset_of fault = 0

-- a fault, as C sees it
abbrev pub fault_in_c : Fault → CFault
fault_in_c fault = record { number = number_of fault; offset = offset_of fault }

-- a total, as C sees it
abbrev pub total_in_c : Total ℕ → CTotal
total_in_c t = record { packets = t.packets; bytes = t.bytes }

-- an account, as C sees it
abbrev pub account_in_c : Account → CAccount
account_in_c a = record {
  accepted = total_in_c a.counts.accepted;
  refused = total_in_c a.counts.refused;
  evicted = total_in_c a.counts.evicted;
  emitted = total_in_c a.counts.emitted;
  sender = a.counts.sender;
  queue = a.queue;
}

-- whether a queue evicts packets for later ones, as a number
abbrev pub front_drop_of : Kind → ℕ
front_drop_of TailDrop = 0
front_drop_of FrontDrop = 1

-- the state of a queue, as C sees it
abbrev pub queue_in_c : QueueState → CQueue
queue_in_c q = record { capacity = q.capacity; held = q.held; device = q.device; front_drop = front_drop_of q.kind }
