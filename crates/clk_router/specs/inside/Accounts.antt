-- How the account of each sender changes by one packet.
use Rattle.std.specs.Prelude.{ℕ, ◌+◌, ◌%◌, ◌^◌, ◌==◌, if◌then◌else◌}
use Rattle.clk_packet.specs.declared.counts.Total.{Total}
use Rattle.clk_packet.specs.declared.packet.Packet.{Packet}
use Rattle.clk_router.specs.declared.accounts.Account.{Account}

-- a total with one packet more, modulo 2^64
abbrev pub with_packet : Packet → Total ℕ → Total ℕ
with_packet p t = record { packets = (t.packets + 1) % 2 ^ 64; bytes = (t.bytes + p.length) % 2 ^ 64 }

-- a sender's total with one packet more, if the packet is this sender's
abbrev pub with_its : ℕ → Packet → Total ℕ → Total ℕ
with_its s p t = if p.sender == s then with_packet p t else t

-- an account with these totals
abbrev pub with_totals : Account → Total ℕ → Total ℕ → Total ℕ → Total ℕ → Account
with_totals a accepted refused evicted emitted =
    record { queue = a.queue; counts = record { sender = a.counts.sender; accepted = accepted; refused = refused; evicted = evicted; emitted = emitted } }

-- an account after a packet was evicted
abbrev pub put_out : Packet → Account → Account
put_out p a = with_totals a a.counts.accepted a.counts.refused (with_its a.counts.sender p a.counts.evicted) a.counts.emitted

-- an account after a packet was emitted
abbrev pub with_emitted : Packet → Account → Account
with_emitted p a = with_totals a a.counts.accepted a.counts.refused a.counts.evicted (with_its a.counts.sender p a.counts.emitted)
