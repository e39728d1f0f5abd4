-- The counts of the packets of each sender.
use Rattle.std.specs.Prelude.{ℕ, ◌^◌, ◌<◌, List}
use Rattle.std.specs.List.{filter_map, AllByRecursion}
use Rattle.clk_packet.specs.Counts.{counts_of}
use Rattle.clk_tree.specs.declared.plan.parts.SenderSpec.{SenderSpec}
use Rattle.clk_router.specs.declared.accounts.Account.{Account}
use Rattle.clk_router.specs.Events.{Event, emitted_in, tally_after}

-- a sender's queue, and the counts of its packets in some events
abbrev pub account_after : List Event → SenderSpec → Account
account_after events s = record { queue = s.queue; counts = counts_of (filter_map emitted_in events) (tally_after events s.number) }

-- the number of the sender of an account
abbrev pub account_sender : Account → ℕ
account_sender a = a.counts.sender

-- An account has fewer than 2^32 packets of each outcome.
pub record HasFew (a : Account) : Type 0 where
  pub accepted : a.counts.accepted.packets < 2 ^ 32
  pub refused : a.counts.refused.packets < 2 ^ 32
  pub evicted : a.counts.evicted.packets < 2 ^ 32
  pub emitted : a.counts.emitted.packets < 2 ^ 32

-- Each of these accounts has fewer than 2^32 packets of each outcome.
abbrev pub AreFew : List Account → Type 0
AreFew accounts = AllByRecursion HasFew accounts
