-- Senders by rising number and those of a queue, in words for the code that finds them.
use Rattle.std.specs.Prelude.{ℕ, ◌==◌, List, map, filter, nat_lt}
use Rattle.clk_sched.specs.Sorting.{put_before, sorted}
use Rattle.clk_tree.specs.declared.plan.parts.SenderSpec.{SenderSpec}
use Rattle.clk_tree.specs.PlanParts.{number_of}

-- a sender put into a list before the first of a greater number
abbrev pub placed : SenderSpec → List SenderSpec → List SenderSpec
placed s senders = put_before (λ (s t : SenderSpec). nat_lt s.number t.number) s senders

-- senders by rising number
abbrev pub by_number : List SenderSpec → List SenderSpec
by_number senders = sorted (λ (s t : SenderSpec). nat_lt s.number t.number) senders

-- the numbers of the senders among these that send to the queue of this number
abbrev pub senders_to : List SenderSpec → ℕ → List ℕ
senders_to senders q = map number_of (filter (λ (s : SenderSpec). s.queue == q) senders)
