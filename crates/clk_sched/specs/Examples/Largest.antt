-- The largest tree that a session may have, and a larger one.
use Rattle.std.specs.Prelude.{ℕ, suc, zero}
use Rattle.clk_packet.specs.Scheduler.{prio}
use Rattle.clk_sched.specs.Tree.{Tree, Row, end, leaf, node, scheduler}

-- `count` queues, numbered from `from` on, before a row
abbrev queues : (count from : ℕ) → Row → Row
queues zero from row = row
queues (suc count) from row = leaf from (queues count (suc from) row)

-- a PrioSched over three PrioScheds of 64 queues each, and over `count` queues: 196 elements besides these, and the device
abbrev over_queues : ℕ → Tree
over_queues count =
    scheduler prio (node prio (queues 64 0 end) (node prio (queues 64 64 end) (node prio (queues 64 128 end) (queues count 192 end))))

-- 256 queues and schedulers, the device counted
abbrev pub largest : Tree
largest = over_queues 59

-- 257 queues and schedulers, the device counted
abbrev pub larger : Tree
larger = over_queues 60
