-- How many devices, senders and queues a router has.
use Rattle.std.specs.Prelude.{ℕ, length}
use Rattle.clk_router.specs.Course.{Course}

-- how many devices a router has
abbrev pub device_count : Course → ℕ
device_count c = length c.setup.trees

-- how many senders a router has
abbrev pub sender_count : Course → ℕ
sender_count c = length c.setup.senders

-- how many queues a router has
abbrev pub queue_count : Course → ℕ
queue_count c = length c.setup.queues
