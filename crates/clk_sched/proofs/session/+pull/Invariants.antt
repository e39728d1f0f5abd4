use Rattle.std.proofs.Common.{if◌then◌else◌, ℕ, ◌+◌, ◌*◌, ◌-◌, ◌≤◌, length, take}
use Rattle.std.specs.List.{range_with_len}
use Rattle.clk_sched.specs.inside.Ranks.{inputs_in}
use Rattle.clk_sched.proofs.Nodes.Asking.{IsAsking}
use Rattle.clk_sched.specs.inside.Making.{IsMaking}
use Rattle.clk_sched.proofs.session.+pull.Given as goal

-- a node is pulled before those below it, and each step of its pull before the next
abbrev rank : ℕ → ℕ → ℕ → ℕ
rank size x step = 8 * (size - x) + step

abbrev pub decreases-nodes::Nodes::ask : goal.decreases-nodes::Nodes::ask
decreases-nodes::Nodes::ask g l = rank (length l.self.now.inputs.items) l.node 0

abbrev pub decreases-nodes::Nodes::look : goal.decreases-nodes::Nodes::look
decreases-nodes::Nodes::look g l = rank (length l.self.now.inputs.items) l.node 1

abbrev pub decreases-nodes::Nodes::ask_in_order : goal.decreases-nodes::Nodes::ask_in_order
decreases-nodes::Nodes::ask_in_order g l = rank (length l.self.now.inputs.items) l.node 2

abbrev pub decreases-nodes::Nodes::ask_in_turn : goal.decreases-nodes::Nodes::ask_in_turn
decreases-nodes::Nodes::ask_in_turn g l = rank (length l.self.now.inputs.items) l.node 2

abbrev pub decreases-drr::Deficits::look_by_asking : goal.decreases-drr::Deficits::look_by_asking
decreases-drr::Deficits::look_by_asking g l = rank (length l.nodes.now.inputs.items) l.node 3

abbrev pub decreases-drr::Deficits::turn : goal.decreases-drr::Deficits::turn
decreases-drr::Deficits::turn g l = rank (length l.nodes.now.inputs.items) l.node 4

abbrev pub decreases-stride::Passes::turn : goal.decreases-stride::Passes::turn
decreases-stride::Passes::turn g l = rank (length l.nodes.now.inputs.items) l.node 3

abbrev pub decreases-stride::Passes::ask_on : goal.decreases-stride::Passes::ask_on
decreases-stride::Passes::ask_on g l = rank (length l.nodes.now.inputs.items) l.node 4

abbrev pub decreases-prio::pull_prio : goal.decreases-prio::pull_prio
decreases-prio::pull_prio g l = rank (length l.nodes.now.inputs.items) l.node 5

abbrev pub decreases-round_robin::Beginning::pull : goal.decreases-round_robin::Beginning::pull
decreases-round_robin::Beginning::pull g l = rank (length l.nodes.now.inputs.items) l.node 6

abbrev pub decreases-round_robin::Beginning::ask_first : goal.decreases-round_robin::Beginning::ask_first
decreases-round_robin::Beginning::ask_first g l = rank (length l.nodes.now.inputs.items) l.node 5

abbrev pub decreases-round_robin::Beginning::ask_on : goal.decreases-round_robin::Beginning::ask_on
decreases-round_robin::Beginning::ask_on g l = rank (length l.nodes.now.inputs.items) l.node 4

abbrev pub decreases-drr::Deficits::pull : goal.decreases-drr::Deficits::pull
decreases-drr::Deficits::pull g l = rank (length l.nodes.now.inputs.items) l.node 5

abbrev pub decreases-stride::Passes::pull : goal.decreases-stride::Passes::pull
decreases-stride::Passes::pull g l = rank (length l.nodes.now.inputs.items) l.node 6

abbrev pub decreases-stride::Passes::ask_first : goal.decreases-stride::Passes::ask_first
decreases-stride::Passes::ask_first g l = rank (length l.nodes.now.inputs.items) l.node 5

abbrev pub decreases-shaper::Bucket::pull : goal.decreases-shaper::Bucket::pull
decreases-shaper::Bucket::pull g l = rank (length l.nodes.now.inputs.items) l.node 5

abbrev pub decreases-nodes::Nodes::pull : goal.decreases-nodes::Nodes::pull
decreases-nodes::Nodes::pull g l = rank (length l.self.now.inputs.items) l.node 7

abbrev pub decreases-nodes::Nodes::ask_in_order-loop-place : goal.decreases-nodes::Nodes::ask_in_order-loop-place
decreases-nodes::Nodes::ask_in_order-loop-place g l = length l.order - l.place

abbrev pub invariant-nodes::Nodes::ask_in_order-loop-place : goal.invariant-nodes::Nodes::ask_in_order-loop-place
invariant-nodes::Nodes::ask_in_order-loop-place g l = (l.place ≤ length l.fn.order) × IsAsking g.Q.Ask.gives l.fn.self l.self l.fn.q l.q l.node (take l.place (inputs_in l.fn.order))

abbrev pub decreases-nodes::Nodes::ask_in_turn-loop-place : goal.decreases-nodes::Nodes::ask_in_turn-loop-place
decreases-nodes::Nodes::ask_in_turn-loop-place g l = l.count - l.place

abbrev pub invariant-nodes::Nodes::ask_in_turn-loop-place : goal.invariant-nodes::Nodes::ask_in_turn-loop-place
invariant-nodes::Nodes::ask_in_turn-loop-place g l = (l.place ≤ l.count) × IsAsking g.Q.Ask.gives l.fn.self l.self l.fn.q l.q l.node (take l.place (range_with_len l.fn.first l.fn.count))

abbrev pub decreases-drr::Deficits::turn-loop-looks : goal.decreases-drr::Deficits::turn-loop-looks
decreases-drr::Deficits::turn-loop-looks g l = 2 * (l.inputs - l.looks) + (if l.vain then 1 else 0)

abbrev pub invariant-drr::Deficits::turn-loop-looks : goal.invariant-drr::Deficits::turn-loop-looks
invariant-drr::Deficits::turn-loop-looks g l = IsMaking g.Q.Ask.gives l.initial.nodes l.nodes l.initial.q l.q l.node l.initial.self l.self l.looks × (l.looks ≤ l.inputs)
