use Rattle.std.proofs.Common.{◌∙◌}
use Rattle.clickpull_c.proofs.LiveTakes.{takes-fitting}
use Rattle.clickpull_c.proofs.live.taking.take_fitting_round.Goals as goal

pub returns : goal.returns
returns c =
    let took = c.take_in_fitting-count.ensures in
    takes-fitting c.args.each _ _ _ _ _ _ _ (c.split_at_mut-slots.ensures.front_len ∙ c.min-most.ensures) took.taken c.fill_in.ensures.filled took.outlets took.each took.turn took.accepted took.shares took.in_turn
