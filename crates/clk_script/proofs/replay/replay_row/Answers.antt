use Rattle.std.proofs.Common.{◌≤◌, length, Some, sym, ap, subst, ◌∙◌, rules}
use Rattle.clk_packet.specs.Lists.{AreRising}
use Rattle.clk_router.specs.Course.{events_of, sender_at, CanPull}
use Rattle.clk_script.specs.Meaning.{names_of}
use Rattle.clk_script.specs.declared.limits.TheConstants.{MAX_LINES}
use Rattle.clk_script.specs.inside.Rows.{IsToDo}
use Rattle.clk_script.proofs.Carrying.CarriedLemmas.{asked-send, asked-elsewhere, pull-elsewhere, can-offer-there, can-pull-there, carried-none, carried-offer, sends-there}
use Rattle.clk_script.proofs.replay.replay_row.Goals as goal

pub offer-requires-clause-can : goal.offer-requires-clause-can
offer-requires-clause-can g c =
    let setup = c.args.again.now.setup in
    let rising = subst AreRising c.senders.ensures.numbers c.senders.ensures.rising in
    let to_do = subst (IsToDo (names_of setup)) c.in-Send.is c.requires.to_do in
    can-offer-there c.args.again.now rising c.args.device c.from-place.result c.in-Send.packet.sender (ap (sender_at setup) c.from-place.ensures ∙ to_do) (c.device_of_sender.ensures ∙ ap Some c.if-device_of_sender-device.false) c.requires.few

pub replay_pull-requires-clause-can : goal.replay_pull-requires-clause-can
replay_pull-requires-clause-can g c =
    let to_do = subst (IsToDo (names_of c.args.again.now.setup)) c.in-Pull.is c.requires.to_do in
    subst (λ d. CanPull c.args.again.now d c.ticks.result) c.if-asked-device.false
    (subst (CanPull c.args.again.now c.in-Pull.asked) (sym c.ticks.ensures)
    (can-pull-there c.args.again.now c.in-Pull.asked c.in-Pull.moment to_do.0 to_do.1 (subst (λ d. length (events_of c.args.again.now d) ≤ MAX_LINES) (sym c.if-asked-device.false) c.requires.few)))

pub returns-else-device_of_sender-device : goal.returns-else-device_of_sender-device
returns-else-device_of_sender-device g c = search (rules, carried-offer, asked-send, sends-there)

pub returns-then-device_of_sender-device : goal.returns-then-device_of_sender-device
returns-then-device_of_sender-device g c = search (rules, carried-none, asked-elsewhere)

pub returns-then-asked-device : goal.returns-then-asked-device
returns-then-asked-device g c = search (rules, carried-none, pull-elsewhere)
