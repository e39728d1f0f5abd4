use Rattle.std.proofs.Common.{rules, ◌≡◌, List, map, refl, sym, ap, ◌∙◌, subst}
use Rattle.std.specs.List.{AllZip}
use Rattle.clk_inlet.specs.Halves.{pushed, offered, AreHalves}
use Rattle.clk_inlet.specs.declared.inlet.Inlet.{Inlet}
use Rattle.clk_inlet.specs.declared.item.Item.{Item}
use Rattle.clk_live.specs.Outcome.{IsLiveOutcome}
use Rattle.clk_live.proofs.Callers.Halves.{all_go_on, offered_same}
use Rattle.clk_live_tests.specs.declared.returning.Sender.{Sender}
use Rattle.clk_live.proofs.Callers.Sending.{come_back, all_offered}
use Rattle.clk_live_tests.proofs.returning.send_and_settle.Goals as goal

abbrev inlet_of : Sender → Inlet
inlet_of s = s.inlet

abbrev packets_of : Sender → List Item
packets_of s = s.packets.items

pub is_settled-requires : goal.is_settled-requires
is_settled-requires g c =
    let ended = c.in_ok-live.field-0 in
    let back = come_back inlet_of packets_of c.args.senders.items ended.inlets.items c.args.live.outlets c.requires.halves c.in_ok-live.ensures.sent in
    record { halves = subst (λ (inlets : List Inlet). AllZip AreHalves inlets ended.live.outlets) (sym c.as_mut_slice.ensures.value) (all_go_on ended.inlets.items c.args.live.outlets ended.live.outlets back c.in_ok-live.ensures.outlets) }

pub returns : goal.returns
returns g c =
    let ended = c.in_ok-live.field-0 in
    let pushed_so : map pushed c.is_settled.new.inlets ≡ map pushed c.as_mut_slice.result.now = search rules in
    let same : map offered c.is_settled.new.inlets ≡ map packets_of c.args.senders.items =
    offered_same c.as_mut_slice.result.now c.is_settled.new.inlets pushed_so
    ∙ ap (λ (inlets : List Inlet). map offered inlets) c.as_mut_slice.ensures.value
    ∙ all_offered inlet_of packets_of c.args.senders.items ended.inlets.items c.requires.none c.in_ok-live.ensures.sent in
    record {
      outcome = subst (λ (sent : List (List Item)). IsLiveOutcome c.is_settled.new.self.course sent) same (c.if-not-is_settled.ensures.outcome refl);
      taken = c.if-not-is_settled.ensures.taken refl ∙ same;
    }
