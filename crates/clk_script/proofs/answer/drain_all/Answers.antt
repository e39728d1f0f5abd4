use Rattle.std.proofs.Common.{◌+◌, [], ◌∷◌, ap, subst, sym, ◌∙◌, arith}
use Rattle.std.proofs.lemmas.List.{map-append}
use Rattle.clk_report.specs.Devices.{lists_of}
use Rattle.clk_script.proofs.Carrying.DrainLemmas.{IsClosedTo, IsClosedTo-none, IsClosedTo-can, IsClosedTo-more, all-closed}
use Rattle.clk_script.proofs.answer.drain_all.Goals as goal

pub loop-alloc-init : goal.loop-alloc-init
loop-alloc-init c = IsClosedTo-none c.args.script_router.now c.args.moment (lists_of c.new-closings.result.items) (ap lists_of c.new-closings.ensures.items) c.requires.ready.alike

pub drain-requires : goal.drain-requires
drain-requires c = record {
  alike = c.loop-alloc.invariant.alike;
  can =
      IsClosedTo-can c.args.script_router.now c.loop-alloc.script_router c.args.moment (lists_of c.loop-alloc.closings.items) c.loop-alloc.device c.loop-alloc.invariant c.requires.ready c.requires.moment (omega arith);
}

pub loop-alloc-preserved : goal.loop-alloc-preserved
loop-alloc-preserved c =
    let before = c.loop-alloc.closings.items in
    let departures = c.in_ok-drain.field-0 in
    subst (λ l. IsClosedTo c.args.script_router.now c.drain.new.self c.args.moment l (c.loop-alloc.device + 1))
    (sym (ap lists_of c.in_ok-push.ensures.items ∙ map-append (λ l. l.items) before (departures ∷ [])))
    (IsClosedTo-more c.args.script_router.now c.loop-alloc.script_router c.drain.new.self c.args.moment (lists_of before) c.loop-alloc.device departures.items c.loop-alloc.invariant (omega arith)
    c.in_ok-drain.ensures.elsewhere c.in_ok-drain.ensures.setup c.in_ok-drain.ensures.given c.in_ok-drain.ensures.keeps c.in_ok-drain.ensures.alike c.in_ok-drain.ensures.leads)

pub returns-clause-closed : goal.returns-clause-closed
returns-clause-closed c = all-closed c.args.script_router.now _ c.args.moment (lists_of c.loop-alloc.closings.items) c.loop-alloc.device c.loop-alloc.invariant (omega arith)
