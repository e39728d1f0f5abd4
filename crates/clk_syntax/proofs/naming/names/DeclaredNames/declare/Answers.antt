use Rattle.std.proofs.Common.{◌≡◌, ◌∙◌, false, sym}
use Rattle.std.specs.Str.{bytes_eq}
use Rattle.clk_syntax.specs.inside.Naming.{place_else}
use Rattle.clk_syntax.proofs.Elements.MixedLemmas.{updates-name}
use Rattle.clk_syntax.proofs.Elements.SlotLemmas.{slot-taken, else-found, else-slotted}
use Rattle.clk_syntax.proofs.naming.names.DeclaredNames.declare.Goals as goal

pub returns-in_ok-earlier-in-Some-clause-placed : goal.returns-in_ok-earlier-in-Some-clause-placed
returns-in_ok-earlier-in-Some-clause-placed c =
    let names = c.args.self.now in
    let name = c.args.name.now in
    let taken = slot-taken names.slots.items name c.mixed-number.result c.len.result _ c.index.result.now (c.in-Some.known, c.in-Some.field-0-1) c.index.ensures c.mixed-number.ensures c.len.ensures names.slots.ok.0 names.some c.in-Some.is in
    let unlike : bytes_eq c.in-Some.known.now name ≡ false = sym c.eq.ensures ∙ c.if-eq.false in
    else-found names.slots.items (c.in-Some.known, c.in-Some.field-0-1) name names.count (place_else names) _ taken
    (updates-name names.more c.insert.new.self (c.mixed-number.result, c.args.name) _ c.mixed-number.ensures c.in_ok-earlier-in-Some.ensures.updates) unlike

pub returns-in_ok-earlier-in-Some-clause-slots : goal.returns-in_ok-earlier-in-Some-clause-slots
returns-in_ok-earlier-in-Some-clause-slots c =
    let names = c.args.self.now in
    let name = c.args.name.now in
    let taken = slot-taken names.slots.items name c.mixed-number.result c.len.result _ c.index.result.now (c.in-Some.known, c.in-Some.field-0-1) c.index.ensures c.mixed-number.ensures c.len.ensures names.slots.ok.0 names.some c.in-Some.is in
    else-slotted names.slots.items (c.in-Some.known, c.in-Some.field-0-1) name names.count (place_else names) _ taken
    (updates-name names.more c.insert.new.self (c.mixed-number.result, c.args.name) _ c.mixed-number.ensures c.in_ok-earlier-in-Some.ensures.updates) c.requires.slots
