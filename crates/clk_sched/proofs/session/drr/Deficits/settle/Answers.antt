use Rattle.std.proofs.Common.{refl, sym, ◌∙◌, rules}
use Rattle.clk_sched.specs.inside.Holds.Served.{covers, settled}
use Rattle.clk_sched.proofs.Classes.Deficits.{row-read, settled-within, deficits-cover, deficits-passed, deficits-moved-on}
use Rattle.clk_sched.proofs.session.drr.Deficits.settle.Goals as goal

pub returns-then-not-passed-clause-holds : goal.returns-then-not-passed-clause-holds
returns-then-not-passed-clause-holds c quanta inputs before v holds at got passed =
    let d = c.args.self.now in
    let s = c.index-row-from.result in
    let read = row-read d.row.items c.as_mut_slice-row.result.now d.cursor c.from.result s c.as_mut_slice-row.ensures.value c.from.ensures d.cursor_within c.index-row-from.is in
    let covered = c.settle-passed.ensures.covers ∙ (λ j. covers (sym c.index-row-from.is j) (sym got j)) in
    let after = c.settle-passed.ensures.after ∙ (λ j. settled (sym c.index-row-from.is j) (sym got j)) in
    let written = settled-within d.row c.as_mut_slice-row.result.now c.from.result d.cursor c.settle-passed.new.self (settled s v.got) c.as_mut_slice-row.ensures.value c.from.ensures after in
    deficits-moved-on quanta inputs before v d c.move_on.new.self _ s holds read at (passed ∙ covered) (passed ∙ c.if-not-passed.true) written c.move_on.ensures.cursor c.move_on.ensures.length c.move_on.ensures.row

pub returns-else-not-passed-clause-holds : goal.returns-else-not-passed-clause-holds
returns-else-not-passed-clause-holds c quanta inputs before v holds at got passed =
    let d = c.args.self.now in
    let s = c.index-row-from.result in
    let read = row-read d.row.items c.as_mut_slice-row.result.now d.cursor c.from.result s c.as_mut_slice-row.ensures.value c.from.ensures d.cursor_within c.index-row-from.is in
    let covered = c.settle-passed.ensures.covers ∙ (λ j. covers (sym c.index-row-from.is j) (sym got j)) in
    let after = c.settle-passed.ensures.after ∙ (λ j. settled (sym c.index-row-from.is j) (sym got j)) in
    let written = settled-within d.row c.as_mut_slice-row.result.now c.from.result d.cursor c.settle-passed.new.self (settled s v.got) c.as_mut_slice-row.ensures.value c.from.ensures after in
    deficits-passed quanta inputs before v d _ s holds read at (passed ∙ covered) (passed ∙ c.if-not-passed.false) refl written

pub returns-then-not-passed-clause-covered : goal.returns-then-not-passed-clause-covered
returns-then-not-passed-clause-covered c quanta inputs before holds = search (rules, row-read, deficits-cover)

pub returns-else-not-passed-clause-covered : goal.returns-else-not-passed-clause-covered
returns-else-not-passed-clause-covered c quanta inputs before holds = search (rules, row-read, deficits-cover)
