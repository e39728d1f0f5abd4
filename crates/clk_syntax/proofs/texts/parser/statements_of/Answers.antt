use Rattle.std.proofs.Common.{sym, subst, rules}
use Rattle.std.specs.List.{AllByRecursion}
use Rattle.clk_syntax.specs.Within.{IsDeclaredWithin, IsConnectedWithin}
use Rattle.clk_syntax.proofs.Parsing.TextLemmas.{none-read, more-read, all-read, ended-shorter}
use Rattle.clk_syntax.proofs.Parsing.WithinLemmas.{declared-within, connected-within}
use Rattle.clk_syntax.proofs.texts.parser.statements_of.Goals as goal

pub loop-left-init : goal.loop-left-init
loop-left-init c = none-read _ _ c.in_ok-with_capacity.ensures.items c.in_ok-with_capacity-2.ensures.items

pub loop-left-preserved : goal.loop-left-preserved
loop-left-preserved c = more-read c.loop-left.invariant (search rules) c.in_ok-left.ensures.read

pub loop-left-smaller : goal.loop-left-smaller
loop-left-smaller c = ended-shorter (search rules) c.in_ok-left.ensures.read

pub returns-clause-read : goal.returns-clause-read
returns-clause-read c =
    let all = all-read c.loop-left.invariant (search rules) in
    (all.statements, all.text, all.declares, all.connects)

pub returns-clause-declared_within : goal.returns-clause-declared_within
returns-clause-declared_within c =
    let all = all-read c.loop-left.invariant (search rules) in
    subst (AllByRecursion (IsDeclaredWithin c.args.end)) (sym all.declares) (declared-within _ _ _ all.text c.requires.within)

pub returns-clause-connected_within : goal.returns-clause-connected_within
returns-clause-connected_within c =
    let all = all-read c.loop-left.invariant (search rules) in
    subst (AllByRecursion (IsConnectedWithin c.args.end)) (sym all.connects) (connected-within _ _ _ all.text c.requires.within)
