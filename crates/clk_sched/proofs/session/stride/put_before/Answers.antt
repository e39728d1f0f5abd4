use Rattle.std.proofs.lemmas.Bool.Decides.{nat_tests}
use Rattle.std.proofs.lemmas.Grind.{common_steps, elements}
use Rattle.std.proofs.Common.{◌+◌, ◌∙◌, sym, arith, rules}
use Rattle.std.proofs.lemmas.List.{get_or-set_same, length-set}
use Rattle.std.proofs.lemmas.Option.{slice_get-get_or, slice_get_within}
use Rattle.clk_sched.proofs.Classes.RankLemmas.{put-next}
use Rattle.clk_sched.proofs.session.stride.put_before.Goals as goal

pub returns-then-is_up_to-clause-put : goal.returns-then-is_up_to-clause-put
returns-then-is_up_to-clause-put c = put-next c.args.rank c.args.next c.args.row.now c.args.from c.requires (sym c.is_up_to.ensures ∙ c.if-is_up_to.true)

pub returns-then-is_up_to-clause-first : goal.returns-then-is_up_to-clause-first
returns-then-is_up_to-clause-first c = grind (arith, common_steps, elements, nat_tests, slice_get_within, length-set, slice_get-get_or, get_or-set_same)

pub put_behind-requires : goal.put_behind-requires
put_behind-requires c = let within = slice_get_within c.args.row.now (c.args.from + 1) c.args.next c.requires in omega (arith, within)

pub returns-clause-first : goal.returns-clause-first
returns-clause-first c = search (rules, slice_get_within, slice_get-get_or)
