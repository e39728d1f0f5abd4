use Rattle.std.proofs.Common.{rules}
use Rattle.std.proofs.lemmas.List.Sorted.{answers_always}
use Rattle.clk_drain.proofs.Leaves.AtLeaf.{place-found, not-found}
use Rattle.clk_drain.proofs.at_leaf.place_of.Goals as goal

pub returns-in-Ok : goal.returns-in-Ok
returns-in-Ok g c = place-found g.L.AtLeaf.leaf c.args.each.now c.args.leaf c.in-Ok.place c.in-Ok.ensures.bound (c.in-Ok.ensures.position g.L.AtLeaf.leaf (answers_always _ _ _ (λ f a r h called. search rules)))

pub returns-in-Err : goal.returns-in-Err
returns-in-Err g c = not-found g.L.AtLeaf.leaf c.args.each.now c.args.leaf _ c.requires (c.in-Err.ensures.position g.L.AtLeaf.leaf (answers_always _ _ _ (λ f a r h called. search rules)))
