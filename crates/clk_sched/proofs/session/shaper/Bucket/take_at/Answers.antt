use Rattle.std.proofs.Common.{Some, refl, ap, ◌∙◌, rules}
use Rattle.clk_sched.proofs.Nodes.Asked.{entry}
use Rattle.clk_sched.proofs.session.shaper.Bucket.take_at.Goals as goal

pub returns-in-Shaper : goal.returns-in-Shaper
returns-in-Shaper c =
    let a = c.args.nodes.now in
    record {
      bucket = c.in-Shaper.bucket;
      left = c.take.new.self;
      held = entry a.states.items c.args.node c.index_mut.result.now c.requires.there c.index_mut.ensures.value ∙ ap Some c.in-Shaper.is;
      is = refl;
      tells = c.take.ensures.room;
      taken = c.take.ensures.taken;
    }

pub returns-in_default : goal.returns-in_default
returns-in_default c = search (rules, entry)
