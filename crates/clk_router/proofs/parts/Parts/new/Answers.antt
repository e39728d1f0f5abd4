use Rattle.std.proofs.Common.{map}
use Rattle.clk_tree.specs.PlanParts.{queued}
use Rattle.clk_router.specs.declared.parts.Parts.{Parts}
use Rattle.clk_router.proofs.PartsLemmas.{IsAt-made}
use Rattle.clk_router.proofs.parts.Parts.new.Goals as goal

pub returns-clause-at : goal.returns-clause-at
returns-clause-at c =
    let parts : Parts = record {
      devices = c.in_ok-devices_of.field-0;
      queues = c.in_ok-new.field-0;
      paths = c.in_ok-paths_of.field-0;
      senders = c.in_ok-senders_of.field-0;
      numbers = c.in_ok-numbers_of.field-0;
      keeps = c.args.keeps;
    } in
    λ names. IsAt-made c.calls_are_history.ensures names c.args.trees.items (map queued c.args.queues.now) c.args.senders.now parts (λ tree. (c.runs_go_on.ensures tree).start) c.in_ok-devices_of.ensures.made c.in_ok-new.ensures.made
    c.in_ok-paths_of.ensures.made c.in_ok-senders_of.ensures.made c.in_ok-numbers_of.ensures.made
