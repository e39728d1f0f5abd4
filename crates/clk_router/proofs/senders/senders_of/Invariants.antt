use Rattle.std.proofs.Common.{◌≡◌, map, take}
use Rattle.clk_router.specs.inside.Parts.{sender_made}
use Rattle.clk_router.proofs.senders.senders_of.Given as goal

abbrev pub invariant-loop-spec : goal.invariant-loop-spec
invariant-loop-spec l = l.senders.items ≡ map sender_made (take l.spec-index l.specs)
