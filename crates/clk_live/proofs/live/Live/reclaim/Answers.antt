use Rattle.std.proofs.Common.{map, subst}
use Rattle.std.specs.List.{flat_map}
use Rattle.clk_inlet.specs.Halves.{taken}
use Rattle.clk_live.specs.State.{LiveState, seen}
use Rattle.clk_live.specs.Reclaiming.{AreTokensInside}
use Rattle.clk_live.specs.inside.Buffers.{buffer_items}
use Rattle.clk_live.proofs.Reclaims.{all-tokens}
use Rattle.clk_live.proofs.live.Live.reclaim.Goals as goal

pub returns : goal.returns
returns c = subst (λ (l : LiveState). AreTokensInside (seen l) (flat_map buffer_items c.self.inside.tokens.items)) c.self.view_is (all-tokens c.self.inside.router (map taken c.self.inside.outlets.items) c.self.inside.tokens.items c.self.invariant)
