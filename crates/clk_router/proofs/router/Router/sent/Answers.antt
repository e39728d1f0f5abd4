use Rattle.std.proofs.Common.{rules}
use Rattle.std.proofs.lemmas.List.{length-map}
use Rattle.std.proofs.lemmas.Option.{slice_get_read}
use Rattle.clk_router.proofs.AskLemmas.{sent-by}
use Rattle.clk_router.proofs.router.Router.sent.Goals as goal

pub returns : goal.returns
returns c sender at = search (rules, length-map, slice_get_read, sent-by)
