use Rattle.std.proofs.Common.{rules}
use Rattle.std.proofs.lemmas.List.{length-map}
use Rattle.std.proofs.lemmas.Option.{slice_get_read}
use Rattle.clk_router.proofs.AskLemmas.{path-within, device-is}
use Rattle.clk_router.proofs.router.Router.device_of_sender.Goals as goal

pub index-requires-2 : goal.index-requires-2
index-requires-2 c = search (rules, length-map, slice_get_read, path-within)

pub returns : goal.returns
returns c = search (rules, length-map, slice_get_read, device-is)
