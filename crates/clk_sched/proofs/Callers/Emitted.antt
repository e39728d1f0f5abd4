-- What came out at the device.
use Rattle.std.proofs.Common.{◌≡◌, List, [], ◌∷◌, ◌++◌, Option, None, if◌then◌else◌, rules}
use Rattle.std.specs.List.{filter_map, cons_option}
use Rattle.std.proofs.lemmas.List.Elements.{filter-append, filter_map-append}
use Rattle.clk_packet.specs.declared.packet.Packet.{Packet}
use Rattle.clk_sched.specs.declared.visit.Visit.{Visit}
use Rattle.clk_sched.specs.Log.{result_of}
use Rattle.clk_sched.specs.Turns.{UpToFirst}
use Rattle.clk_sched.specs.Results.{emitted}

abbrev pub passed : Visit → Option Packet
passed v = if v.passed then v.got else None

-- what came out by two parts of a log
pub emitted-append : (some more : List Visit) → emitted (some ++ more) ≡ emitted some ++ emitted more
emitted-append some more = search (rules, filter-append, filter_map-append)

-- Of the device's visits in one pull, one at most passes a packet, and it is the result.
pub result-passed : (visits : List Visit) → UpToFirst (0 ∷ []) visits → filter_map passed visits ≡ cons_option (result_of visits) []
result-passed visits h = search rules
