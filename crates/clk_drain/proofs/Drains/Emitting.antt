-- What a drain gives is what is emitted in it.
use Rattle.std.proofs.Common.{◌≡◌, ℕ, ◌+◌, List, [], ◌∷◌, ◌++◌, length, map, Option, refl, rules}
use Rattle.std.specs.List.{AllByRecursion, flat_map, cons_option}
use Rattle.std.proofs.lemmas.List.{length-append}
use Rattle.clk_packet.specs.declared.packet.Packet.{Packet}
use Rattle.clk_sched.specs.declared.visit.Visit.{Visit}
use Rattle.clk_sched.specs.Log.{pulls, turn}
use Rattle.clk_sched.specs.Laws.Device.{IsDeviceTurn}
use Rattle.clk_sched.specs.Results.{emitted}
use Rattle.clk_sched.proofs.Callers.Emitted.{emitted-append}
use Rattle.clk_sched.specs.Session.{Progress, IsDrained, given_in}

-- The turns of the device in these pulls are in order.
abbrev AreInOrder : List (List Visit) → Type 0
AreInOrder pulls = AllByRecursion IsDeviceTurn (map (turn 0) pulls)

later-in_order : (some more : List (List Visit)) → AreInOrder (some ++ more) → AreInOrder more
later-in_order [] more h = h
later-in_order (pull ∷ some) more h = later-in_order some more h.1

one-more : (o : Option Packet) (given out : List Packet) → length out ≡ length given → length (cons_option o [] ++ out) ≡ length (cons_option o given)
one-more o given out e = search rules

-- As many packets are given in some pulls as are emitted in them.
given-emitted : (more : List (List Visit)) → AreInOrder more → length (emitted (flat_map (λ pull. pull) more)) ≡ length (given_in more)
given-emitted [] h = refl
given-emitted (pull ∷ more) h = search (rules, emitted-append, one-more, (given-emitted more h.1))

pub emitted-more : (old new : Progress) (moment made given : ℕ) → IsDrained old new moment made given → length (emitted new.log) ≡ length (emitted old.log) + given
emitted-more old new moment made given h = search (rules, emitted-append, length-append, given-emitted, later-in_order)
