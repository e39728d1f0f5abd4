-- How seats are given one after another.
use Rattle.std.proofs.Common.{◌≡◌, ℕ, ◌-◌, ◌≤◌, ◌<◌, List, [], ◌∷◌, ◌++◌, length, take, drop, slice_index_or, refl, arith, rules}
use Rattle.std.proofs.lemmas.Grind.{common_steps}
use Rattle.std.specs.List.{AllByRecursion}
use Rattle.atomic_table.specs.Seated.{TableId}
use Rattle.clk_ruled.specs.declared.view.QueueSetup.{QueueSetup}
use Rattle.clk_ruled.specs.declared.view.View.{View}
use Rattle.clk_packet.specs.Lists.{AreRising}
use Rattle.clk_ruled.specs.Rooms.{named_in}
use Rattle.clk_ruled.specs.Queue.{SeatLists, empty_seat}
use Rattle.clk_ruled.specs.inside.Rule.{tap_view}
use Rattle.clk_ruled.specs.inside.Parts.{AreFree, AreRoomed, IsSeated}

free-more : (s : ℕ) (given : List ℕ) (rest : List (ℕ × ℕ)) → AllByRecursion (λ m. s < m) (named_in rest) → AreFree given rest → AreFree (s ∷ given) rest
free-more s given [] above h = tt
free-more s given (r ∷ rest) above h = search (rules, (free-more s given rest above.1 h.1))

pub free-all : (rooms : List (ℕ × ℕ)) → AreFree [] rooms
free-all [] = tt
free-all (r ∷ rooms) = (refl, free-all rooms)

roomed-more : (r : ℕ × ℕ) (rooms rest : List (ℕ × ℕ)) → AllByRecursion (λ m. r.0 < m) (named_in rest) → AreRoomed rooms rest → AreRoomed (r ∷ rooms) rest
roomed-more r rooms [] above h = tt
roomed-more r rooms (x ∷ rest) above h = search (rules, (roomed-more r rooms rest above.1 h.1))

pub roomed-all : (rooms : List (ℕ × ℕ)) → AreRising (named_in rooms) → AreRoomed rooms rooms
roomed-all [] h = tt
roomed-all (r ∷ rooms) h = search (rules, roomed-more, (roomed-all rooms h.1))

pub seated-more : (setup : QueueSetup) (id : TableId) (v w : View) (seats more : List SeatLists) (r : ℕ × ℕ) (rest : List (ℕ × ℕ)) → IsSeated setup id v seats (r ∷ rest)
    → w ≡ tap_view v.setup v.taken (r.0 ∷ v.given) v.gathered → more ≡ seats ++ empty_seat id v.setup r ∷ [] → IsSeated setup id w more rest
seated-more setup id v w seats more r rest h is made = grind (arith, common_steps, free-more)

-- the same of the first of the rest
pub seated-step : (setup : QueueSetup) (id : TableId) (v w : View) (seats more : List SeatLists) (rest : List (ℕ × ℕ)) (n : ℕ) (d : ℕ × ℕ) → 1 ≤ length rest → n ≡ length rest - 1 → IsSeated setup id v seats rest
    → w ≡ tap_view v.setup v.taken ((slice_index_or rest 0 d).0 ∷ v.given) v.gathered → more ≡ seats ++ empty_seat id v.setup ((slice_index_or rest 0 d).0, (slice_index_or rest 0 d).1) ∷ [] → IsSeated setup id w more (take n (drop 1 rest))
seated-step setup id v w seats more [] n d some count h is made = absurd (omega arith)
seated-step setup id v w seats more (r ∷ rest) n d some count h is made = grind (arith, common_steps, (seated-more setup id v w seats more r rest h is made))

-- no seat is given yet
pub seated-first : (setup : QueueSetup) (id : TableId) (v : View) → v ≡ tap_view setup [] [] [] → 1 ≤ setup.capacity → AreRising (named_in setup.rooms) → IsSeated setup id v [] setup.rooms
seated-first setup id v is some rise = search (rules, free-all, roomed-all)
