-- On which line a sender has its seat.
use Rattle.std.proofs.Common.{◌≡◌, ℕ, ◌⊎◌, inl, inr, true, true≢false, List, [], ◌∷◌, ◌++◌, map, Option, Some, None, MatchOption, refl, sym, ◌∙◌, rules, arith}
use Rattle.std.proofs.lemmas.Grind.{common_steps}
use Rattle.std.proofs.lemmas.Bool.Decides.{nat_tests}
use Rattle.std.specs.List.{AllByRecursion}
use Rattle.std.proofs.lemmas.List.{map-append}
use Rattle.clk_packet.specs.declared.packet.Packet.{Packet}
use Rattle.clk_packet.specs.Lists.{In, stands_in}
use Rattle.clk_ruled.specs.Queue.{SeatLists}
use Rattle.clk_sched.specs.declared.visit.Visit.{Visit}
use Rattle.clk_sched.specs.Tree.{Tree, root, leaves}
use Rattle.clk_sched.specs.Results.{Traced, leaf_packets}
use Rattle.clk_sched.specs.Conservation.{CameFrom}
use Rattle.clk_sched.specs.Session.{Progress}
use Rattle.clk_drain.specs.Line.{LineLists, leaves_of, seats_of, seats_in, senders_at, AreLinesOf, HaveOwnSenders}
use Rattle.clk_drain.specs.inside.Parts.{IsSettledLine}
use Rattle.clk_packet.proofs.Callers.Lists.{stands-left, stands-right}
use Rattle.clk_drain.proofs.Plans.Apart.{not-both, apart-parts}

-- the senders that have seats on a line
abbrev pub line_senders : LineLists → List ℕ
line_senders l = senders_at (seats_of l)

pub joined : (l : LineLists) (lines : List LineLists) → senders_at (seats_in (l ∷ lines)) ≡ line_senders l ++ senders_at (seats_in lines)
joined l lines = search (rules, map-append)

-- The sender has a seat on a line of this leaf.
abbrev pub Sits : ℕ → ℕ → List LineLists → Type 0
Sits s q [] = ⊥
Sits s q (l ∷ lines) = ((l.leaf ≡ q) × (stands_in s (line_senders l) ≡ true)) ⊎ Sits s q lines

pub sits-has : (s q : ℕ) (lines : List LineLists) → Sits s q lines → stands_in s (senders_at (seats_in lines)) ≡ true
sits-has s q [] h = absurd h
sits-has s q (l ∷ lines) (inl h) = search (rules, joined, stands-left)
sits-has s q (l ∷ lines) (inr h) = search (rules, joined, stands-right, (sits-has s q lines h))

-- A sender has seats on lines of one leaf alone.
pub one-leaf : (s q r : ℕ) (lines : List LineLists) → HaveOwnSenders lines → Sits s q lines → Sits s r lines → q ≡ r
one-leaf s q r [] own h k = absurd h
one-leaf s q r (l ∷ lines) own o x = search (rules, not-both, joined, sits-has, apart-parts, (one-leaf s q r lines))

-- the senders that a queue was opened with are those of its seats
rooms-senders : (seats : List SeatLists) → map (λ (r : ℕ × ℕ). r.0) (map (λ (l : SeatLists). (l.sender, l.room)) seats) ≡ senders_at seats
rooms-senders [] = refl
rooms-senders (l ∷ seats) = search (rules, (rooms-senders seats))

-- What a settled line's tap took is of the line's senders.
knows-taken : (l : LineLists) (p : Packet) → IsSettledLine l → In p l.tap.taken → stands_in p.sender (line_senders l) ≡ true
knows-taken l p line h = search (rules, rooms-senders)

abbrev pub HaveTaken : Tree → List Visit → List LineLists → Type 0
HaveTaken tree log lines = AllByRecursion (λ (l : LineLists). l.tap.taken ≡ leaf_packets tree l.leaf log) lines

-- The sender of what a leaf gave has a seat on a line of that leaf.
given-sits : (tree : Tree) (log : List Visit) (q : ℕ) (p : Packet) (lines : List LineLists) → HaveTaken tree log lines → AllByRecursion IsSettledLine lines
    → stands_in q (leaves_of lines) ≡ true → In p (leaf_packets tree q log) → Sits p.sender q lines
given-sits tree log q p [] taken settled stands h = absurd (true≢false (sym stands))
given-sits tree log q p (l ∷ lines) taken settled stands h = grind (arith, common_steps, nat_tests, knows-taken, (given-sits tree log q p lines taken.1 settled.1))

-- A packet came from a queue on whose line its sender has a seat.
abbrev pub CameOver : List LineLists → Traced → Type 0
CameOver lines t = MatchOption t.1 ⊥ (λ q. Sits t.0.sender q lines)

pub came-over : (session : Progress) (lines : List LineLists) → AreLinesOf session lines → AllByRecursion IsSettledLine lines
    → (ts : List Traced) → AllByRecursion (CameFrom session.tree session.log (root session.tree)) ts → AllByRecursion (CameOver lines) ts
came-over session lines are settled [] h = tt
came-over session lines are settled (t ∷ ts) h = (by_origin t.1 t.0 h.0, came-over session lines are settled ts h.1)
  where
    by_origin : (o : Option ℕ) (p : Packet) → MatchOption o ⊥ (λ q. (stands_in q (leaves (root session.tree)) ≡ true) × In p (leaf_packets session.tree q session.log))
        → MatchOption o ⊥ (λ q. Sits p.sender q lines)
    by_origin None p k = k
    by_origin (Some q) p k = given-sits session.tree session.log q p lines are.taken settled (are.leaves q ∙ k.0) k.1
