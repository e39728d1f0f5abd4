-- Which packets stand in a list, and how often.
use Rattle.std.proofs.Common.{◌≡◌, ℕ, ◌<◌, ◌≤◌, true, false, List, [], ◌∷◌, ◌++◌, refl, ⊎_elim, inr, ◌⊎◌, arith, rules}
use Rattle.std.specs.List.{flat_map, AllByRecursion}
use Rattle.clk_packet.specs.declared.packet.Packet.{Packet}
use Rattle.clk_packet.specs.Lists.{of_sender, In, AreRising}
use Rattle.clk_ruled.specs.PacketLists.{packet_numbers, is_packet, has_packet, IsOnceEach}
use Rattle.clk_ruled.proofs.Counts.{count}

pub in-left : (p : Packet) (a b : List Packet) → In p a → In p (a ++ b)
in-left p [] b i = absurd i
in-left p (q ∷ a) b i = search (rules, (in-left p a b))

pub in-right : (p : Packet) (a b : List Packet) → In p b → In p (a ++ b)
in-right p [] b i = i
in-right p (q ∷ a) b i = inr (in-right p a b i)

pub in-either : (p : Packet) (a b : List Packet) → In p (a ++ b) → In p a ⊎ In p b
in-either p [] b i = inr i
in-either p (q ∷ a) b i = search (rules, (in-either p a b))

-- a packet of one of the lists
pub in-some : (f : ℕ → List Packet) (p : Packet) (keys : List ℕ) → In p (flat_map f keys) → (s : ℕ) × In p (f s)
in-some f p [] i = absurd i
in-some f p (s ∷ keys) i = ⊎_elim (λ j. (s, j)) (λ j. in-some f p keys j) (in-either p (f s) (flat_map f keys) i)

-- a packet is among those of its sender
pub in-own : (p : Packet) (l : List Packet) → In p l → In p (of_sender p.sender l)
in-own p [] i = absurd i
in-own p (q ∷ l) i = search (rules, (in-own p l))

pub in-counts : (p : Packet) (l : List Packet) → In p l → 1 ≤ count (is_packet p) l
in-counts p [] i = absurd i
in-counts p (q ∷ l) i = search (rules, (in-counts p l))

-- whether a packet stands in a list, by how often it does
pub has-none : (p : Packet) (l : List Packet) → count (is_packet p) l ≤ 0 → has_packet l p ≡ false
has-none p [] h = refl
has-none p (q ∷ l) h = search (rules, (has-none p l))

pub has-some : (p : Packet) (l : List Packet) → 1 ≤ count (is_packet p) l → has_packet l p ≡ true
has-some p [] h = absurd (omega (arith, h))
has-some p (q ∷ l) h = search (rules, (has-some p l))

pub once-each : (l : List Packet) → ((p : Packet) → count (is_packet p) l ≤ 1) → IsOnceEach l
once-each [] few = tt
once-each (p ∷ l) few = search (rules, has-none, (once-each l))

above-none : (p : Packet) (n : ℕ) (l : List Packet) → p.number ≤ n → AllByRecursion (λ m. n < m) (packet_numbers l) → count (is_packet p) l ≡ 0
above-none p n [] le h = refl
above-none p n (q ∷ l) le h = search (rules, (above-none p n l le h.1))

rising-once : (p : Packet) (l : List Packet) → AreRising (packet_numbers l) → count (is_packet p) l ≤ 1
rising-once p [] h = omega arith
rising-once p (q ∷ l) h = search (rules, above-none, (rising-once p l h.1))

own-counts : (p : Packet) (l : List Packet) → count (is_packet p) l ≡ count (is_packet p) (of_sender p.sender l)
own-counts p [] = refl
own-counts p (q ∷ l) = search (rules, (own-counts p l))

-- Where the numbers of each sender rise, each packet is there once.
pub each-once : (l : List Packet) → ((s : ℕ) → AreRising (packet_numbers (of_sender s l))) → (p : Packet) → count (is_packet p) l ≤ 1
each-once l rises p = search (rules, rising-once, own-counts)
