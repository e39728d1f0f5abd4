-- How many packets of a list pass a test, as what went out is shared out.
use Rattle.std.proofs.Common.{◌≡◌, ℕ, ◌+◌, ◌==◌, Bool, true, false, List, [], ◌∷◌, ◌++◌, length, refl, arith, if◌then◌else◌, rules}
use Rattle.std.proofs.lemmas.Grind.{common_steps}
use Rattle.std.proofs.lemmas.Bool.Decides.{nat_tests}
use Rattle.std.specs.List.{flat_map}
use Rattle.clk_packet.specs.declared.packet.Packet.{Packet}
use Rattle.clk_packet.specs.Lists.{stands_in, are_distinct}
use Rattle.clk_ruled.specs.Rule.{Out, to_puller, put_out, went_out, taken_in, evicted_by}

-- the packets that were put out, for any seat
abbrev pub put_out_in : List Out → List Packet
put_out_in [] = []
put_out_in (to_puller p ∷ gone) = put_out_in gone
put_out_in (put_out e p ∷ gone) = p ∷ put_out_in gone

abbrev pub one_if : Bool → ℕ
one_if b = if b then 1 else 0

abbrev pub count : (Packet → Bool) → List Packet → ℕ
count f [] = 0
count f (p ∷ packets) = one_if (f p) + count f packets

pub count-append : (f : Packet → Bool) (a b : List Packet) → count f (a ++ b) ≡ count f a + count f b
count-append f [] b = omega arith
count-append f (p ∷ a) b = let e = count-append f a b in omega (arith, e)

pub length-count : (l : List Packet) → length l ≡ count (λ _. true) l
length-count [] = refl
length-count (p ∷ l) = let e = length-count l in omega (arith, e)

-- What went out and what is held: what was taken, what was put out, what is held.
pub count-all : (f : Packet → Bool) (gone : List Out) (held : List Packet) → count f (went_out gone ++ held) ≡ count f (taken_in gone) + count f (put_out_in gone) + count f held
count-all f [] held = omega arith
count-all f (o ∷ gone) held = search (rules, (count-all f gone held))

pub true-eq : (m n : ℕ) → (m == n) ≡ true → m ≡ n
true-eq m n e = grind (arith, nat_tests, e)

put-out-more : (f : Packet → Bool) (e : ℕ) (p : Packet) (gone : List Out) (senders : List ℕ) → are_distinct senders ≡ true
    → count f (flat_map (λ s. evicted_by s (put_out e p ∷ gone)) senders) ≡ (if stands_in e senders then one_if (f p) else 0) + count f (flat_map (λ s. evicted_by s gone) senders)
put-out-more f e p gone [] d = refl
put-out-more f e p gone (t ∷ senders) d = grind (arith, common_steps, nat_tests, count-append, true-eq, (put-out-more f e p gone senders))

-- only senders of the queue put something out
abbrev pub KnowsEach : List ℕ → List Out → Type 0
KnowsEach senders gone = (s : ℕ) → stands_in s senders ≡ false → evicted_by s gone ≡ []

none-out : (f : Packet → Bool) (senders : List ℕ) → count f (flat_map (λ s. evicted_by s []) senders) ≡ 0
none-out f [] = refl
none-out f (s ∷ senders) = none-out f senders

-- What the seats put out, sender by sender, is what was put out.
pub count-evicted : (f : Packet → Bool) (senders : List ℕ) (gone : List Out) → are_distinct senders ≡ true → KnowsEach senders gone → count f (flat_map (λ s. evicted_by s gone) senders) ≡ count f (put_out_in gone)
count-evicted f senders [] d known = none-out f senders
count-evicted f senders (to_puller p ∷ gone) d known = count-evicted f senders gone d known
count-evicted f senders (put_out e p ∷ gone) d known = search (rules, (put-out-more f e p gone senders d), (count-evicted f senders gone d))
