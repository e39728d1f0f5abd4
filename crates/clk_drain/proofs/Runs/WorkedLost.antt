-- Accounts of worked queues that lost packets, and which queues fault 21 names.
use Rattle.std.proofs.Common.{◌≡◌, ◌⊎◌, ℕ, ◌==◌, Bool, true, false, List, [], ◌∷◌, ◌++◌, length, refl, sym, ap, ◌∙◌, subst, lit≤, inl, inr, ⊎_elim, arith, if◌then◌else◌}
use Rattle.std.proofs.lemmas.List.{length-append}
use Rattle.atomic_table.specs.Seated.{TableId}
use Rattle.clk_packet.specs.declared.packet.Packet.{Packet}
use Rattle.clk_packet.specs.declared.packet.Kind.TheVariants.{TailDrop, FrontDrop}
use Rattle.clk_packet.specs.declared.fault.Fault.{Fault}
use Rattle.clk_packet.specs.declared.fault.Fault.TheVariants.{Unsettled}
use Rattle.clk_packet.specs.Lists.{In, stands_in, AreRising}
use Rattle.clk_ruled.specs.PacketLists.{packet_numbers, without}
use Rattle.clk_ruled.specs.Settle.{HasLostBelow, accepted_of, accepted_count}
use Rattle.clk_sched.specs.Examples.Priority.{p0_0, p1_0}
use Rattle.clk_drain.specs.Examples.{p0_1}
use Rattle.clk_drain.specs.Lost.{SeatedQueue, NamesFirstLost}
use Rattle.clk_drain.specs.LostExamples.{p1_1, refusing, evicting}

-- What holds whether a test holds or not.
by-test : (P : Bool → Type 0) → P true → P false → (b : Bool) → P b
by-test P h k true = h
by-test P h k false = k

-- a list where a test holds, and else none
abbrev picked : Bool → List Packet → List Packet
picked b packets = if b then packets else []

-- What holds of a packet holds of all that a list of this packet has.
only : (P : Packet → Type 0) (q : Packet) → P q → (p : Packet) → In p (q ∷ []) → P p
only P q here p among = ⊎_elim (λ (e : q ≡ p). subst P e here) (λ none. absurd none) among

-- the Queue holds the packet that it accepted
pub refusing-lost : (id : TableId) → HasLostBelow TailDrop 3 (0 ∷ []) (refusing 3 id).seats []
refusing-lost id = record {
  held = p0_0 ∷ [];
  account = record {
    balances = λ s. by-test (λ b. without (picked b (p0_0 ∷ [])) [] ≡ (picked b (p0_0 ∷ []))) refl refl (0 == s);
    is_last = λ s. ([], refl);
    rises = λ s. by-test (λ b. AreRising (packet_numbers (picked b (p0_0 ∷ [])))) (tt, tt) tt (0 == s);
    was_taken = λ p none. absurd none;
    once = tt;
    gives_known = λ p none. absurd none;
    holds_known = only (λ p. stands_in p.sender (0 ∷ []) ≡ true) p0_0 refl;
    fits = lit≤ tt;
    tail_drop = λ _ s. by-test (λ b. (picked b []) ≡ []) refl refl (0 == s);
  };
  kinds = (refl, tt);
  shared = (record { within = lit≤ tt; shared = record { offered = p0_0 ∷ p0_1 ∷ []; count = refl; numbers = (refl, refl, (refl, refl, tt)); dealt = inl ([], refl, inr ([], refl, (refl, refl))) }; front_drop = λ e. absurd (cc) }, tt);
  lost = lit≤ tt;
  below = lit≤ tt;
}

-- the FrontDropQueue holds the packet that it didn't evict
pub evicting-lost : (id : TableId) → HasLostBelow FrontDrop 3 (1 ∷ []) (evicting 3 id).seats []
evicting-lost id = record {
  held = p1_1 ∷ [];
  account = record {
    balances = λ s. by-test (λ b. without (picked b (p1_0 ∷ p1_1 ∷ [])) (p1_0 ∷ []) ≡ (picked b (p1_1 ∷ []))) refl refl (1 == s);
    is_last = λ s. by-test (λ b. (before : List Packet) × ((picked b (p1_0 ∷ p1_1 ∷ [])) ≡ before ++ (picked b (p1_1 ∷ [])))) (p1_0 ∷ [], refl) ([], refl) (1 == s);
    rises = λ s. by-test (λ b. AreRising (packet_numbers (picked b (p1_0 ∷ p1_1 ∷ [])))) ((lit≤ tt, tt), (tt, tt)) tt (1 == s);
    was_taken = only (λ p. In p (accepted_of (evicting 3 id).seats p.sender)) p1_0 (inl refl);
    once = (refl, tt);
    gives_known = λ p none. absurd none;
    holds_known = only (λ p. stands_in p.sender (1 ∷ []) ≡ true) p1_1 refl;
    fits = lit≤ tt;
    tail_drop = λ e. absurd (cc);
  };
  kinds = (refl, tt);
  shared = (record { within = lit≤ tt; shared = record { offered = p1_0 ∷ p1_1 ∷ []; count = refl; numbers = (refl, refl, (refl, refl, tt)); dealt = inl (p1_1 ∷ [], refl, inl ([], refl, (refl, refl))) }; front_drop = λ _. refl }, tt);
  lost = lit≤ tt;
  below = lit≤ tt;
}

-- The first of one that lost packets is that one, and of two one of the two.
alone : (q first : SeatedQueue) (earlier later : List SeatedQueue) → q ∷ [] ≡ earlier ++ first ∷ later → first ≡ q
alone q first [] later e = cc
alone q first (x ∷ earlier) later e = let counts = ap length e in let more = length-append earlier (first ∷ later) in absurd (omega (arith, counts, more))

pub named-alone : (q : SeatedQueue) (fault : Fault) (names : NamesFirstLost (q ∷ []) fault) → names.first ≡ q
named-alone q fault names = alone q names.first names.earlier names.later names.all

pub of-two : {X : Type 0} (a b first : X) (earlier later : List X) → a ∷ b ∷ [] ≡ earlier ++ first ∷ later → ((earlier ≡ []) × (first ≡ a)) ⊎ ((earlier ≡ a ∷ []) × (first ≡ b))
of-two a b first [] later e = inl (refl, cc)
of-two a b first (x ∷ []) later e = inr (cc, cc)
of-two a b first (x ∷ y ∷ earlier) later e = let counts = ap length e in let more = length-append earlier (first ∷ later) in absurd (omega (arith, counts, more))

-- what a fault says of the queue that it names
pub told : (fault : Fault) (queues : List SeatedQueue) (leaf accepted capacity : ℕ) → fault ≡ Unsettled leaf accepted capacity → (names : NamesFirstLost queues fault)
    → (names.first.queue.leaf ≡ leaf) × (accepted_count names.first.seats ≡ accepted) × (names.first.queue.capacity ≡ capacity)
told fault queues leaf accepted capacity is names = let e = sym names.fault_is ∙ is in (cc, cc, cc)
