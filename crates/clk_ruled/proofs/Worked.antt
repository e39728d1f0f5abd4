-- Worked examples of queues that are shared by senders 0 and 1, with their accounts.
use Rattle.std.proofs.Common.{◌≡◌, ℕ, ◌==◌, ◌≤◌, Bool, true, false, List, [], ◌∷◌, ◌++◌, length, filter, get_or, refl, sym, ap, subst, lit≤, inl, inr, ⊎_elim, arith, if◌then◌else◌}
use Rattle.std.proofs.lemmas.Bool.{eqb-true}
use Rattle.std.proofs.lemmas.List.{append-nil, length-append}
use Rattle.std.specs.List.{AllByRecursion}
use Rattle.clk_packet.specs.declared.packet.Packet.{Packet}
use Rattle.clk_packet.specs.declared.packet.Kind.TheVariants.{TailDrop, FrontDrop}
use Rattle.clk_packet.specs.Lists.{In, stands_in, AreRising}
use Rattle.clk_ruled.specs.PacketLists.{packet_numbers, without}
use Rattle.atomic_table.specs.Seated.{TableId}
use Rattle.clk_ruled.specs.declared.view.QueueSetup.{QueueSetup}
use Rattle.clk_ruled.specs.Queue.{setup_of, IsSharedOut}
use Rattle.clk_ruled.specs.Settle.{lists_of}
use Rattle.clk_ruled.specs.SettleExamples.{seat}
use Rattle.clk_ruled.specs.Account.{IsAccount}
use Rattle.clk_ruled.specs.Examples.{p0_0, p0_1, p1_0, p1_1, by_sender, for_seats, both, arrived, put_out, pulled, held}

-- What holds of a sender, where it is asked of the sender alone whether it is 0 and whether it is 1.
pub by-senders : (P : Bool → Bool → Type 0) → P true false → P false true → P false false → (s : ℕ) → P (0 == s) (1 == s)
by-senders P first second other s = by_test (0 == s) (1 == s) refl refl
  where
    by_test : (b c : Bool) → (0 == s) ≡ b → (1 == s) ≡ c → P b c
    by_test true true e f = let zero = eqb-true 0 s e in let one = eqb-true 1 s f in absurd (omega (arith, zero, one))
    by_test true false e f = first
    by_test false true e f = second
    by_test false false e f = other

-- the packets of a list that are of sender 0, of sender 1, or of both
abbrev pub of_these : Bool → Bool → List Packet → List Packet
of_these b c packets = filter (λ (p : Packet). if p.sender == 0 then b else if p.sender == 1 then c else false) packets

-- a list of the seat of sender 0, of that of sender 1, or none
abbrev pub of_seats : Bool → Bool → (first second : List Packet) → List Packet
of_seats b c first second = if b then first else if c then second else []

-- Of two packets the first isn't what the list ends with.
pub not-last : (p q : Packet) → p.number ≡ 0 → q.number ≡ 1 → (before : List Packet) → p ∷ q ∷ [] ≡ before ++ p ∷ [] → ⊥
not-last p q zero one [] e = let counts = ap length e in omega (arith, counts)
not-last p q zero one (a ∷ []) e = let same = ap (λ (l : List Packet). (get_or l 1 p).number) e in omega (arith, zero, one, same)
not-last p q zero one (a ∷ b ∷ before) e = let counts = ap length e in let more = length-append before (p ∷ []) in omega (arith, counts, more)

-- What holds of each packet of a list holds of one that stands there.
pub of-all : (P : Packet → Type 0) (l : List Packet) → AllByRecursion P l → (p : Packet) → In p l → P p
of-all P [] all p i = absurd i
of-all P (q ∷ l) all p i = ⊎_elim (λ e. subst P e all.0) (λ (j : In p l). of-all P l all.1 p j) i

-- the account of a FrontDropQueue that evicted a packet
pub front-account : (capacity : ℕ) → 2 ≤ capacity → IsAccount FrontDrop capacity both (by_sender arrived) (for_seats [] put_out) pulled held
front-account capacity fits =
    record {
      balances = by-senders (λ a b. without (of_these a b arrived) put_out ≡ of_these a b pulled ++ of_these a b held) refl refl refl;
      is_last = by-senders (λ a b. (before : List Packet) × (of_these a b arrived ≡ before ++ of_these a b held)) (p0_0 ∷ p0_1 ∷ [], refl) ([], refl) ([], refl);
      rises = by-senders (λ a b. AreRising (packet_numbers (of_these a b arrived))) ((lit≤ tt, tt), (tt, tt)) ((lit≤ tt, tt), (tt, tt)) tt;
      was_taken = of-all (λ p. In p (by_sender arrived p.sender)) put_out (inl refl, tt);
      once = (refl, tt);
      gives_known = of-all (λ p. stands_in p.sender both ≡ true) pulled (refl, tt);
      holds_known = of-all (λ p. stands_in p.sender both ≡ true) held (refl, (refl, tt));
      fits = fits;
      tail_drop = λ e. absurd (cc);
    }

-- the same, where what was taken from each sender is what its seat has
pub front-account-by-seats : (capacity : ℕ) → 2 ≤ capacity → IsAccount FrontDrop capacity both (for_seats (p0_0 ∷ p0_1 ∷ []) (p1_0 ∷ p1_1 ∷ [])) (for_seats [] put_out) pulled held
front-account-by-seats capacity fits =
    let same = by-senders (λ a b. of_these a b arrived ≡ of_seats a b (p0_0 ∷ p0_1 ∷ []) (p1_0 ∷ p1_1 ∷ [])) refl refl refl in
    subst (λ (accepted : ℕ → List Packet). IsAccount FrontDrop capacity both accepted (for_seats [] put_out) pulled held) (λ i s. same s i) (front-account capacity fits)

-- the seats of the queue share out what they offered
pub front-shared : (id : TableId) (setup : QueueSetup) → AllByRecursion IsSharedOut (lists_of (seat 0 2 (p0_0 ∷ p0_1 ∷ []) [] [] id setup ∷ seat 1 2 (p1_0 ∷ p1_1 ∷ []) [] put_out id setup ∷ []))
front-shared id setup = (
  record {
    within = lit≤ tt;
    shared = record { offered = p0_0 ∷ p0_1 ∷ []; count = refl; numbers = (refl, refl, (refl, refl, tt)); dealt = inl (p0_1 ∷ [], refl, inl ([], refl, (refl, refl))) };
    front_drop = λ _. refl;
  },
  (
    record {
      within = lit≤ tt;
      shared = record { offered = p1_0 ∷ p1_1 ∷ []; count = refl; numbers = (refl, refl, (refl, refl, tt)); dealt = inl (p1_1 ∷ [], refl, inl ([], refl, (refl, refl))) };
      front_drop = λ _. refl;
    },
    tt,
  ),
)

-- the seat of a Queue that refused its second packet does
pub tail-shared : (id : TableId) (capacity : ℕ) → AllByRecursion IsSharedOut (lists_of (seat 0 2 (p0_0 ∷ []) (p0_1 ∷ []) [] id (setup_of TailDrop capacity ((0, 2) ∷ [])) ∷ []))
tail-shared id capacity = (
  record {
    within = lit≤ tt;
    shared = record { offered = p0_0 ∷ p0_1 ∷ []; count = refl; numbers = (refl, refl, (refl, refl, tt)); dealt = inl ([], refl, inr ([], refl, (refl, refl))) };
    front_drop = λ e. absurd (cc);
  },
  tt,
)

-- the account of a Queue of one sender, whose packet was pulled
pub tail-account : (capacity : ℕ) → IsAccount TailDrop capacity (0 ∷ []) (by_sender (p0_0 ∷ [])) (λ s. of_seats (0 == s) false [] []) (p0_0 ∷ []) []
tail-account capacity =
    record {
      balances = by-senders (λ a b. without (of_these a b (p0_0 ∷ [])) [] ≡ of_these a b (p0_0 ∷ []) ++ []) refl refl refl;
      is_last = λ s. (by_sender (p0_0 ∷ []) s, sym (append-nil (by_sender (p0_0 ∷ []) s)));
      rises = by-senders (λ a b. AreRising (packet_numbers (of_these a b (p0_0 ∷ [])))) (tt, tt) tt tt;
      was_taken = λ p none. absurd none;
      once = tt;
      gives_known = of-all (λ p. stands_in p.sender (0 ∷ []) ≡ true) (p0_0 ∷ []) (refl, tt);
      holds_known = λ p none. absurd none;
      fits = omega arith;
      tail_drop = λ e. by-senders (λ a b. of_seats a false [] [] ≡ []) refl refl refl;
    }
