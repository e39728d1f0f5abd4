-- What one number tells of what a node got.
use Rattle.std.proofs.Common.{◌≡◌, ℕ, zero, suc, ◌+◌, ◌*◌, ◌/◌, ◌%◌, ◌^◌, ◌<◌, ◌≤◌, Option, Some, None, refl, sym, ap, ap₂, ◌∙◌, subst, arith}
use Rattle.std.proofs.lemmas.Nat.{div-mul-add, mod-mul-add}
use Rattle.std.proofs.Math.Nat.{mod-eq_of_lt, zero-lt-suc}
use Rattle.std.proofs.Math.Bridge.{le_prop}
use Rattle.clk_packet.specs.declared.limits.TheConstants.{MAX_LENGTH}
use Rattle.clk_packet.specs.Packets.{packet}
use Rattle.clk_packet.specs.declared.packet.Packet.{Packet}
use Rattle.clk_sched.specs.declared.session.nodes.Nodes.{Nodes}
use Rattle.clk_sched.specs.inside.Got.{got_in, packet_of_length}
use Rattle.clk_sched.specs.inside.Turning.{WasPulled}

length-none : (number sender l : ℕ) (within : l ≤ MAX_LENGTH) → l ≡ 0 → packet_of_length number sender l within ≡ None
length-none number sender zero within e = refl
length-none number sender (suc n) within e = absurd (omega (arith, e))

length-some : (number sender l m : ℕ) (h : l ≤ MAX_LENGTH) → l ≡ m → (some : 1 ≤ m) (within : m ≤ MAX_LENGTH) → packet_of_length number sender l h ≡ Some (packet sender number m some within)
length-some number sender zero m h e = λ some within. absurd (omega (arith, e, some))
length-some number sender (suc n) m h e =
    subst (λ k. (some : 1 ≤ k) (within : k ≤ MAX_LENGTH) → packet_of_length number sender (suc n) h ≡ Some (packet sender number k some within)) e
    (λ some within i. Some (packet sender number (suc n) (le_prop (zero-lt-suc n) some i) (le_prop h within i)))

-- none, where the length is 0
pub got-none : (n : ℕ) → n / 2 ^ 48 ≡ 0 → got_in n ≡ None
got-none n e = let zero_too : n / 2 ^ 48 % 2 ^ 16 ≡ 0 = omega (arith, e) in length-none _ _ _ _ zero_too

-- a packet, where it isn't
pub got-some : (n : ℕ) (some : 1 ≤ n / 2 ^ 48) (within : n / 2 ^ 48 ≤ MAX_LENGTH) → got_in n ≡ Some (packet (n / 2 ^ 32 % 2 ^ 16) (n % 2 ^ 32) (n / 2 ^ 48) some within)
got-some n some within = length-some _ _ _ _ _ (mod-eq_of_lt (omega (arith, within))) some within

-- the number of a packet
pub got-made : (p : Packet) (n : ℕ) → n ≡ p.number + p.sender * 2 ^ 32 + p.length * 2 ^ 48 → p.number < 2 ^ 32 → p.sender < 2 ^ 16 → got_in n ≡ Some p
got-made p n is number_fits sender_fits =
    let below : n ≡ (p.length * 2 ^ 16 + p.sender) * 2 ^ 32 + p.number = omega (arith, is) in
    let above : n ≡ p.length * 2 ^ 48 + (p.sender * 2 ^ 32 + p.number) = omega (arith, is) in
    let number : n % 2 ^ 32 ≡ p.number = ap (λ k. k % 2 ^ 32) below ∙ mod-mul-add (p.length * 2 ^ 16 + p.sender) (2 ^ 32) p.number number_fits in
    let rest : n / 2 ^ 32 ≡ p.length * 2 ^ 16 + p.sender = ap (λ k. k / 2 ^ 32) below ∙ div-mul-add (p.length * 2 ^ 16 + p.sender) (2 ^ 32) p.number number_fits in
    let sender : n / 2 ^ 32 % 2 ^ 16 ≡ p.sender = ap (λ k. k % 2 ^ 16) rest ∙ mod-mul-add p.length (2 ^ 16) p.sender sender_fits in
    let size : n / 2 ^ 48 ≡ p.length = ap (λ k. k / 2 ^ 48) above ∙ div-mul-add p.length (2 ^ 48) (p.sender * 2 ^ 32 + p.number) (omega (arith, number_fits, sender_fits)) in
    let fits : p.length ≤ MAX_LENGTH = p.is_within in
    let same : n / 2 ^ 48 % 2 ^ 16 ≡ p.length = ap (λ k. k % 2 ^ 16) size ∙ mod-eq_of_lt (omega (arith, fits)) in
    length-some _ _ _ _ _ same p.has_length p.is_within ∙ ap₂ (λ a b. Some (packet a b p.length p.has_length p.is_within)) sender number

-- what a pull gave, by what it is equal to
pub pulled-got : {S : Type 0} {gives : S → ℕ → Option Packet → S → Type 0} {a b : Nodes} {q r : S} {x : ℕ} {got want : Option Packet} → got ≡ want → WasPulled gives a b q r x want → WasPulled gives a b q r x got
pulled-got {S} {gives} {a} {b} {q} {r} {x} e h = subst (λ o. WasPulled gives a b q r x o) (sym e) h
