-- What a node got, as one number.
use Rattle.std.specs.Prelude.{◌≡◌, ℕ, zero, suc, ◌+◌, ◌*◌, ◌<◌, ◌≤◌, ◌/◌, ◌%◌, ◌^◌, Option, None, Some}
use Rattle.std.proofs.Common.{lit≤, refl, sym, arith}
use Rattle.std.proofs.Math.Nat.{mod-lt, le-pred_of_lt, zero-lt-suc}
use Rattle.clk_packet.specs.declared.limits.TheConstants.{MAX_LENGTH}
use Rattle.clk_packet.specs.Packets.{packet}
use Rattle.clk_packet.specs.declared.packet.Packet.{Packet}

-- a packet of these, or none if the length is 0
abbrev pub packet_of_length : (number sender length : ℕ) → length ≤ MAX_LENGTH → Option Packet
packet_of_length number sender zero within = None
packet_of_length number sender (suc n) within = Some (packet sender number (suc n) (zero-lt-suc n) within)

-- A packet, or none: the lowest 32 bits are its place among its sender's packets, the next 16 its sender, and the highest 16 its length.
abbrev pub got_in : ℕ → Option Packet
got_in n = packet_of_length (n % 2 ^ 32) (n / 2 ^ 32 % 2 ^ 16) (n / 2 ^ 48 % 2 ^ 16) (le-pred_of_lt (mod-lt (n / 2 ^ 48) (lit≤ tt)))

-- the number of a packet, or of none
abbrev pub number_of : Option Packet → ℕ
number_of None = 0
number_of (Some p) = p.number + p.sender * 2 ^ 32 + p.length * 2 ^ 48

-- a number is that of a packet, or of none
abbrev pub IsGot : ℕ → Type 0
IsGot n = (n < 2 ^ 64) × (n / 2 ^ 48 ≡ 0 → n ≡ 0)

number-length : (number sender l n : ℕ) (within : l ≤ MAX_LENGTH) → IsGot n → l ≡ n / 2 ^ 48 % 2 ^ 16 → number ≡ n % 2 ^ 32 → sender ≡ n / 2 ^ 32 % 2 ^ 16 → number_of (packet_of_length number sender l within) ≡ n
number-length number sender zero n within h size low middle = let fits = h.0 in let none : n / 2 ^ 48 ≡ 0 = omega (arith, size, fits) in sym (h.1 none)
number-length number sender (suc k) n within h size low middle = let fits = h.0 in omega (arith, fits, size, low, middle)

-- what a number tells has that number
pub number-back : (n : ℕ) → IsGot n → number_of (got_in n) ≡ n
number-back n h = number-length _ _ _ n _ h refl refl refl
