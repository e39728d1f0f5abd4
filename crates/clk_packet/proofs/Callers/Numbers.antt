-- Numbers that are read digit by digit.
pub use Rattle.clk_packet.proofs.DigitLemmas.{AreDigits, number-digits, number-shorter}
pub use Rattle.clk_packet.proofs.NumberLemmas.{more_digits}
