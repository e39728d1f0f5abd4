-- Plain lines of a trace: two numbers, each in digits alone (this project's own format).
use Rattle.std.specs.Prelude.{ℕ, List}
use Rattle.clk_packet.specs.declared.limits.TheConstants.{MAX_SENDER, MAX_LENGTH}
use Rattle.clk_packet.specs.Numbers.{BeginsWithNumber}

-- a text begins with the digits of a sender's number, a comma, the digits of a length and a line feed, and this is the rest
pub record IsPlainLine (text : List ℕ) (sender size : ℕ) (rest : List ℕ) : Type 0 where
  pub middle : List ℕ
  pub sender_is : BeginsWithNumber text 44 0 MAX_SENDER sender middle
  pub size_is : BeginsWithNumber middle 10 1 MAX_LENGTH size rest
