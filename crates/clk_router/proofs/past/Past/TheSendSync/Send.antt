-- What has happened is no memory, so it may go to another thread.
use denote.Param.Send.{IsSend}
use Rattle.clk_router.specs.contracts.past.Past.{the_row}

pub send : IsSend the_row
send = record { owned = λ d vs. ((λ vss. (tt, tt)), tt); leaving = λ k l vs. tt }
