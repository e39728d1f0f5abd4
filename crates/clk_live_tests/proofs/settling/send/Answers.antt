use Rattle.clk_live_tests.proofs.settling.send.Goals as goal

pub returns : goal.returns
returns g c = record { halves = λ o h. c.end.ensures.halves o (c.offer-number.ensures.halves o h) }
