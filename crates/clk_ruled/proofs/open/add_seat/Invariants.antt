use Rattle.clk_ruled.proofs.open.add_seat.Given as goal

abbrev pub ghosts-seat_for : goal.ghosts-seat_for
ghosts-seat_for a = record { sender = a.sender }
