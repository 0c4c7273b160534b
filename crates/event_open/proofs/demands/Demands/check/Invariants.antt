use Rattle.event_open.proofs.demands.Demands.check.Given as goal

abbrev pub ghosts-seat_alone : goal.ghosts-seat_alone
ghosts-seat_alone a = record { name = a.blank.name; parts = a.blank.parts }
