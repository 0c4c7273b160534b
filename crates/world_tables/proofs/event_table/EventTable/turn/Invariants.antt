use Rattle.world_tables.proofs.event_table.EventTable.turn.Given as goal

abbrev pub ghosts-turn : goal.ghosts-turn
ghosts-turn a = record { name = a.blank.name; parts = a.blank.parts }
