use Rattle.world_tables.proofs.event_table.EventTable.reset.Given as goal

abbrev pub ghosts-reset : goal.ghosts-reset
ghosts-reset a = record { name = a.blank.name; parts = a.blank.parts }
