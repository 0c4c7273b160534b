use Rattle.work_account.proofs.account.soft.Given as goal

abbrev pub ghosts-hit_found : goal.ghosts-hit_found
ghosts-hit_found a = record { name = a.blank.name; parts = a.blank.parts }
