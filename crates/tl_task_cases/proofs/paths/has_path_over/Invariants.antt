use Rattle.tl_task_cases.proofs.paths.has_path_over.Given as goal

-- the ledger is the blank's
abbrev pub ghosts-has_path : goal.ghosts-has_path
ghosts-has_path g a = record { name = a.blank.name; parts = a.blank.parts }
