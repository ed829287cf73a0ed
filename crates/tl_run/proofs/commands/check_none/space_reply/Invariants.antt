use Rattle.tl_run.proofs.commands.check_none.space_reply.Given as goal

-- the ledger is the blank's
abbrev pub ghosts-checked : goal.ghosts-checked
ghosts-checked a = record { name = a.blank.name; parts = a.blank.parts }
