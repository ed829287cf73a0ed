use Rattle.tl_run.proofs.commands.cheapest.space_reply.Given as goal

-- the ledger is the blank's
abbrev pub ghosts-searched : goal.ghosts-searched
ghosts-searched a = record { name = a.blank.name; parts = a.blank.parts }
