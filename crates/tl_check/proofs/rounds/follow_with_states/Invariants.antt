use Rattle.tl_check.proofs.rounds.follow_with_states.Given as goal

-- the ledger is the blank's
abbrev pub ghosts-followed_by : goal.ghosts-followed_by
ghosts-followed_by a = record { name = a.blank.name; parts = a.blank.parts }
