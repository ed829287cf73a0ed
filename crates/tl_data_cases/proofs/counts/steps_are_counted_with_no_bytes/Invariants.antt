use Rattle.tl_data_cases.proofs.counts.steps_are_counted_with_no_bytes.Given as goal

-- the ledger is the blank's
abbrev pub ghosts-walk_uncounted : goal.ghosts-walk_uncounted
ghosts-walk_uncounted g a = record { name = a.blank.name; parts = a.blank.parts }
