use Rattle.tl_explain.proofs.explainer.explain.Given as goal

-- the ledger is the blank's
abbrev pub ghosts-explained : goal.ghosts-explained
ghosts-explained a = record { name = a.blank.name; parts = a.blank.parts }
