use Rattle.std.proofs.Common.{◌≡◌, ◌++◌}
use Rattle.tl_problem.proofs.fact_set.FactSet.into_facts.Given as goal

-- the facts so far, and after them those that are left
abbrev pub invariant-loop-fact : goal.invariant-loop-fact
invariant-loop-fact l = l.fn.self ≡ l.facts ++ l.fact-iterator
