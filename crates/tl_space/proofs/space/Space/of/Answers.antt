use Rattle.std.proofs.Common.{sym, subst}
use Rattle.tl_syntax.specs.Lists.{Each}
use Rattle.tl_terms.specs.NamedWorlds.{WorldIsNamed}
use Rattle.tl_terms.specs.ProblemMeaning.{plain_problem}
use Rattle.tl_space.specs.Remembered.{AreRemembered}
use Rattle.tl_space.proofs.FoundStay.{none-found}
use Rattle.tl_space.proofs.Growing.{none-kept, kept-by-none}
use Rattle.tl_space.proofs.space.Space.of.Goals as goal

pub invariant_of-result : goal.invariant_of-result
invariant_of-result c = record {
  lists = c.requires;
  named_worlds = subst (Each (WorldIsNamed _)) (sym c.new.ensures) tt;
  kept = kept-by-none _ _ _ _ _ _ _ c.new-2.ensures.empty c.new-3.ensures;
  remembered = subst (AreRemembered (plain_problem c.args.task.problem) _ _ _) (sym c.new-4.ensures) tt;
  found = none-found (plain_problem c.args.task.problem) _ _ _ c.new-5.ensures;
}

pub returns-clause-empty : goal.returns-clause-empty
returns-clause-empty c = none-kept _ _ _ _ c.new-2.ensures.empty
