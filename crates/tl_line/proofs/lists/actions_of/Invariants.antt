use Rattle.std.proofs.Common.{◌≡◌, ◌≤◌, ◌++◌, ◌+◌, length, drop}
use Rattle.tl_syntax.specs.Lists.{Each}
use Rattle.tl_rules.specs.Reads.{trees_in}
use Rattle.tl_line.specs.NamedActions.{ActionIsNamed}
use Rattle.tl_line.specs.ActionLists.{actions_breaks}
use Rattle.tl_line.specs.MeaningOfActions.{actions_meant}
use Rattle.tl_line.proofs.lists.actions_of.Given as goal

-- the actions so far, and after them those that are left
abbrev pub invariant-loop-form : goal.invariant-loop-form
invariant-loop-form l = record {
  breaks : actions_breaks l.problem.names l.problem.domain.operators l.before (trees_in l.forms) ≡
      actions_breaks l.problem.names l.problem.domain.operators (l.before + length l.actions) (trees_in (drop l.form-index l.forms));
  meant : actions_meant l.problem.names l.problem.domain.operators (trees_in l.forms) ≡ l.actions ++
      actions_meant l.problem.names l.problem.domain.operators (trees_in (drop l.form-index l.forms));
  few : l.before + length l.actions ≤ 100000;
  named : Each (ActionIsNamed l.problem.names l.problem.domain.operators) l.actions;
}
