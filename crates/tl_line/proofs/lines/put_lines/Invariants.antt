use Rattle.std.proofs.Common.{◌≡◌, ◌++◌, drop}
use Rattle.tl_syntax.specs.Lists.{Each}
use Rattle.tl_line.specs.NamedActions.{ActionIsNamed}
use Rattle.tl_line.specs.Puts.{ContinuesTo}
use Rattle.tl_line.specs.WritableActions.{ArgumentsFit}
use Rattle.tl_line.specs.AnswerLines.{action_lines}
use Rattle.tl_line.proofs.lines.put_lines.Given as goal

-- the lines so far, and after them those of the actions that are left
abbrev pub invariant-loop-action : goal.invariant-loop-action
invariant-loop-action l = record {
  text : l.initial.out ++ action_lines l.problem.names l.problem.domain.operators l.actions ≡ l.out ++
      action_lines l.problem.names l.problem.domain.operators (drop l.action-index l.actions);
  named : Each (ActionIsNamed l.problem.names l.problem.domain.operators) (drop l.action-index l.actions);
  begins : ContinuesTo l.initial.out l.out;
  fits : Each ArgumentsFit (drop l.action-index l.actions) → Each ArgumentsFit l.actions;
}
