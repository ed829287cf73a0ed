use Rattle.tl_syntax.proofs.FormulaTrees.{tree-Atom, tree-Defined, tree-Compare, tree-GoalFact, tree-GoalPlace, tree-GoalNot}
use Rattle.tl_label.specs.Labels.{formula_text}
use Rattle.tl_label.proofs.BasicFormulas.{not-basic}
use Rattle.tl_label.proofs.basic.put_basic.Goals as goal

pub returns-in-Atom : goal.returns-in-Atom
unfolding formula_text
returns-in-Atom c = rw (c.in-Atom.is, tree-Atom c.in-Atom.pred c.in-Atom.terms) c.put_atom.ensures

pub returns-in-Defined : goal.returns-in-Defined
unfolding formula_text
returns-in-Defined c = rw (c.in-Defined.is, tree-Defined c.in-Defined.number c.in-Defined.terms) c.put_defined.ensures

pub returns-in-Compare : goal.returns-in-Compare
unfolding formula_text
returns-in-Compare c = rw (c.in-Compare.is, tree-Compare c.in-Compare.cmp c.in-Compare.left c.in-Compare.right) c.put_comparison.ensures

pub returns-in-GoalFact : goal.returns-in-GoalFact
unfolding formula_text
returns-in-GoalFact c = rw (c.in-GoalFact.is, tree-GoalFact c.in-GoalFact.pred c.in-GoalFact.args) c.put_goal_fact.ensures

pub returns-in-GoalPlace : goal.returns-in-GoalPlace
unfolding formula_text
returns-in-GoalPlace c = rw (c.in-GoalPlace.is, tree-GoalPlace c.in-GoalPlace.fun c.in-GoalPlace.args c.in-GoalPlace.value)
    c.put_goal_place.ensures

pub returns-in-GoalNot : goal.returns-in-GoalNot
unfolding formula_text
returns-in-GoalNot c = rw (c.in-GoalNot.is, tree-GoalNot c.in-GoalNot.pred c.in-GoalNot.args) c.put_goal_not.ensures

pub returns-in_default : goal.returns-in_default
returns-in_default c = let h = c.in_default in absurd (not-basic c.args.f.now c.requires h.not-Atom h.not-Defined h.not-Compare
    h.not-GoalFact h.not-GoalPlace h.not-GoalNot)
