use Rattle.std.proofs.Common.{◌≡◌, List, ℕ, Option, Some, IfOk, IfErr, slice_get, sym, ap, ◌∙◌, subst}
use Rattle.tl_eval.specs.Frames.{assignment_in}
use Rattle.tl_nodes.specs.NodeTrees.{tree_at}
use Rattle.tl_nodes.specs.Numbers.{trees}
use Rattle.tl_syntax.specs.declared.value.Value.{Value}
use Rattle.tl_syntax.specs.Lists.{Each}
use Rattle.tl_syntax.specs.Trees.{FormulaTree}
use Rattle.tl_terms.specs.ProblemMeaning.{plain_problem}
use Rattle.tl_eval.specs.Faults.{IsCausedBy}
use Rattle.tl_progress.specs.Answers.{looked_for_residual, residual}
use Rattle.tl_progress.specs.Parts.{IsBelow}
use Rattle.tl_nodes.specs.Joins.{simplified_join}
use Rattle.tl_nodes.specs.NodeTrees.{trees_at}
use Rattle.tl_terms.specs.Progression.{constant}
use Rattle.std.specs.Prelude.{map, false}
use Rattle.tl_progress.proofs.joined.joined_residual.Goals as goal

pub parts_residual-requires-clause-below : goal.parts_residual-requires-clause-below
parts_residual-requires-clause-below c =
    let open_parts = rw c.in-Ok-Some.field-0-is at c.in-Ok-Some.ensures.parts in
    subst (Each (IsBelow false (trees c.args.nodes.now) c.args.joined.at)) (sym c.as_slice.ensures) open_parts.below

pub returns-in-Ok-Some-clause-number : goal.returns-in-Ok-Some-clause-number
returns-in-Ok-Some-clause-number c =
    let open_parts = rw c.in-Ok-Some.field-0-is at c.in-Ok-Some.ensures.parts in
    subst (λ (f : FormulaTree). IfOk c.parts_residual.result (λ i. slice_get (trees c.parts_residual.new.nodes) i ≡ Some f))
    (ap (λ (ids : List ℕ). simplified_join c.args.joined.junction (map
    (residual (plain_problem c.args.here.now.task.now.problem) c.args.here.now.world.now (assignment_in c.args.env.now))
    (trees_at (trees c.args.nodes.now) ids))) c.as_slice.ensures ∙ open_parts.same)
    (subst (λ (v : List (Option Value)). IfOk c.parts_residual.result (λ i. slice_get (trees c.parts_residual.new.nodes) i ≡
    Some (simplified_join c.args.joined.junction (map (residual (plain_problem c.args.here.now.task.now.problem)
    c.args.here.now.world.now (assignment_in v)) (trees_at (trees c.args.nodes.now) c.as_slice.result.now)))))
    c.open_parts.ensures.frame c.parts_residual.ensures.number)

pub returns-in-Ok-Some-clause-cause : goal.returns-in-Ok-Some-clause-cause
returns-in-Ok-Some-clause-cause c =
    subst (λ (v : List (Option Value)). IfErr c.parts_residual.result (IsCausedBy
    (looked_for_residual (plain_problem c.args.here.now.task.now.problem) c.args.here.now.world.now (assignment_in v)
    (tree_at (trees c.args.nodes.now) c.args.joined.at)))) c.open_parts.ensures.frame c.parts_residual.ensures.cause

pub returns-in-Ok-Some-clause-frame : goal.returns-in-Ok-Some-clause-frame
returns-in-Ok-Some-clause-frame c = c.parts_residual.ensures.frame ∙ c.open_parts.ensures.frame

pub returns-in-Ok-None-clause-number : goal.returns-in-Ok-None-clause-number
returns-in-Ok-None-clause-number c =
    let decided = rw c.in-Ok-None.field-0-is at c.in-Ok-None.ensures.decided in
    c.constant_number.ensures.number ∙ ap (λ (f : FormulaTree). Some f) (ap constant c.deciding_truth.ensures ∙ sym decided)
