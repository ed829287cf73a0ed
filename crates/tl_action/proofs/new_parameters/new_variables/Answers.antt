use Rattle.std.proofs.Common.{get_or, take, sym, ◌∙◌}
use Rattle.tl_action.specs.Join.{arranged, is_new}
use Rattle.tl_action.proofs.NewVariables.{filter-keeps, filter-drops}
use Rattle.tl_action.proofs.Walks.{get-itself}
use Rattle.tl_syntax.specs.declared.variable.Var.{Var}
use Rattle.tl_action.proofs.new_parameters.new_variables.Goals.{then-is_new+in_ok-push, else-is_new}
use Rattle.tl_action.proofs.new_parameters.new_variables.Goals as goal

pub loop-param-preserved : goal.loop-param-preserved
loop-param-preserved c =
    let none : Var = record { slot = 0; name = 0 } in
    let ss = c.as_slice-params.result.now in
    let i = c.loop-param.param-index in
    let test = is_new (take c.args.j (arranged c.args.bounds.now).bounds) c.args.b.now in
    elim c.if-is_new.branch [
      | then-is_new+in_ok-push w ↦ w.vars-is ∙ filter-keeps test ss i (get_or ss i none) c.loop-param-test.true
          (get-itself ss i none c.loop-param-test.true) c.loop-param.vars c.loop-param.invariant w.push.new.self
          (sym c.is_new.ensures ∙ w.if-is_new.true) w.in_ok-push.ensures
      | else-is_new w ↦ w.vars-is ∙ filter-drops test ss i (get_or ss i none) c.loop-param-test.true
          (get-itself ss i none c.loop-param-test.true) c.loop-param.vars c.loop-param.invariant (sym c.is_new.ensures ∙ w.if-is_new.false)
    ]
