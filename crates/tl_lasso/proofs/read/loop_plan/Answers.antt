use Rattle.std.proofs.Common.{List, sym, ◌∙◌, subst}
use Rattle.tl_rules.specs.Reads.{Reads, IsFirst, trees_in}
use Rattle.tl_rules.specs.Rules.{Break}
use Rattle.tl_sexpr.specs.Tree.{tree_of}
use Rattle.tl_lasso.specs.LoopFiles.{loop_breaks}
use Rattle.tl_lasso.specs.MeaningOfLoops.{loop_meant}
use Rattle.tl_lasso.specs.declared.plan.LoopPlan.{LoopPlan}
use Rattle.tl_lasso.proofs.LoopForms.{loop-last, loop-both, handed}
use Rattle.tl_lasso.proofs.read.loop_plan.Goals as goal

pub returns-in_err-cycle-clause-read : goal.returns-in_err-cycle-clause-read
returns-in_err-cycle-clause-read c =
    let names = c.args.problem.now.names in
    let operators = c.args.problem.now.domain.operators in
    handed (λ r. Reads (λ (x : LoopPlan). x) r (loop_breaks names operators (trees_in c.args.forms.now))
    (loop_meant names operators (trees_in c.args.forms.now))) c.from_residual-in_err-cycle.result c.in_err-cycle.field-0.0
    c.from_residual-in_err-cycle.ensures.1
    (subst (λ (bs : List Break). IsFirst bs c.in_err-cycle.field-0.0) (sym
    (loop-last names operators (trees_in c.args.forms.now) (trees_in c.in-Some.front.now)
    (tree_of c.in-Some.last.now) c.in-Some.ensures.0 c.in-Some.ensures.1 c.in_ok-stem.stem c.in_ok-stem.ensures.read.0
    c.in_ok-stem.ensures.read.1 c.len.result c.len.ensures)) c.in_err-cycle.ensures.read)

pub returns-clause-read : goal.returns-clause-read
returns-clause-read c =
    let names = c.args.problem.now.names in
    let operators = c.args.problem.now.domain.operators in
    let fs = trees_in c.args.forms.now in
    let front = trees_in c.in-Some.front.now in
    let last = tree_of c.in-Some.last.now in (
      loop-last names operators fs front last c.in-Some.ensures.0 c.in-Some.ensures.1 c.in_ok-stem.stem c.in_ok-stem.ensures.read.0
          c.in_ok-stem.ensures.read.1 c.len.result c.len.ensures ∙ c.in_ok-cycle.ensures.read.0,
      loop-both names operators fs front last c.in-Some.ensures.0 c.in-Some.ensures.1 c.in_ok-stem.stem c.in_ok-stem.ensures.read.0
          c.in_ok-stem.ensures.read.1 c.in_ok-cycle.cycle c.in_ok-cycle.ensures.read.1,
    )
