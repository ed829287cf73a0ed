use Rattle.std.proofs.Common.{length, sym, ◌∙◌, subst}
use Rattle.tl_action.specs.Prepared.{CollectsWhole}
use Rattle.tl_action.specs.Agreement.{Agree}
use Rattle.tl_action.proofs.AppliedOperators.{prepares-collected, condition-noted}
use Rattle.tl_action.proofs.EffectParts.{agree-self}
use Rattle.tl_action.proofs.Operators.{operator-condition}
use Rattle.tl_eval.specs.Frames.{assignment_in}
use Rattle.tl_syntax.specs.FreeVariables.{slots_of}
use Rattle.tl_syntax.specs.Signature.{signature_of}
use Rattle.tl_terms.specs.ProblemMeaning.{plain_operator, plain_problem}
use Rattle.tl_action.proofs.prepared.prepared.Goals as goal

pub state-requires-clause-fits : goal.state-requires-clause-fits
state-requires-clause-fits c = operator-condition (signature_of c.args.here.now.task.now.problem.domain)
    (length c.args.here.now.task.now.problem.names) c.args.operator.now c.requires

pub returns-in-Ok-true-clause-changes : goal.returns-in-Ok-true-clause-changes
returns-in-Ok-true-clause-changes c =
    prepares-collected (plain_problem c.args.here.now.task.now.problem) c.args.here.now.world.now (assignment_in c.args.env.now)
    (plain_operator c.args.operator.now) c.collected.result (sym c.in-Ok-true.field-0-test ∙ c.in-Ok-true.ensures.value)
    (subst (λ env. CollectsWhole (plain_problem c.args.here.now.task.now.problem) c.args.here.now.world.now (assignment_in env)
    (plain_operator c.args.operator.now) c.collected.result) c.state.ensures.frame c.collected.ensures.changes)

pub returns-in-Ok-true-clause-frame : goal.returns-in-Ok-true-clause-frame
returns-in-Ok-true-clause-frame c = subst (λ env. Agree (slots_of c.args.operator.now.params) (assignment_in c.collected.new.env)
    (assignment_in env)) c.state.ensures.frame c.collected.ensures.frame

pub returns-in-Ok-false-clause-frame : goal.returns-in-Ok-false-clause-frame
returns-in-Ok-false-clause-frame c = subst (λ env. Agree (slots_of c.args.operator.now.params) (assignment_in env)
    (assignment_in c.args.env.now)) (sym c.state.ensures.frame) (agree-self (slots_of c.args.operator.now.params)
    (assignment_in c.args.env.now))

pub returns-in-Err-clause-changes : goal.returns-in-Err-clause-changes
returns-in-Err-clause-changes c = condition-noted (plain_problem c.args.here.now.task.now.problem) c.args.here.now.world.now
    (assignment_in c.args.env.now) (plain_operator c.args.operator.now) c.in-Err.note c.in-Err.ensures.note

pub returns-in-Err-clause-frame : goal.returns-in-Err-clause-frame
returns-in-Err-clause-frame c = subst (λ env. Agree (slots_of c.args.operator.now.params) (assignment_in env)
    (assignment_in c.args.env.now)) (sym c.state.ensures.frame) (agree-self (slots_of c.args.operator.now.params)
    (assignment_in c.args.env.now))
