use Rattle.std.proofs.Common.{length, sym, ◌∙◌, subst}
use Rattle.tl_action.specs.Agreement.{Agree}
use Rattle.tl_action.proofs.AppliedOperators.{condition-noted}
use Rattle.tl_action.proofs.EffectParts.{agree-self}
use Rattle.tl_action.proofs.Operators.{operator-condition}
use Rattle.tl_action.proofs.SureEffects.{sure-prepared}
use Rattle.tl_eval.specs.Frames.{assignment_in}
use Rattle.tl_syntax.specs.FreeVariables.{slots_of}
use Rattle.tl_syntax.specs.Signature.{signature_of}
use Rattle.tl_terms.specs.ProblemMeaning.{plain_operator, plain_problem}
use Rattle.tl_action.proofs.prepared.is_prepared.Goals as goal

pub state-requires-clause-fits : goal.state-requires-clause-fits
state-requires-clause-fits c = operator-condition (signature_of c.args.here.now.task.now.problem.domain)
    (length c.args.here.now.task.now.problem.names) c.args.operator.now c.requires.keeps

pub returns-in-Ok-clause-answer : goal.returns-in-Ok-clause-answer
returns-in-Ok-clause-answer c =
    c.in-Ok.ensures.value ∙ sure-prepared (signature_of c.args.here.now.task.now.problem.domain)
    (length c.args.here.now.task.now.problem.names) (plain_problem c.args.here.now.task.now.problem) c.args.here.now.world.now
    c.args.operator.now (assignment_in c.args.env.now) c.requires.keeps (sym c.requires.sure ∙ c.if-sure.true) c.requires.values

pub returns-in-Ok-clause-frame : goal.returns-in-Ok-clause-frame
returns-in-Ok-clause-frame c = subst (λ env. Agree (slots_of c.args.operator.now.params) (assignment_in env) (assignment_in c.args.env.now))
    (sym c.state.ensures.frame) (agree-self (slots_of c.args.operator.now.params) (assignment_in c.args.env.now))

pub returns-in-Err-clause-answer : goal.returns-in-Err-clause-answer
returns-in-Err-clause-answer c = condition-noted (plain_problem c.args.here.now.task.now.problem) c.args.here.now.world.now
    (assignment_in c.args.env.now) (plain_operator c.args.operator.now) c.in-Err.note c.in-Err.ensures.note

pub returns-in-Err-clause-frame : goal.returns-in-Err-clause-frame
returns-in-Err-clause-frame c = subst (λ env. Agree (slots_of c.args.operator.now.params) (assignment_in env)
    (assignment_in c.args.env.now)) (sym c.state.ensures.frame) (agree-self (slots_of c.args.operator.now.params)
    (assignment_in c.args.env.now))
