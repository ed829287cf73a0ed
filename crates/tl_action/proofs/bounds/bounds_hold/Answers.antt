use Rattle.std.proofs.Common.{refl}
use Rattle.tl_action.proofs.Walks.{each-item, all-on, all-stop, all-end}
use Rattle.tl_eval.specs.Frames.{assignment_in}
use Rattle.tl_syntax.specs.Fits.{BoundFits}
use Rattle.tl_syntax.specs.Signature.{signature_of}
use Rattle.tl_terms.specs.Bounds.{bound_true}
use Rattle.tl_terms.specs.Definitions.{situation_of}
use Rattle.tl_terms.specs.ProblemMeaning.{plain_problem}
use Rattle.tl_action.proofs.bounds.bounds_hold.Goals as goal

pub loop-bound-init : goal.loop-bound-init
loop-bound-init c = refl

pub bound_holds-requires : goal.bound_holds-requires
bound_holds-requires c = each-item (BoundFits (signature_of c.args.here.now.task.now.problem.domain)) c.args.bounds.now
    c.loop-bound.bound-index c.bound-item.result c.requires c.loop-bound-test.true c.bound-item.is

pub returns-then-not-bound_holds : goal.returns-then-not-bound_holds
returns-then-not-bound_holds c = all-stop (bound_true (situation_of (plain_problem c.args.here.now.task.now.problem)
    c.args.here.now.world.now) (assignment_in c.args.env.now)) c.args.bounds.now c.loop-bound.bound-index c.bound-item.result
    c.loop-bound-test.true c.bound-item.is c.bound_holds.result c.bound_holds.ensures c.loop-bound.invariant c.if-not-bound_holds.true

pub loop-bound-preserved : goal.loop-bound-preserved
loop-bound-preserved c = all-on (bound_true (situation_of (plain_problem c.args.here.now.task.now.problem) c.args.here.now.world.now)
    (assignment_in c.args.env.now)) c.args.bounds.now c.loop-bound.bound-index c.bound-item.result c.loop-bound-test.true c.bound-item.is
    c.bound_holds.result c.bound_holds.ensures c.loop-bound.invariant c.if-not-bound_holds.false

pub returns : goal.returns
returns c = all-end (bound_true (situation_of (plain_problem c.args.here.now.task.now.problem) c.args.here.now.world.now)
    (assignment_in c.args.env.now)) c.args.bounds.now c.loop-bound.bound-index c.loop-bound-test.false c.loop-bound.invariant
