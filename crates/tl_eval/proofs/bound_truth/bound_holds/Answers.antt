use Rattle.tl_eval.specs.Frames.{assignment_in}
use Rattle.tl_eval.proofs.BoundLaws.{predicates-few, functions-few, few-Fact, few-GoalFact, few-GoalNot, few-Place, few-GoalPlace}
use Rattle.tl_eval.proofs.BoundLaws.{truth-Fact, truth-GoalFact, truth-GoalNot, truth-Place, truth-GoalPlace}
use Rattle.tl_syntax.specs.Signature.{signature_of}
use Rattle.tl_terms.specs.Definitions.{situation_of}
use Rattle.tl_terms.specs.ProblemMeaning.{plain_problem}
use Rattle.tl_eval.proofs.bound_truth.bound_holds.Goals as goal

pub fact_true-requires : goal.fact_true-requires
fact_true-requires c =
    rw c.as_slice.ensures (few-Fact (signature_of c.args.task.now.problem.domain) c.args.b.now c.in-Fact.pred c.in-Fact.args
    (predicates-few c.args.task.now.problem) c.in-Fact.is c.requires)

pub place_true-requires : goal.place_true-requires
place_true-requires c =
    rw c.as_slice-in-Place.ensures (few-Place (signature_of c.args.task.now.problem.domain) c.args.b.now c.in-Place.fun c.in-Place.args
    c.in-Place.value (functions-few c.args.task.now.problem) c.in-Place.is c.requires)

pub fact_true-requires-in-GoalFact : goal.fact_true-requires-in-GoalFact
fact_true-requires-in-GoalFact c =
    rw c.as_slice-in-GoalFact.ensures (few-GoalFact (signature_of c.args.task.now.problem.domain) c.args.b.now c.in-GoalFact.pred
    c.in-GoalFact.args (predicates-few c.args.task.now.problem) c.in-GoalFact.is c.requires)

pub place_true-requires-in-GoalPlace : goal.place_true-requires-in-GoalPlace
place_true-requires-in-GoalPlace c =
    rw c.as_slice-in-GoalPlace.ensures (few-GoalPlace (signature_of c.args.task.now.problem.domain) c.args.b.now c.in-GoalPlace.fun
    c.in-GoalPlace.args c.in-GoalPlace.value (functions-few c.args.task.now.problem) c.in-GoalPlace.is c.requires)

pub fact_true-requires-in-GoalNot : goal.fact_true-requires-in-GoalNot
fact_true-requires-in-GoalNot c =
    rw c.as_slice-in-GoalNot.ensures (few-GoalNot (signature_of c.args.task.now.problem.domain) c.args.b.now c.in-GoalNot.pred
    c.in-GoalNot.args (predicates-few c.args.task.now.problem) c.in-GoalNot.is c.requires)

pub returns-in-Fact : goal.returns-in-Fact
unfolding situation_of
returns-in-Fact c =
    truth-Fact (situation_of (plain_problem c.args.task.now.problem) c.args.w.now)
    (assignment_in c.args.env.now) c.args.b.now c.in-Fact.pred c.in-Fact.args c.fact_true.result c.in-Fact.is
    (rw c.as_slice.ensures at rw c.frame-frame.ensures at c.fact_true.ensures)

pub returns-in-Place : goal.returns-in-Place
unfolding situation_of
returns-in-Place c =
    truth-Place (situation_of (plain_problem c.args.task.now.problem) c.args.w.now)
    (assignment_in c.args.env.now) c.args.b.now c.in-Place.fun c.in-Place.args c.in-Place.value c.place_true.result c.in-Place.is
    (rw c.as_slice-in-Place.ensures at rw c.frame-frame.ensures at c.place_true.ensures)

pub returns-in-GoalFact : goal.returns-in-GoalFact
unfolding situation_of
returns-in-GoalFact c =
    truth-GoalFact (situation_of (plain_problem c.args.task.now.problem) c.args.w.now)
    (assignment_in c.args.env.now) c.args.b.now c.in-GoalFact.pred c.in-GoalFact.args c.args.task.now.goal
    c.fact_true-in-GoalFact.result c.in-GoalFact.is c.args.task.now.goal_is
    (rw c.as_slice-in-GoalFact.ensures at rw c.frame-frame.ensures at c.fact_true-in-GoalFact.ensures)

pub returns-in-GoalPlace : goal.returns-in-GoalPlace
unfolding situation_of
returns-in-GoalPlace c =
    truth-GoalPlace (situation_of (plain_problem c.args.task.now.problem) c.args.w.now)
    (assignment_in c.args.env.now) c.args.b.now c.in-GoalPlace.fun c.in-GoalPlace.args c.in-GoalPlace.value c.args.task.now.goal
    c.place_true-in-GoalPlace.result c.in-GoalPlace.is c.args.task.now.goal_is
    (rw c.as_slice-in-GoalPlace.ensures at rw c.frame-frame.ensures at c.place_true-in-GoalPlace.ensures)

pub returns-in-GoalNot : goal.returns-in-GoalNot
unfolding situation_of
returns-in-GoalNot c =
    truth-GoalNot (situation_of (plain_problem c.args.task.now.problem) c.args.w.now)
    (assignment_in c.args.env.now) c.args.b.now c.in-GoalNot.pred c.in-GoalNot.args c.args.task.now.avoid c.fact_true-in-GoalNot.result
    c.in-GoalNot.is c.args.task.now.avoid_is (rw c.as_slice-in-GoalNot.ensures at rw c.frame-frame.ensures at
    c.fact_true-in-GoalNot.ensures)
