use Rattle.std.proofs.Common.{◌≡◌, drop}
use Rattle.std.specs.List.{list_all}
use Rattle.tl_eval.specs.Frames.{assignment_in}
use Rattle.tl_terms.specs.Bounds.{bound_true}
use Rattle.tl_terms.specs.Definitions.{situation_of}
use Rattle.tl_terms.specs.ProblemMeaning.{plain_problem}
use Rattle.tl_action.proofs.bounds.bounds_hold.Given as goal

abbrev pub invariant-loop-bound : goal.invariant-loop-bound
invariant-loop-bound l =
    let test = bound_true (situation_of (plain_problem l.here.task.now.problem) l.here.world.now) (assignment_in l.env) in
    list_all test l.bounds ≡ list_all test (drop l.bound-index l.bounds)
