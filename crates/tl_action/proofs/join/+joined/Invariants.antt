use Rattle.std.proofs.Common.{◌+◌, ◌-◌, ◌*◌, length, take, drop}
use Rattle.tl_action.specs.Join.{arranged, AgreeOnSeen}
use Rattle.tl_action.proofs.BoundTuples.{left}
use Rattle.tl_action.proofs.JoinReads.{RowsRead}
use Rattle.tl_eval.specs.BoundTuples.{ReadsBound}
use Rattle.tl_eval.specs.Frames.{assignment_in}
use Rattle.tl_terms.specs.Definitions.{situation_of}
use Rattle.tl_terms.specs.ProblemMeaning.{plain_operator, plain_problem}
use Rattle.tl_action.proofs.join.+joined.Given as goal

abbrev pub decreases-join_bound : goal.decreases-join_bound
decreases-join_bound l = 2 * (length (arranged l.order.now.bounds).bounds - l.j)

abbrev pub decreases-join : goal.decreases-join
decreases-join l = 1 + 2 * (length (arranged l.order.now.bounds).bounds - l.j)

abbrev pub decreases-join_bound-loop-vars : goal.decreases-join_bound-loop-vars
decreases-join_bound-loop-vars l = length (left (situation_of (plain_problem l.here.task.now.problem) l.here.world.now)
    (assignment_in l.fn.env) l.vars l.bound l.tuples.tuple)

abbrev pub invariant-join_bound-loop-vars : goal.invariant-join_bound-loop-vars
invariant-join_bound-loop-vars l = record {
  reads : ReadsBound (situation_of (plain_problem l.here.task.now.problem) l.here.world.now) l.vars
      (assignment_in l.fn.env) l.bound l.tuples;
  frame : AgreeOnSeen (take l.j (arranged l.order.bounds).bounds) l.order.bounds.operator.now.params (assignment_in l.env)
      (assignment_in l.fn.env);
  found : RowsRead (plain_problem l.here.task.now.problem) l.here.world.now (plain_operator (arranged l.order.bounds))
      (take (l.j + 1) (arranged l.order.bounds).bounds) (drop (l.j + 1) (arranged l.order.bounds).bounds)
      (assignment_in l.fn.env) l.vars l.bound l.tuples.tuple l.fn.rows.items l.rows.items;
}
