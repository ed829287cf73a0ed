use Rattle.tl_run.proofs.laws.laws.Goals as goal

pub returns : goal.returns
returns c = record {
  verdicts = c.plan_has_one_verdict.ensures;
  problems = c.files_stand_for_one_problem.ensures;
  orders = c.plan_order_is_total.ensures;
  exclusions = c.answers_exclude_each_other.ensures;
  few_pairs = c.few_pairs_are_not_spent.ensures;
  calm = c.calm_has_no_cause.ensures;
  traces = c.breadth_first_events_are_one.ensures;
  deep_traces = c.depth_first_events_are_one.ensures;
  quiet = c.no_arithmetic_looks_at_nothing.ensures;
  covered = c.covered_has_none.ensures;
  none_verdicts = c.one_none_verdict.ensures;
  loop_verdicts = c.one_loop_verdict.ensures;
}
