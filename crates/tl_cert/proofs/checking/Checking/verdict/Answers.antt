use Rattle.std.proofs.Common.{◌<◌, ◌≤◌, length, Some, None, ap, ◌∙◌, subst, arith}
use Rattle.std.proofs.lemmas.Result.{err_from_is_err_and}
use Rattle.tl_cert.specs.Checking.{IsJudgingFault, JudgesNode}
use Rattle.tl_cert.proofs.Depths.{length-depths}
use Rattle.tl_cert.proofs.Nodes.{right-more, all-right, first-wrong, fault-of-nodes}
use Rattle.tl_search.proofs.SameTaskLaws.{same-task-after}
use Rattle.tl_cert.proofs.checking.Checking.verdict.Goals as goal

pub returns-in_err-wrong-clause-fault : goal.returns-in_err-wrong-clause-fault
returns-in_err-wrong-clause-fault g c =
    let i = c.loop-at.invariant in
    let p = g.S.SearchSpace.problem c.args.space.now in
    let b = c.args.self.now.bound in
    let old = g.S.SearchSpace.kept c.args.space.now in
    let f = c.in_err-wrong.field-0.0 in
    let q = err_from_is_err_and c.from_residual.result c.from_residual.ensures.1 in
    let l : c.loop-at.at < length old = omega (
      arith,
      c.loop-at-test.true,
      c.len-at-end.ensures,
      ap length c.requires.depths,
      length-depths old,
    ) in
    rw (q.1, q.2) (fault-of-nodes p b old c.loop-at.at f l (subst (λ r. IsJudgingFault r b old c.loop-at.at f) i.same.problem
    (subst (λ zs. IsJudgingFault (g.S.SearchSpace.problem c.loop-at.space) b zs c.loop-at.at f) i.kept c.in_err-wrong.ensures.fault)))

pub returns-in-Some-clause-judged : goal.returns-in-Some-clause-judged
returns-in-Some-clause-judged g c =
    let i = c.loop-at.invariant in
    let p = g.S.SearchSpace.problem c.args.space.now in
    let b = c.args.self.now.bound in
    let old = g.S.SearchSpace.kept c.args.space.now in
    let o = Some c.in-Some.wrong in
    let l : c.loop-at.at < length old = omega (
      arith,
      c.loop-at-test.true,
      c.len-at-end.ensures,
      ap length c.requires.depths,
      length-depths old,
    ) in
    first-wrong p b old c.loop-at.at c.in-Some.wrong l i.right (subst (λ r. JudgesNode r b old c.loop-at.at o) i.same.problem
    (subst (λ zs. JudgesNode (g.S.SearchSpace.problem c.loop-at.space) b zs c.loop-at.at o) i.kept
    (rw c.in-Some.is at c.in_ok-wrong.ensures.judged)))

pub loop-at-preserved : goal.loop-at-preserved
loop-at-preserved g c =
    let i = c.loop-at.invariant in
    let p = g.S.SearchSpace.problem c.args.space.now in
    let b = c.args.self.now.bound in
    let old = g.S.SearchSpace.kept c.args.space.now in
    record {
      same = same-task-after c.judge.ensures.same i.same;
      kept = c.in_ok-wrong.ensures.kept c.in-None.is ∙ i.kept;
      right = right-more p b old c.loop-at.at i.right (subst (λ r. JudgesNode r b old c.loop-at.at None) i.same.problem
          (subst (λ zs. JudgesNode (g.S.SearchSpace.problem c.loop-at.space) b zs c.loop-at.at None) i.kept
          (rw c.in-None.is at c.in_ok-wrong.ensures.judged)));
    }

pub returns-clause-judged : goal.returns-clause-judged
returns-clause-judged g c =
    let old = g.S.SearchSpace.kept c.args.space.now in
    let l : length old ≤ c.loop-at.at = omega (
      arith,
      c.loop-at-test.false,
      c.len-at-end.ensures,
      ap length c.requires.depths,
      length-depths old,
    ) in
    all-right (g.S.SearchSpace.problem c.args.space.now) c.args.self.now.bound old c.loop-at.at l c.loop-at.invariant.right
