use Rattle.std.proofs.Common.{Some, None, true≢false, refl, sym, ◌∙◌, subst, inr}
use Rattle.std.proofs.lemmas.Result.{err_from_is_err_and}
use Rattle.tl_search.specs.NamedAnswers.{IsNamedIn}
use Rattle.tl_cert.specs.Checking.{IsTurnFault}
use Rattle.tl_cert.proofs.Depths.{asked-at}
use Rattle.tl_cert.proofs.Judged.{closed-over}
use Rattle.tl_cert.proofs.checking.Checking.judge.Goals as goal

pub returns-in_err-a-clause-fault : goal.returns-in_err-a-clause-fault
returns-in_err-a-clause-fault g c =
    let p = g.S.SearchSpace.problem c.args.space.now in
    let old = g.S.SearchSpace.kept c.args.space.now in
    let f = c.in_err-a.field-0.0 in
    let q = err_from_is_err_and c.from_residual-in_err-a.result c.from_residual-in_err-a.ensures.1 in
    rw (q.1, q.2) (λ x e. inr (
      asked-at c.args.self.now.bound c.as_slice.result.now old c.args.at x (c.as_slice.ensures ∙ c.requires.depths) e
          (sym c.goes_on.ensures ∙ c.if-not-goes_on.false),
      (subst (λ r. IsTurnFault r old c.args.at f) c.accepted.ensures.same.problem
          (subst (λ zs. IsTurnFault (g.S.SearchSpace.problem c.accepted.new.space) zs c.args.at f) c.accepted.ensures.kept
          c.in_err-a.ensures.fault)) x e,
    ))

pub returns-in-Some-clause-judged : goal.returns-in-Some-clause-judged
returns-in-Some-clause-judged g c = (
  refl,
  λ x e. record {
    unaccepted = λ h. true≢false (sym ((c.in_ok-accepted.ensures.accepted x e).1 h) ∙ c.if-branch.false);
    asked = asked-at c.args.self.now.bound c.as_slice.result.now (g.S.SearchSpace.kept c.args.space.now) c.args.at x
        (c.as_slice.ensures ∙ c.requires.depths) e (sym c.goes_on.ensures ∙ c.if-not-goes_on.false);
    first_out = closed-over (g.S.SearchSpace.problem c.args.space.now) _ c.args.self.now.bound
        (g.S.SearchSpace.kept c.args.space.now) _ c.args.at (Some c.in-Some.a) c.accepted.ensures.same.problem c.accepted.ensures.kept
        (rw c.in-Some.is at c.in_ok-a.ensures.closed) x e;
  },
)

pub returns-in-Some-clause-named : goal.returns-in-Some-clause-named
returns-in-Some-clause-named g c = subst (λ t. IsNamedIn t c.in-Some.a) c.accepted.ensures.same.task
    (rw c.in-Some.is at c.in_ok-a.ensures.named)

pub returns-in-None-clause-judged : goal.returns-in-None-clause-judged
returns-in-None-clause-judged g c x e = record {
  unaccepted = λ h. true≢false (sym ((c.in_ok-accepted.ensures.accepted x e).1 h) ∙ c.if-branch.false);
  closed = λ m. closed-over (g.S.SearchSpace.problem c.args.space.now) _ c.args.self.now.bound
      (g.S.SearchSpace.kept c.args.space.now) _ c.args.at None c.accepted.ensures.same.problem c.accepted.ensures.kept
      (rw c.in-None.is at c.in_ok-a.ensures.closed) x e;
}
