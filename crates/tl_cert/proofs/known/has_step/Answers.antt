use Rattle.std.proofs.Common.{◌≡◌, Some, slice_get, sym, subst}
use Rattle.tl_syntax.specs.Lists.{Among}
use Rattle.tl_syntax.proofs.ListLaws.{Each-Among}
use Rattle.tl_search.specs.NamedAnswers.{IsNamedIn}
use Rattle.tl_search.proofs.ListLaws.{get-inside}
use Rattle.tl_cert.proofs.known.has_step.Goals as goal

pub returns-clause-has_step : goal.returns-clause-has_step
returns-clause-has_step g c =
    let kept = g.S.SearchSpace.kept c.args.space.now in
    let now = c.in_ok-now.now in
    let known = c.in_ok-now.ensures.known in (
      λ t x e. ((known.actions x (subst (λ k. slice_get kept k ≡ Some x) (sym c.in_ok-now.ensures.place) e)).exact c.args.a.now).0
          (subst (Among c.args.a.now) c.as_slice.ensures (c.is_among-has.ensures.0 t)),
      λ h. c.is_among-has.ensures.1 (
          let x = get-inside kept now.at known.inside in
          subst (Among c.args.a.now) (sym c.as_slice.ensures) (((known.actions x.0 x.1).exact c.args.a.now).1
          (h x.0 (subst (λ k. slice_get kept k ≡ Some x.0) c.in_ok-now.ensures.place x.1)))),
    )

pub returns-clause-named : goal.returns-clause-named
returns-clause-named g c t = (Each-Among (IsNamedIn (g.S.SearchSpace.task c.args.space.now)) c.in_ok-now.now.actions).0
    c.in_ok-now.ensures.known.named c.args.a.now (subst (Among c.args.a.now) c.as_slice.ensures (c.is_among-has.ensures.0 t))
