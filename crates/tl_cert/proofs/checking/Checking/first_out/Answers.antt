use Rattle.std.proofs.Common.{◌≡◌, slice_get, Some, true, false, refl, sym, ◌∙◌, subst}
use Rattle.std.proofs.lemmas.Option.{slice_get_read}
use Rattle.std.proofs.lemmas.Result.{err_from_is_err_and}
use Rattle.tl_syntax.proofs.ListLaws.{Each-Among}
use Rattle.tl_search.specs.Calls.{IsExecutableAt}
use Rattle.tl_search.specs.NamedAnswers.{IsNamedIn}
use Rattle.tl_search.proofs.ListLaws.{among-at}
use Rattle.tl_cert.specs.Checking.{IsVisitCause}
use Rattle.tl_cert.specs.Verdicts.{IsFirstOut}
use Rattle.tl_cert.proofs.FaultLaws.{visit-turn}
use Rattle.tl_cert.proofs.Judged.{first-out, inside-more, tells-over}
use Rattle.tl_search.proofs.SameTaskLaws.{same-task-after}
use Rattle.tl_cert.proofs.checking.Checking.first_out.Goals as goal

pub stays_inside-requires-clause-executable : goal.stays_inside-requires-clause-executable
stays_inside-requires-clause-executable g c =
    let i = c.loop-a.invariant in
    let old = g.S.SearchSpace.kept c.args.space.now in
    let at = slice_get_read _ _ c.loop-a.a-index c.a-item.result refl c.loop-a-test.true c.a-item.is in
    subst (λ p. IsExecutableAt p (g.S.SearchSpace.kept c.loop-a.space) c.args.at c.a-item.result) (sym i.same.problem)
    (subst (λ zs. IsExecutableAt (g.S.SearchSpace.problem c.args.space.now) zs c.args.at c.a-item.result) (sym i.kept)
    (λ x e. ((i.lists x e).exact c.a-item.result).0 (among-at c.as_slice-a-items.result.now c.loop-a.a-index c.a-item.result at)))

pub stays_inside-requires-clause-named : goal.stays_inside-requires-clause-named
stays_inside-requires-clause-named g c =
    let i = c.loop-a.invariant in
    let at = slice_get_read _ _ c.loop-a.a-index c.a-item.result refl c.loop-a-test.true c.a-item.is in
    subst (λ t. IsNamedIn t c.a-item.result) (sym i.same.task) ((Each-Among
    (IsNamedIn (g.S.SearchSpace.task c.args.space.now)) c.as_slice-a-items.result.now).0 i.named c.a-item.result
    (among-at c.as_slice-a-items.result.now c.loop-a.a-index c.a-item.result at))

pub returns-in_err-stays_inside-clause-fault : goal.returns-in_err-stays_inside-clause-fault
returns-in_err-stays_inside-clause-fault g c =
    let i = c.loop-a.invariant in
    let f = c.in_err-stays_inside.field-0.0 in
    let q = err_from_is_err_and c.from_residual-in_err-stays_inside.result c.from_residual-in_err-stays_inside.ensures.1 in
    rw (q.1, q.2) (λ x e. visit-turn (g.S.SearchSpace.problem c.args.space.now) x c.a-item.result f
    (subst (λ r. IsVisitCause r c.a-item.result x f) i.same.problem (c.in_err-stays_inside.ensures.fault x
    (subst (λ zs. slice_get zs c.args.at ≡ Some x) (sym i.kept) e))))

pub returns-then-not-branch-clause-closed : goal.returns-then-not-branch-clause-closed
returns-then-not-branch-clause-closed g c x e =
    let i = c.loop-a.invariant in
    let at = slice_get_read _ _ c.loop-a.a-index c.a-item.result refl c.loop-a-test.true c.a-item.is in
    let p = g.S.SearchSpace.problem c.args.space.now in
    let b = c.args.self.now.bound in
    let old = g.S.SearchSpace.kept c.args.space.now in
    subst (λ a. IsFirstOut p b old x a) (sym c.in_ok-copy.ensures.same)
    (first-out p b old c.args.at c.as_slice-a-items.result.now i.lists c.loop-a.a-index c.a-item.result at i.inside
    (tells-over p _ b old _ c.args.at c.a-item.result _ false i.same.problem i.kept c.if-not-branch.true
    c.in_ok-stays_inside.ensures.inside) x
    e)

pub loop-a-preserved : goal.loop-a-preserved
loop-a-preserved g c =
    let i = c.loop-a.invariant in
    let at = slice_get_read _ _ c.loop-a.a-index c.a-item.result refl c.loop-a-test.true c.a-item.is in
    let p = g.S.SearchSpace.problem c.args.space.now in
    let old = g.S.SearchSpace.kept c.args.space.now in
    record {
      same = same-task-after c.stays_inside.ensures.same i.same;
      kept = c.in_ok-stays_inside.ensures.kept c.if-not-branch.false ∙ i.kept;
      lists = i.lists;
      named = i.named;
      inside = inside-more p c.args.self.now.bound old c.args.at c.as_slice-a-items.result.now i.lists c.loop-a.a-index c.a-item.result at
          i.inside
          (tells-over p _ c.args.self.now.bound old _ c.args.at c.a-item.result _ true i.same.problem i.kept c.if-not-branch.false
          c.in_ok-stays_inside.ensures.inside);
    }
