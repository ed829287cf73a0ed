use Rattle.std.proofs.Common.{true, false, refl, ◌∙◌, subst, arith}
use Rattle.std.proofs.lemmas.Option.{slice_get_read}
use Rattle.std.proofs.lemmas.Result.{err_from_is_err_and}
use Rattle.tl_search.proofs.ListLaws.{get-inside}
use Rattle.tl_cert.specs.Checking.{IsRightSoFar, IsVisitCause, ListsLink}
use Rattle.tl_cert.proofs.FaultLaws.{fault-at-link}
use Rattle.tl_cert.proofs.Judged.{links-over, link-length}
use Rattle.tl_cert.proofs.Nodes.{first-bad, lists-more}
use Rattle.tl_search.proofs.SameTaskLaws.{same-task-after}
use Rattle.tl_cert.proofs.checking.Checking.list_all.Goals as goal

pub returns-in_err-list-clause-fault : goal.returns-in_err-list-clause-fault
returns-in_err-list-clause-fault g c =
    let i = c.loop-before.invariant in
    let p = g.S.SearchSpace.problem c.args.space.now in
    let kept = g.S.SearchSpace.kept c.loop-before.space in
    let link = c.index-links-before.result in
    let f = c.in_err-list.field-0.0 in
    let at = slice_get_read c.args.links.now _ c.loop-before.before link refl c.loop-before-test.true c.index-links-before.is in
    let x = get-inside kept link.from c.in_err-list.ensures.there in
    let q = err_from_is_err_and c.from_residual.result c.from_residual.ensures.1 in
    rw (q.1, q.2) (fault-at-link p c.args.self.now.bound c.args.links.now c.loop-before.before link kept x.0 at i.lists x.1 f
    (subst (λ r. IsVisitCause r link.action x.0 f) i.same.problem (c.in_err-list.ensures.fault x.0 x.1)))

pub returns-then-not-branch-clause-listed : goal.returns-then-not-branch-clause-listed
returns-then-not-branch-clause-listed g c =
    let i = c.loop-before.invariant in
    let p = g.S.SearchSpace.problem c.args.space.now in
    let link = c.index-links-before.result in
    let at = slice_get_read c.args.links.now _ c.loop-before.before link refl c.loop-before-test.true c.index-links-before.is in
    first-bad p c.args.self.now.bound c.args.links.now c.loop-before.before link (g.S.SearchSpace.kept c.loop-before.space)
    (g.S.SearchSpace.kept c.list.new.space) at i.lists
    (links-over p _ c.args.self.now.bound _ (g.S.SearchSpace.kept c.loop-before.space)
    (g.S.SearchSpace.kept c.list.new.space) link _ false i.same.problem i.bound c.if-not-branch.true c.in_ok-list.ensures.listed)

pub loop-before-preserved : goal.loop-before-preserved
loop-before-preserved g c =
    let i = c.loop-before.invariant in
    let p = g.S.SearchSpace.problem c.args.space.now in
    let b = c.args.self.now.bound in
    let old = g.S.SearchSpace.kept c.loop-before.space in
    let new = g.S.SearchSpace.kept c.list.new.space in
    let link = c.index-links-before.result in
    let at = slice_get_read c.args.links.now _ c.loop-before.before link refl c.loop-before-test.true c.index-links-before.is in
    let listed : ListsLink p b old new link true = links-over p _ b _ old new link _ true i.same.problem i.bound c.if-not-branch.false
    c.in_ok-list.ensures.listed in
    record {
      same = same-task-after c.list.ensures.same i.same;
      bound = c.list.ensures.bound ∙ i.bound;
      lists = lists-more p b c.args.links.now c.loop-before.before link old new at i.lists listed;
      ready = subst (λ t. IsRightSoFar t p new c.list.new.self) i.same.task
          (subst (λ r. IsRightSoFar (g.S.SearchSpace.task c.loop-before.space) r new c.list.new.self) i.same.problem
          (c.in_ok-list.ensures.ready c.if-not-branch.false));
      few = let l = link-length p b old new link listed in omega (arith, l, i.few);
    }
