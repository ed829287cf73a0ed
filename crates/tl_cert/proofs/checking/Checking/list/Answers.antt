use Rattle.std.proofs.Common.{◌≡◌, ◌<◌, ◌++◌, ◌∷◌, ◌+◌, ◌^◌, [], length, slice_get, Some, true, sym, ap, ◌∙◌, subst, arith}
use Rattle.tl_search.specs.Causes.{IsCausedByChild}
use Rattle.tl_search.specs.Kept.{AreKept}
use Rattle.tl_search.specs.NamedAnswers.{FaultIsNamed}
use Rattle.tl_search.specs.PairGraph.{pair_graph}
use Rattle.tl_search.specs.declared.arrival.Arrival.TheVariants as arrival
use Rattle.tl_cert.specs.Checking.{ListsLink}
use Rattle.tl_cert.proofs.Depths.{depth-at, there}
use Rattle.tl_cert.proofs.FaultLaws.{err-anyway, visit-told}
use Rattle.tl_cert.proofs.Judged.{from, link-fresh, arrives-over, ready-more, depth-small}
use Rattle.tl_cert.proofs.checking.Checking.list.Goals as goal

pub overflow_add-depth : goal.overflow_add-depth
overflow_add-depth g c =
    let old = g.S.SearchSpace.kept c.args.space.now in
    let h : c.in-Some.depth + 1 < 2 ^ 32 = depth-small old c.args.link.now.from c.in-Some.depth
    (depth-at c.args.self.now.depths old c.args.link.now.from c.in-Some.depth c.requires.ready.depths c.in-Some.ensures)
    c.requires.ready.short c.requires.few in
    omega (arith, h)

pub returns-in_ok-push-in-Ok-Fresh-clause-listed : goal.returns-in_ok-push-in-Ok-Fresh-clause-listed
returns-in_ok-push-in-Ok-Fresh-clause-listed g c =
    let p = g.S.SearchSpace.problem c.args.space.now in
    let b = c.args.self.now.bound in
    let old = g.S.SearchSpace.kept c.args.space.now in
    let new = g.S.SearchSpace.kept c.child.new.self in
    let link = c.args.link.now in
    let at = depth-at c.args.self.now.depths old link.from c.in-Some.depth c.requires.ready.depths c.in-Some.ensures in
    let x = from p b old link c.in-Some.depth at in
    link-fresh p b old link c.in-Some.depth at new c.in-Ok-Fresh.field-0-0 (sym c.goes_on.ensures ∙ c.if-not-goes_on.false)
    (subst (λ q. AreKept (pair_graph q) new) (c.child.ensures.same.problem ∙ c.has_step.ensures.same.problem) c.child.ensures.kept)
    (arrives-over p (g.S.SearchSpace.problem c.has_step.new.space) old (g.S.SearchSpace.kept c.has_step.new.space) new link.from link.action
    (arrival.Fresh c.in-Ok-Fresh.field-0-0) c.has_step.ensures.same.problem c.has_step.ensures.kept
    (rw c.in-Ok-Fresh.field-0-is at c.in-Ok-Fresh.ensures.arrival) x.0 x.1)

pub returns-in_ok-push-in-Ok-Fresh-clause-ready : goal.returns-in_ok-push-in-Ok-Fresh-clause-ready
returns-in_ok-push-in-Ok-Fresh-clause-ready g c t =
    let p = g.S.SearchSpace.problem c.args.space.now in
    let b = c.args.self.now.bound in
    let old = g.S.SearchSpace.kept c.args.space.now in
    let new = g.S.SearchSpace.kept c.child.new.self in
    let link = c.args.link.now in
    let at = depth-at c.args.self.now.depths old link.from c.in-Some.depth c.requires.ready.depths c.in-Some.ensures in
    let x = from p b old link c.in-Some.depth at in
    let listed : ListsLink p b old new link true = link-fresh p b old link c.in-Some.depth at new c.in-Ok-Fresh.field-0-0
    (sym c.goes_on.ensures ∙ c.if-not-goes_on.false)
    (subst (λ q. AreKept (pair_graph q) new) (c.child.ensures.same.problem ∙ c.has_step.ensures.same.problem) c.child.ensures.kept)
    (arrives-over p (g.S.SearchSpace.problem c.has_step.new.space) old (g.S.SearchSpace.kept c.has_step.new.space) new link.from link.action
    (arrival.Fresh c.in-Ok-Fresh.field-0-0) c.has_step.ensures.same.problem c.has_step.ensures.kept
    (rw c.in-Ok-Fresh.field-0-is at c.in-Ok-Fresh.ensures.arrival) x.0 x.1) in
    ready-more (g.S.SearchSpace.task c.args.space.now) p b old new link c.in-Some.depth
    (record { alloc = c.args.self.now.alloc; bound = b; depths = c.push.new.self; known = c.has_step.new.known }) at
    c.requires.ready.short c.in_ok-has_step.ensures.known
    (c.in_ok-push-in-Ok-Fresh.ensures ∙ ap (λ ds. ds ++ (c.in-Some.depth + 1) ∷ []) c.requires.ready.depths) listed

pub returns-in_err-has_step-clause-there : goal.returns-in_err-has_step-clause-there
returns-in_err-has_step-clause-there g c = err-anyway (c.args.link.now.from < length (g.S.SearchSpace.kept c.args.space.now)) _
    (there c.args.self.now.depths (g.S.SearchSpace.kept c.args.space.now) c.args.link.now.from c.in-Some.depth c.requires.ready.depths
    c.in-Some.ensures)

pub returns-in_err-push-in-Ok-Fresh-clause-there : goal.returns-in_err-push-in-Ok-Fresh-clause-there
returns-in_err-push-in-Ok-Fresh-clause-there g c = err-anyway (c.args.link.now.from < length (g.S.SearchSpace.kept c.args.space.now)) _
    (there c.args.self.now.depths (g.S.SearchSpace.kept c.args.space.now) c.args.link.now.from c.in-Some.depth c.requires.ready.depths
    c.in-Some.ensures)

pub returns-in-Err-clause-there : goal.returns-in-Err-clause-there
returns-in-Err-clause-there g c = there c.args.self.now.depths (g.S.SearchSpace.kept c.args.space.now) c.args.link.now.from c.in-Some.depth
    c.requires.ready.depths c.in-Some.ensures

pub returns-in-Err-clause-fault : goal.returns-in-Err-clause-fault
returns-in-Err-clause-fault g c = λ x e.
    let link = c.args.link.now in
    let k : slice_get (g.S.SearchSpace.kept c.has_step.new.space) link.from ≡ Some x =
    subst (λ xs. slice_get xs link.from ≡ Some x) (sym c.has_step.ensures.kept) e in
    visit-told _ link.action x c.in-Err.fault c.child_fault.result (c.child_fault.ensures.fault x
    (subst (λ xs. slice_get xs link.from ≡ Some x) (sym c.in-Err.ensures.refused) k))
    (subst (λ p. IsCausedByChild p x.node link.action c.in-Err.fault) c.has_step.ensures.same.problem (c.in-Err.ensures.cause x k))

pub returns-in-Err-clause-named : goal.returns-in-Err-clause-named
returns-in-Err-clause-named g c = subst (λ t. FaultIsNamed t c.child_fault.result)
    (c.child.ensures.same.task ∙ c.has_step.ensures.same.task) c.child_fault.ensures.named
