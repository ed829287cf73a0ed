use Rattle.std.proofs.Common.{◌≡◌, ◌<◌, length, slice_get, slice_index, Some, sym, ap, ◌∙◌, subst, arith}
use Rattle.std.proofs.lemmas.Option.{slice_get_within}
use Rattle.tl_search.specs.Kept.{AreKept}
use Rattle.tl_search.specs.NamedAnswers.{FaultIsNamed, IsNamedIn}
use Rattle.tl_search.specs.PairGraph.{pair_graph}
use Rattle.tl_search.proofs.ListLaws.{get-inside}
use Rattle.tl_cert.specs.Checking.{is_no_farther, TellsInside}
use Rattle.tl_cert.proofs.Depths.{length-depths}
use Rattle.tl_cert.proofs.FaultLaws.{visit-told}
use Rattle.tl_cert.proofs.Judged.{inside-fresh, inside-seen}
use Rattle.tl_cert.proofs.checking.Checking.stays_inside.Goals as goal

pub is_no_farther-requires-clause-other : goal.is_no_farther-requires-clause-other
is_no_farther-requires-clause-other g c =
    let old = g.S.SearchSpace.kept c.args.space.now in
    let x = get-inside old c.args.at c.requires.at in
    let h = (rw c.in-Ok-Seen.field-0-is at c.in-Ok-Seen.ensures.arrival) x.0 x.1 in
    let l : c.in-Ok-Seen.k < length old = slice_get_within old c.in-Ok-Seen.k h.1.0 h.1.1 in
    omega (arith, l, ap length c.requires.depths, length-depths old)

pub child_fault-requires-clause-named : goal.child_fault-requires-clause-named
child_fault-requires-clause-named g c = subst (λ t. IsNamedIn t c.args.a.now) (sym c.child.ensures.same.task) c.requires.named

pub returns-in-Ok-Fresh-clause-inside : goal.returns-in-Ok-Fresh-clause-inside
returns-in-Ok-Fresh-clause-inside g c =
    let old = g.S.SearchSpace.kept c.args.space.now in
    let new = g.S.SearchSpace.kept c.child.new.self in
    let x = get-inside old c.args.at c.requires.at in
    inside-fresh (g.S.SearchSpace.problem c.args.space.now) c.args.self.now.bound old c.args.at x.0 x.1 c.args.a.now new _
    (subst (λ p. AreKept (pair_graph p) new) c.child.ensures.same.problem c.child.ensures.kept)
    ((rw c.in-Ok-Fresh.field-0-is at c.in-Ok-Fresh.ensures.arrival) x.0 x.1)

pub returns-in-Ok-Seen-clause-kept : goal.returns-in-Ok-Seen-clause-kept
returns-in-Ok-Seen-clause-kept g c t =
    let x = get-inside (g.S.SearchSpace.kept c.args.space.now) c.args.at c.requires.at in
    ((rw c.in-Ok-Seen.field-0-is at c.in-Ok-Seen.ensures.arrival) x.0 x.1).0

pub returns-in-Ok-Seen-clause-inside : goal.returns-in-Ok-Seen-clause-inside
returns-in-Ok-Seen-clause-inside g c =
    let p = g.S.SearchSpace.problem c.args.space.now in
    let b = c.args.self.now.bound in
    let old = g.S.SearchSpace.kept c.args.space.now in
    let x = get-inside old c.args.at c.requires.at in
    let h = (rw c.in-Ok-Seen.field-0-is at c.in-Ok-Seen.ensures.arrival) x.0 x.1 in
    subst (TellsInside p b old c.args.at c.args.a.now) (sym (c.is_no_farther.ensures ∙
    ap (λ ds. is_no_farther b (slice_index ds c.args.at) (slice_index ds c.in-Ok-Seen.k)) c.requires.depths))
    (inside-seen p b old c.args.at x.0 x.1 c.args.a.now _ c.in-Ok-Seen.k
    (subst (AreKept (pair_graph p)) h.0 (subst (λ q. AreKept (pair_graph q) (g.S.SearchSpace.kept c.child.new.self))
    c.child.ensures.same.problem c.child.ensures.kept)) h)

pub returns-in-Ok-Pruned-clause-kept : goal.returns-in-Ok-Pruned-clause-kept
returns-in-Ok-Pruned-clause-kept g c t =
    let x = get-inside (g.S.SearchSpace.kept c.args.space.now) c.args.at c.requires.at in
    ((rw c.in-Ok-Pruned.field-0-is at c.in-Ok-Pruned.ensures.arrival) x.0 x.1).0

pub returns-in-Err-clause-fault : goal.returns-in-Err-clause-fault
returns-in-Err-clause-fault g c = λ x e.
    visit-told _ c.args.a.now x c.in-Err.fault c.child_fault.result (c.child_fault.ensures.fault x
    (subst (λ xs. slice_get xs c.args.at ≡ Some x) (sym c.in-Err.ensures.refused) e))
    (c.in-Err.ensures.cause x e)

pub returns-in-Err-clause-path_named : goal.returns-in-Err-clause-path_named
returns-in-Err-clause-path_named g c = subst (λ t. FaultIsNamed t c.child_fault.result) c.child.ensures.same.task
    c.child_fault.ensures.named
