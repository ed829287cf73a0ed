use Rattle.std.proofs.Common.{length, sym, ap, ◌∙◌, subst, arith}
use Rattle.std.proofs.lemmas.Result.{err_from_is_err_and, IfOk-weaker, MatchResult-weaker}
use Rattle.tl_cert.specs.Links.{Lists, ListsRoot}
use Rattle.tl_cert.proofs.FaultLaws.{fault-at-root}
use Rattle.tl_cert.proofs.Nodes.{verdict-of, fault-of, lists-length, lists-over, judged-over, faults-over}
use Rattle.tl_cert.proofs.check.check_none.Goals as goal

pub returns-in_err-checking-clause-fault : goal.returns-in_err-checking-clause-fault
returns-in_err-checking-clause-fault g c =
    let q = err_from_is_err_and c.from_residual.result c.from_residual.ensures.1 in
    rw (q.1, q.2) (fault-at-root (g.S.SearchSpace.problem c.args.space.now) c.args.proof.now.bound c.args.proof.now.links
    c.in_err-checking.field-0.0 c.in_err-checking.ensures.fault)

pub list_all-requires-clause-root : goal.list_all-requires-clause-root
list_all-requires-clause-root g c = subst (λ p. ListsRoot p (g.S.SearchSpace.kept c.begin.new.space))
    (sym c.begin.ensures.same.problem) c.in_ok-checking.ensures.root

pub verdict-requires-clause-few : goal.verdict-requires-clause-few
verdict-requires-clause-few g c =
    let kept = g.S.SearchSpace.kept c.list_all.new.space in
    let l = lists-length _ _ _ kept (rw c.in-None.is at c.in_ok-number.ensures.listed) in
    omega (arith, l, ap length c.as_slice.ensures, c.requires.few)

pub returns-clause-verdict : goal.returns-clause-verdict
returns-clause-verdict g c =
    let p = g.S.SearchSpace.problem c.args.space.now in
    let proof = c.args.proof.now in
    let kept = g.S.SearchSpace.kept c.list_all.new.space in
    let lists : Lists p proof.bound proof.links kept = lists-over p _ proof.bound _ proof.links _ kept c.begin.ensures.same.problem
    c.in_ok-checking.ensures.bound c.as_slice.ensures (rw c.in-None.is at c.in_ok-number.ensures.listed) in
    IfOk-weaker c.verdict.result _ _ (λ v h. verdict-of p proof kept v lists
    (judged-over p _ proof.bound _ kept v (c.list_all.ensures.same.problem ∙ c.begin.ensures.same.problem)
    (c.list_all.ensures.bound ∙ c.in_ok-checking.ensures.bound) h)) c.verdict.ensures.judged

pub returns-clause-fault : goal.returns-clause-fault
returns-clause-fault g c =
    let p = g.S.SearchSpace.problem c.args.space.now in
    let proof = c.args.proof.now in
    let kept = g.S.SearchSpace.kept c.list_all.new.space in
    let lists : Lists p proof.bound proof.links kept = lists-over p _ proof.bound _ proof.links _ kept c.begin.ensures.same.problem
    c.in_ok-checking.ensures.bound c.as_slice.ensures (rw c.in-None.is at c.in_ok-number.ensures.listed) in
    MatchResult-weaker c.verdict.result c.verdict.ensures.fault (λ x t. t)
    (λ f h. fault-of p proof kept f lists (faults-over p _ proof.bound _ kept f
    (c.list_all.ensures.same.problem ∙ c.begin.ensures.same.problem)
    (c.list_all.ensures.bound ∙ c.in_ok-checking.ensures.bound) h))
