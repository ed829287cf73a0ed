use Rattle.std.proofs.Common.{◌≡◌, List, length, sym, subst}
use Rattle.tl_cert.specs.ProofTexts.{LinksAreNamed, proof_text}
use Rattle.tl_cert.specs.declared.proof.Link.{Link}
use Rattle.tl_space.specs.Spaces.{kept_of, problem_of, task_of}
use Rattle.tl_world.specs.declared.task.Task.{Task}
use Rattle.tl_run.proofs.NoneReports.{certificate_replied, few_kept, few_links, links_named, none_report}
use Rattle.tl_run.proofs.commands.prove_none.proof_reply.Goals as goal

pub certificate-requires-clause-few : goal.certificate-requires-clause-few
certificate-requires-clause-few c = few_kept c.args.search (problem_of c.args.space.now)
    (kept_of c.args.space.now) c.args.report.now c.requires.breadth c.requires.right c.requires.none c.requires.limits

pub certificate-requires-clause-none : goal.certificate-requires-clause-none
certificate-requires-clause-none c = none_report c.args.search (problem_of c.args.space.now)
    (kept_of c.args.space.now) c.args.report.now c.requires.breadth c.requires.right c.requires.none

pub proof_text-requires : goal.proof_text-requires
proof_text-requires c =
    let kept = kept_of c.args.space.now in
    let task = task_of c.args.space.now in
    let links = c.in_ok-proof.proof.links in
    let named = links_named task.problem.names task.problem.domain (length kept) c.args.report.now.events c.requires.named.events in
    subst (λ (t : Task). LinksAreNamed t.problem.names t.problem.domain.operators links) (sym c.task.ensures)
    (subst (λ (ls : List Link). LinksAreNamed task.problem.names task.problem.domain.operators ls) (sym c.in_ok-proof.ensures.links) named)

pub returns : goal.returns
returns c = λ d p.
    let kept = kept_of c.args.space.now in
    let made = c.in_ok-proof.ensures in
    let proof = c.in_ok-proof.proof in
    let text = c.in_ok-text.text in
    let line : text ≡ proof_text (task_of c.args.space.now).problem.names (task_of c.args.space.now).problem.domain.operators proof =
    subst (λ (t : Task). text ≡ proof_text t.problem.names t.problem.domain.operators proof) c.task.ensures c.in_ok-text.ensures.text in
    let few = few_links c.args.search (problem_of c.args.space.now) kept c.args.report.now c.requires.breadth c.requires.right
    c.requires.none c.requires.limits (length proof.links) made.many in
    certificate_replied c.args.search d p (task_of c.args.space.now).problem kept c.args.report.now proof text c.requires.right
    c.requires.none made.covers made.bound made.order few c.in_ok-text.ensures.fits line
