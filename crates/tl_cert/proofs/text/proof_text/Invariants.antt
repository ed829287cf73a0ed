use Rattle.std.proofs.Common.{◌≡◌, ◌++◌, drop}
use Rattle.tl_cert.specs.ProofTexts.{LinksAreNamed, LinksFit, link_lines, proof_text}
use Rattle.tl_cert.proofs.text.proof_text.Given as goal

-- the lines so far, and after them those of the links that are left
abbrev pub invariant-loop-link : goal.invariant-loop-link
invariant-loop-link l = record {
  text : proof_text l.problem.names l.problem.domain.operators l.proof ≡ l.text ++
      link_lines l.problem.names l.problem.domain.operators (drop l.link-index l.link-items);
  named : LinksAreNamed l.problem.names l.problem.domain.operators (drop l.link-index l.link-items);
  fits : LinksFit (drop l.link-index l.link-items) → LinksFit l.proof.links;
}
