use Rattle.std.proofs.Common.{◌≡◌, ◌≤◌, ◌++◌, length, drop}
use Rattle.tl_rules.specs.Reads.{trees_in}
use Rattle.tl_cert.specs.MeaningOfProofs.{links_meant}
use Rattle.tl_cert.specs.ProofFiles.{links_breaks}
use Rattle.tl_cert.specs.ProofTexts.{LinksAreNamed}
use Rattle.tl_cert.proofs.read.links.Given as goal

-- the links so far, and after them those that are left
abbrev pub invariant-loop-form : goal.invariant-loop-form
invariant-loop-form l = record {
  breaks : links_breaks l.problem.names l.problem.domain.operators 0 (trees_in l.forms) ≡
      links_breaks l.problem.names l.problem.domain.operators (length l.links) (trees_in (drop l.form-index l.forms));
  meant : links_meant l.problem.names l.problem.domain.operators (trees_in l.forms) ≡ l.links ++
      links_meant l.problem.names l.problem.domain.operators (trees_in (drop l.form-index l.forms));
  few : length l.links ≤ 100000;
  named : LinksAreNamed l.problem.names l.problem.domain.operators l.links;
}
