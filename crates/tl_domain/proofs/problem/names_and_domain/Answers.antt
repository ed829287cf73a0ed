use Rattle.tl_sexpr.specs.Tree.{trees_of}
use Rattle.tl_domain.proofs.FilesStand.{read-domain}
use Rattle.tl_domain.proofs.problem.names_and_domain.Goals as goal

pub returns-in-Ok : goal.returns-in-Ok
returns-in-Ok c =
    let e = c.in-Ok.ensures in
    record {
      read = read-domain (trees_of c.args.first.now) (trees_of c.args.second.now) c.in_ok-names.names c.in-Ok.domain
          c.in_ok-names.ensures.names e.read.1 e.keeps;
    }
