-- The domain that is read keeps what the domain of every problem keeps.
use Rattle.std.proofs.Common.{ℕ, List, Result, Ok, Err, length}
use Rattle.std.specs.Prelude.{IfOk}
use Rattle.tl_sexpr.specs.Tree.{FormTrees}
use Rattle.tl_syntax.specs.declared.domain.Domain.{Domain}
use Rattle.tl_syntax.specs.Kept.{DomainKeeps}
use Rattle.tl_rules.specs.Named.{HaveNames}
use Rattle.tl_rules.specs.Reads.{Reads}
use Rattle.tl_rules.specs.declared.rule.FormFault.{FormFault}
use Rattle.tl_domain.specs.DomainFiles.{domain_file_breaks}
use Rattle.tl_domain.specs.DomainTrees.{domain_tree}
use Rattle.tl_domain.specs.MeaningOfItems.{domain_file_meant}
use Rattle.tl_domain.proofs.KeepsFiles.{domain-is-kept}

pub domain-kept : (result : Result Domain FormFault) (names : List (List ℕ)) (fs : FormTrees) →
    Reads domain_tree result (domain_file_breaks fs) (domain_file_meant names fs) → HaveNames names fs →
    IfOk result (DomainKeeps (length names))
domain-kept (Ok d) names fs read have = domain-is-kept names fs d read.0 have read.1
domain-kept (Err fault) names fs read have = tt

pub ruleset domain_kept = (domain-kept)
