-- The fault of a domain file is its least break.
use Rattle.std.proofs.Common.{Result, Ok, Err}
use Rattle.std.specs.Prelude.{IfErr}
use Rattle.tl_sexpr.specs.Offsets.{AreAsRead}
use Rattle.tl_sexpr.specs.Tree.{FormTrees}
use Rattle.tl_syntax.specs.declared.domain.Domain.{Domain}
use Rattle.tl_rules.specs.Reads.{Reads, IsLeastFault}
use Rattle.tl_rules.specs.declared.rule.FormFault.{FormFault}
use Rattle.tl_rules.specs.declared.rule.FormFault.TheVariants.{Breaks, NoMemory}
use Rattle.tl_domain.specs.DomainFiles.{domain_file_breaks}
use Rattle.tl_domain.specs.DomainTrees.{DomainTree, domain_tree}
use Rattle.tl_domain.proofs.FileOrder.{first-break-least}

pub least-fault : (result : Result Domain FormFault) (fs : FormTrees) (meant : DomainTree) →
    Reads domain_tree result (domain_file_breaks fs) meant → AreAsRead fs → IfErr result (IsLeastFault (domain_file_breaks fs))
least-fault (Ok d) fs meant h read = tt
least-fault (Err (Breaks broken at)) fs meant h read = first-break-least fs (broken, at) read h
least-fault (Err NoMemory) fs meant h read = tt

pub ruleset least_fault = (least-fault)
