-- A domain file means something exactly where it breaks no rule.
use Rattle.std.specs.Prelude.{◌≡◌, ℕ, List}
use Rattle.tl_sexpr.specs.Tree.{FormTrees}
use Rattle.tl_rules.specs.Unbroken.{where_unbroken}
use Rattle.tl_domain.specs.DomainFiles.{domain_file_breaks}
use Rattle.tl_domain.specs.MeaningOfItems.{domain_file_meant}
use Rattle.tl_domain.specs.PartialItems.{domain_file_meaning}

-- and there it means the domain that it stands for
abbrev pub DomainFilesMean : Type 0
DomainFilesMean =
    (names : List (List ℕ)) (forms : FormTrees)
    → domain_file_meaning names forms ≡ where_unbroken (domain_file_breaks forms) (domain_file_meant names forms)
