-- What a domain keeps that a lawful file stands for.
use Rattle.std.specs.Prelude.{◌≡◌, ℕ, List, [], length}
use Rattle.tl_sexpr.specs.Tree.{FormTrees}
use Rattle.tl_syntax.specs.declared.domain.Domain.{Domain}
use Rattle.tl_syntax.specs.Kept.{DomainKeeps}
use Rattle.tl_rules.specs.Named.{HaveNames}
use Rattle.tl_domain.specs.DomainFiles.{domain_file_breaks}
use Rattle.tl_domain.specs.DomainTrees.{domain_tree}
use Rattle.tl_domain.specs.MeaningOfItems.{domain_file_meant}

-- a domain that forms stand for which break no rule, under names for all their symbols, keeps what
-- the domain of every problem keeps
abbrev pub DomainIsKept : Type 0
DomainIsKept =
    (names : List (List ℕ)) (forms : FormTrees) (d : Domain)
    → domain_file_breaks forms ≡ [] → HaveNames names forms → domain_tree d ≡ domain_file_meant names forms
    → DomainKeeps (length names) d
