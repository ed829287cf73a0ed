-- Forms mean a proof exactly where they break no rule.
use Rattle.std.specs.Prelude.{◌≡◌, ℕ, List}
use Rattle.tl_sexpr.specs.Tree.{FormTrees}
use Rattle.tl_syntax.specs.declared.operator.Operator.{Operator}
use Rattle.tl_rules.specs.Unbroken.{where_unbroken}
use Rattle.tl_cert.specs.MeaningOfProofs.{proof_meant}
use Rattle.tl_cert.specs.PartialProofs.{proof_meaning}
use Rattle.tl_cert.specs.ProofFiles.{proof_breaks}

-- the forms of a proof file mean a proof exactly where they break no rule
abbrev pub ProofsMean : Type 0
ProofsMean =
    (names : List (List ℕ)) (operators : List Operator) (forms : FormTrees)
    → proof_meaning names operators forms ≡ where_unbroken (proof_breaks names operators forms) (proof_meant names operators forms)
