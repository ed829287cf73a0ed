-- What a proof file breaks and means, and the lines of proofs and of their verdicts, depend on the names and the numbers of parameters of
-- the operators alone.
use Rattle.std.proofs.Common.{◌≡◌, ℕ, ◌+◌, List, ◌∷◌, ◌++◌, not, map, Option, Some, None, refl, ap}
use Rattle.std.specs.Prelude.{ℤ, codes}
use Rattle.std.specs.Fmt.{decimal}
use Rattle.tl_sexpr.specs.Tree.{FormTree, FormTrees, no_form, more_forms}
use Rattle.tl_syntax.specs.declared.action.Action.{Action}
use Rattle.tl_syntax.specs.declared.operator.Operator.{Operator}
use Rattle.tl_rules.specs.declared.rule.Rule.TheVariants.{NoPair}
use Rattle.tl_rules.specs.Rules.{breaks_if}
use Rattle.tl_rules.specs.Parts.{offset_of, is_within, natural}
use Rattle.tl_line.specs.ActionLists.{limit_breaks}
use Rattle.tl_line.specs.ActionTexts.{action_text, values_text}
use Rattle.tl_cert.specs.MeaningOfProofs.{length_bound_meant, link_meant_by, links_meant, proof_meant}
use Rattle.tl_cert.specs.ProofFiles.{proof_head_breaks, link_breaks_at, link_parts, links_breaks, proof_breaks}
use Rattle.tl_cert.specs.ProofTexts.{proof_verdict_text}
use Rattle.tl_cert.specs.declared.verdict.NoneVerdict.{NoneVerdict}
use Rattle.tl_cert.specs.declared.verdict.NoneVerdict.TheVariants.{Proved, BadLink, Accepts, Open}
use Rattle.tl_run.proofs.SameLines.{same_name}
use Rattle.tl_run.proofs.SameOperators.{head_of, same_action, same_meaning}

module _ (names : List (List ℕ)) (os us : List Operator) (alike : map head_of os ≡ map head_of us) where
  same_link_at : (before at : ℕ) (parts : Option (ℤ × ℕ × FormTree)) → link_breaks_at names os before at parts ≡
      link_breaks_at names us before at parts
  same_link_at before at None = refl
  same_link_at before at (Some parts) =
      let action = same_action names os us alike parts.2 in
      λ i. limit_breaks before at ++ (breaks_if (not (is_within 0 before parts.0)) NoPair parts.1 ++ action i)

  same_links : (before : ℕ) (fs : FormTrees) → links_breaks names os before fs ≡ links_breaks names us before fs
  same_links before no_form = refl
  same_links before (more_forms f fs) =
      let first = same_link_at before (offset_of f) (link_parts f) in
      let others = same_links (before + 1) fs in
      λ i. first i ++ others i

  -- the same rules are broken
  pub same_proof_breaks : (fs : FormTrees) → proof_breaks names os fs ≡ proof_breaks names us fs
  same_proof_breaks no_form = refl
  same_proof_breaks (more_forms f fs) = ap (λ bs. proof_head_breaks f ++ bs) (same_links 0 fs)

  same_link_meant : (parts : Option (ℤ × ℕ × FormTree)) → link_meant_by names os parts ≡ link_meant_by names us parts
  same_link_meant None = refl
  same_link_meant (Some parts) =
      let action = same_meaning names os us alike parts.2 in
      λ i. record { from = natural parts.0; action = action i }

  same_links_meant : (fs : FormTrees) → links_meant names os fs ≡ links_meant names us fs
  same_links_meant no_form = refl
  same_links_meant (more_forms f fs) =
      let first = same_link_meant (link_parts f) in
      let others = same_links_meant fs in
      λ i. first i ∷ others i

  -- and the same proof is meant
  pub same_proof_meant : (fs : FormTrees) → proof_meant names os fs ≡ proof_meant names us fs
  same_proof_meant no_form = refl
  same_proof_meant (more_forms f fs) =
      let links = same_links_meant fs in
      λ i. record { bound = length_bound_meant f; links = links i }

  same_action_text : (a : Action) → action_text names os a ≡ action_text names us a
  same_action_text a =
      let name = same_name names os us alike a.op in
      λ i. codes "(" ++ (name i ++ (values_text names a.args ++ codes ")"))

  -- and the line of a verdict on one is the same
  pub same_none_text : (bound : Option ℕ) (v : NoneVerdict) → proof_verdict_text names os bound v ≡ proof_verdict_text names us bound v
  same_none_text bound Proved = refl
  same_none_text bound (BadLink k) = refl
  same_none_text bound (Accepts k) = refl
  same_none_text bound (Open k a) =
      let action = same_action_text a in
      λ i. codes "; open " ++ (decimal k ++ (codes " " ++ (action i ++ codes "\n")))
