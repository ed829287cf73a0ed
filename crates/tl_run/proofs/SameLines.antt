-- The lines of actions depend on the names and the names of the operators alone.
use Rattle.std.proofs.Common.{◌≡◌, ℕ, List, [], ◌∷◌, ◌++◌, length, map, Option, Some, None, refl, sym, ap, ◌∙◌}
use Rattle.std.specs.Prelude.{codes, slice_get, option_and_then, unwrap_or}
use Rattle.std.specs.Option.{option_map}
use Rattle.std.proofs.lemmas.Option.{slice_get-map}
use Rattle.tl_line.specs.ActionTexts.{operator_text, values_text}
use Rattle.tl_search.specs.declared.outcome.Outcome.{Outcome}
use Rattle.tl_search.specs.declared.outcome.Outcome.TheVariants as outcome
use Rattle.tl_syntax.specs.declared.action.Action.{Action}
use Rattle.tl_syntax.specs.declared.operator.Operator.{Operator}
use Rattle.tl_text.specs.Outcomes.{plan_line, outcome_text}
use Rattle.tl_text.specs.Ranges.{action_lines}
use Rattle.tl_run.proofs.SameOperators.{Head, head_of}

-- the name by a head
abbrev name_in : List (List ℕ) → Option Head → List ℕ
name_in names found = unwrap_or (option_and_then (λ (h : Head). slice_get names h.0) found) []

name_by_head : (names : List (List ℕ)) (found : Option Operator) → unwrap_or
    (option_and_then (λ (o : Operator). slice_get names o.name) found) [] ≡ name_in names (option_map head_of found)
name_by_head names None = refl
name_by_head names (Some o) = refl

head_text : (names : List (List ℕ)) (os : List Operator) (op : ℕ) → operator_text names os op ≡
    name_in names (slice_get (map head_of os) op)
head_text names os op = name_by_head names (slice_get os op) ∙ ap (name_in names) (sym (slice_get-map head_of os op))

module _ (names : List (List ℕ)) (os us : List Operator) (alike : map head_of os ≡ map head_of us) where
  pub same_name : (op : ℕ) → operator_text names os op ≡ operator_text names us op
  same_name op = head_text names os op ∙ ap (λ (hs : List Head). name_in names (slice_get hs op)) alike ∙ sym (head_text names us op)

  same_lines : (plan : List Action) → action_lines names os plan ≡ action_lines names us plan
  same_lines [] = refl
  same_lines (a ∷ plan) =
      let name = same_name a.op in
      let others = same_lines plan in
      λ i. (codes "(" ++ (name i ++ (values_text names a.args ++ codes ")"))) ++ (codes "\n" ++ others i)

-- the text of an outcome is the same
pub same_outcome_text : (names : List (List ℕ)) (os us : List Operator) (n b : ℕ) (o : Outcome) → map head_of os ≡ map head_of us →
    outcome_text names os n b o ≡ outcome_text names us n b o
same_outcome_text names os us n b (outcome.Plan plan) alike =
    let lines = same_lines names os us alike plan in
    λ i. plan_line (length plan) ++ lines i
same_outcome_text names os us n b outcome.NoPlan alike = refl
same_outcome_text names os us n b outcome.NoneWithin alike = refl
same_outcome_text names os us n b outcome.Spent alike = refl
