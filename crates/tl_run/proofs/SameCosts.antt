-- What a costs file breaks and means goes by the names of operators and how many parameters they have.
use Rattle.std.proofs.Common.{◌≡◌, ℕ, List, ◌++◌, map, length, Option, Some, None, refl, sym, ap, ◌∙◌}
use Rattle.std.specs.Prelude.{ℤ, replicate, unwrap_or}
use Rattle.std.specs.List.{slice_set}
use Rattle.std.proofs.lemmas.List.{length-map}
use Rattle.tl_sexpr.specs.Tree.{FormTree, FormTrees, no_form, more_forms}
use Rattle.tl_syntax.specs.declared.operator.Operator.{Operator}
use Rattle.tl_rules.specs.Parts.{offset_of}
use Rattle.tl_cost.specs.CostFiles.{cost_breaks, cost_meant, costs_breaks, costs_meant, entries_breaks, entry_breaks, entry_of_form}
use Rattle.tl_cost.specs.CostFiles.{given_after, none_given, parts_breaks, parts_meant, with_entry}
use Rattle.tl_run.proofs.SameOperators.{head_of, same_operator}

module _ (names : List (List ℕ)) (os us : List Operator) (alike : map head_of os ≡ map head_of us) where
  same_count : length os ≡ length us
  same_count = sym (length-map os head_of) ∙ ap length alike ∙ length-map us head_of

  same_none : none_given os ≡ none_given us
  same_none = ap (λ (n : ℕ). let none : Option ℕ = None in replicate n none) same_count

  same_parts : (given : List (Option ℕ)) (parts : Option (List ℕ × ℤ)) (at : ℕ) → parts_breaks names os given parts at ≡
      parts_breaks names us given parts at
  same_parts given None at = refl
  same_parts given (Some parts) at =
      let op = same_operator names os us alike parts.0 in
      λ i. cost_breaks given (op i) parts.1 at

  same_entry : (given : List (Option ℕ)) (f : FormTree) → entry_breaks names os given f ≡ entry_breaks names us given f
  same_entry given f = same_parts given (entry_of_form f) (offset_of f)

  same_meant : (parts : Option (List ℕ × ℤ)) → parts_meant names os parts ≡ parts_meant names us parts
  same_meant None = refl
  same_meant (Some parts) =
      let op = same_operator names os us alike parts.0 in
      λ i. cost_meant (op i) parts.1

  same_with : (given : List (Option ℕ)) (f : FormTree) → with_entry names os given f ≡ with_entry names us given f
  same_with given f =
      let e = same_meant (entry_of_form f) in
      λ i. slice_set given (e i).0 (Some (e i).1)

  same_entries : (given : List (Option ℕ)) (fs : FormTrees) → entries_breaks names os given fs ≡ entries_breaks names us given fs
  same_entries given no_form = refl
  same_entries given (more_forms f fs) =
      let first = same_entry given f in
      let rest = same_entries (with_entry names os given f) fs ∙ ap (λ (g : List (Option ℕ)). entries_breaks names us g fs)
      (same_with given f) in
      λ i. first i ++ rest i

  same_given : (given : List (Option ℕ)) (fs : FormTrees) → given_after names os given fs ≡ given_after names us given fs
  same_given given no_form = refl
  same_given given (more_forms f fs) = same_given (with_entry names os given f) fs ∙
      ap (λ (g : List (Option ℕ)). given_after names us g fs) (same_with given f)

  -- the same rules are broken
  pub same_costs_breaks : (fs : FormTrees) → costs_breaks names os fs ≡ costs_breaks names us fs
  same_costs_breaks fs = same_entries (none_given os) fs ∙ ap (λ (g : List (Option ℕ)). entries_breaks names us g fs) same_none

  -- and the same costs are meant
  pub same_costs_meant : (fs : FormTrees) → costs_meant names os fs ≡ costs_meant names us fs
  same_costs_meant fs =
      ap (λ (given : List (Option ℕ)). map (λ (c : Option ℕ). unwrap_or c 1) given)
      (same_given (none_given os) fs ∙ ap (λ (g : List (Option ℕ)). given_after names us g fs) same_none)
