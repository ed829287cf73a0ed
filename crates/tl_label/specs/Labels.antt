-- The text of a formula, as a domain file writes it, and the label that stands for it where it is
-- not too long.
use Rattle.std.specs.Prelude.{ℕ, List, [], ◌∷◌, map, length, nat_le, if◌then◌else◌, slice_get, option_and_then, unwrap_or, codes}
use Rattle.std.specs.Fmt.{decimal}
use Rattle.tl_syntax.specs.declared.definition.Definition.{Definition}
use Rattle.tl_syntax.specs.declared.domain.Domain.{Domain}
use Rattle.tl_syntax.specs.declared.variable.Var.{Var}
use Rattle.tl_syntax.specs.Trees.{FormulaTree, FormulaTrees, verum, falsum, atom, defined, compare, goal_fact, goal_place, goal_not}
use Rattle.tl_syntax.specs.Trees.{negation, conjunction, disjunction, for_all, for_some, next, always, eventually, until, within, during}
use Rattle.tl_syntax.specs.Trees.{no_formula, more_formulas}
use Rattle.tl_label.specs.Parts.{in_parentheses}
use Rattle.tl_label.specs.Terms.{declared_text, comparison_text, variable_text, fact_text, place_text, not_text, goal_text, bound_text}
use Rattle.tl_label.specs.Terms.{term_text, term_texts}

-- the name of the definition at this position
abbrev pub definition_text : List (List ℕ) → List Definition → ℕ → List ℕ
definition_text names definitions p = unwrap_or (option_and_then (λ d. slice_get names d.name) (slice_get definitions p)) []

-- the variables of a quantifier
abbrev pub variables_text : List (List ℕ) → List Var → List ℕ
variables_text names xs = in_parentheses (map (variable_text names) xs)

-- a formula in the syntax of a domain file, and the texts of a list of formulas; `during` is
-- written `for`
unfoldable mutual
  pub formula_text : List (List ℕ) → Domain → FormulaTree → List ℕ
  formula_text names domain verum = codes "true"
  formula_text names domain falsum = codes "false"
  formula_text names domain (atom p ts) = in_parentheses (declared_text names domain.predicates p ∷ term_texts names domain ts)
  formula_text names domain (defined p ts) = in_parentheses (definition_text names domain.definitions p ∷ term_texts names domain ts)
  formula_text names domain (compare c s t) = in_parentheses (comparison_text c ∷ term_text names domain s ∷ term_text names domain t ∷ [])
  formula_text names domain (goal_fact p xs) = goal_text (fact_text names domain p xs)
  formula_text names domain (goal_place f xs x) = goal_text (place_text names domain f xs x)
  formula_text names domain (goal_not p xs) = goal_text (not_text (fact_text names domain p xs))
  formula_text names domain (negation f) = not_text (formula_text names domain f)
  formula_text names domain (conjunction fs) = in_parentheses (codes "and" ∷ formula_texts names domain fs)
  formula_text names domain (disjunction fs) = in_parentheses (codes "or" ∷ formula_texts names domain fs)
  formula_text names domain (for_all xs b f) = in_parentheses (codes "forall" ∷ variables_text names xs ∷ bound_text names domain b ∷
      formula_text names domain f ∷ [])
  formula_text names domain (for_some xs b f) = in_parentheses (codes "exists" ∷ variables_text names xs ∷ bound_text names domain b ∷
      formula_text names domain f ∷ [])
  formula_text names domain (next f) = in_parentheses (codes "next" ∷ formula_text names domain f ∷ [])
  formula_text names domain (always f) = in_parentheses (codes "always" ∷ formula_text names domain f ∷ [])
  formula_text names domain (eventually f) = in_parentheses (codes "eventually" ∷ formula_text names domain f ∷ [])
  formula_text names domain (until f g) = in_parentheses (codes "until" ∷ formula_text names domain f ∷ formula_text names domain g ∷ [])
  formula_text names domain (within k f) = in_parentheses (codes "within" ∷ decimal k ∷ formula_text names domain f ∷ [])
  formula_text names domain (during k f) = in_parentheses (codes "for" ∷ decimal k ∷ formula_text names domain f ∷ [])

  pub formula_texts : List (List ℕ) → Domain → FormulaTrees → List (List ℕ)
  formula_texts names domain no_formula = []
  formula_texts names domain (more_formulas f fs) = formula_text names domain f ∷ formula_texts names domain fs

-- a text of at most this many bytes is a label
abbrev pub most_bytes : ℕ
most_bytes = 10000

-- the text, where it has at most so many bytes, and else the word `long`
abbrev pub label_of : List ℕ → List ℕ
label_of text = if nat_le (length text) most_bytes then text else codes "long"

-- the label of a formula
abbrev pub label_text : List (List ℕ) → Domain → FormulaTree → List ℕ
label_text names domain f = label_of (formula_text names domain f)
