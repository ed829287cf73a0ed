-- The text of a term, of a bound and of what stands in them, as a domain file writes it.
use Rattle.std.specs.Prelude.{ℕ, List, [], ◌∷◌, map, slice_get, option_and_then, unwrap_or, codes}
use Rattle.tl_syntax.specs.declared.bound.Bound.{Bound}
use Rattle.tl_syntax.specs.declared.bound.Bound.TheVariants as bound
use Rattle.tl_syntax.specs.declared.declared.Declared.{Declared}
use Rattle.tl_syntax.specs.declared.domain.Domain.{Domain}
use Rattle.tl_syntax.specs.declared.value.Cmp.{Cmp}
use Rattle.tl_syntax.specs.declared.value.Cmp.TheVariants.{Eq, Less, AtMost, More, AtLeast}
use Rattle.tl_syntax.specs.declared.value.Op.{Op}
use Rattle.tl_syntax.specs.declared.value.Op.TheVariants.{Plus, Minus, Times}
use Rattle.tl_syntax.specs.declared.variable.Arg.{Arg}
use Rattle.tl_syntax.specs.declared.variable.Arg.TheVariants as arg
use Rattle.tl_syntax.specs.declared.variable.Var.{Var}
use Rattle.tl_syntax.specs.Trees.{TermTree, TermTrees, variable, value, place, arith, no_term, more_terms}
use Rattle.tl_line.specs.ActionTexts.{name_text, value_text}
use Rattle.tl_label.specs.Parts.{in_parentheses}

-- the name of the predicate or function at this position
abbrev pub declared_text : List (List ℕ) → List Declared → ℕ → List ℕ
declared_text names declared p = unwrap_or (option_and_then (λ d. slice_get names d.name) (slice_get declared p)) []

-- the sign of an operation
abbrev pub operation_text : Op → List ℕ
operation_text Plus = codes "+"
operation_text Minus = codes "-"
operation_text Times = codes "*"

-- the sign of a comparison
abbrev pub comparison_text : Cmp → List ℕ
comparison_text Eq = codes "="
comparison_text Less = codes "<"
comparison_text AtMost = codes "<="
comparison_text More = codes ">"
comparison_text AtLeast = codes ">="

-- a variable under its own name
abbrev pub variable_text : List (List ℕ) → Var → List ℕ
variable_text names x = name_text names x.name

-- a variable or a value
abbrev pub arg_text : List (List ℕ) → Arg → List ℕ
arg_text names (arg.Var x) = variable_text names x
arg_text names (arg.Val v) = value_text names v

-- a fact: the predicate and its arguments
abbrev pub fact_text : List (List ℕ) → Domain → ℕ → List Arg → List ℕ
fact_text names domain p xs = in_parentheses (declared_text names domain.predicates p ∷ map (arg_text names) xs)

-- a place with its value: an equality of the function with its arguments and the value
abbrev pub place_text : List (List ℕ) → Domain → ℕ → List Arg → Arg → List ℕ
place_text names domain f xs x = in_parentheses (codes "=" ∷ in_parentheses
    (declared_text names domain.functions f ∷ map (arg_text names) xs) ∷ arg_text names x ∷ [])

-- the negation of a text
abbrev pub not_text : List ℕ → List ℕ
not_text text = in_parentheses (codes "not" ∷ text ∷ [])

-- a text under the goal modality
abbrev pub goal_text : List ℕ → List ℕ
goal_text text = in_parentheses (codes "goal" ∷ text ∷ [])

-- the bound of a quantifier
abbrev pub bound_text : List (List ℕ) → Domain → Bound → List ℕ
bound_text names domain (bound.Fact p xs) = fact_text names domain p xs
bound_text names domain (bound.Place f xs x) = place_text names domain f xs x
bound_text names domain (bound.GoalFact p xs) = goal_text (fact_text names domain p xs)
bound_text names domain (bound.GoalPlace f xs x) = goal_text (place_text names domain f xs x)
bound_text names domain (bound.GoalNot p xs) = goal_text (not_text (fact_text names domain p xs))

-- a term, and the texts of a list of terms
unfoldable mutual
  pub term_text : List (List ℕ) → Domain → TermTree → List ℕ
  term_text names domain (variable x) = variable_text names x
  term_text names domain (value v) = value_text names v
  term_text names domain (place f ts) = in_parentheses (declared_text names domain.functions f ∷ term_texts names domain ts)
  term_text names domain (arith op s t at) = in_parentheses (operation_text op ∷ term_text names domain s ∷ term_text names domain t ∷ [])

  pub term_texts : List (List ℕ) → Domain → TermTrees → List (List ℕ)
  term_texts names domain no_term = []
  term_texts names domain (more_terms t ts) = term_text names domain t ∷ term_texts names domain ts
