-- The texts of formulas and of events depend on the names of a domain's predicates, functions, definitions and operators alone.
use Rattle.std.proofs.Common.{◌≡◌, ℕ, List, [], ◌∷◌, ◌++◌, map, Option, Some, None, refl, sym, ap, ◌∙◌}
use Rattle.std.specs.Prelude.{codes, slice_get, option_and_then, unwrap_or}
use Rattle.std.specs.Fmt.{decimal}
use Rattle.std.specs.Option.{option_map}
use Rattle.std.proofs.lemmas.Option.{slice_get-map}
use Rattle.tl_label.specs.Labels.{definition_text, formula_text, formula_texts, label_text, label_of, variables_text}
use Rattle.tl_label.specs.Parts.{in_parentheses}
use Rattle.tl_label.specs.Terms.{arg_text, bound_text, comparison_text, declared_text, fact_text, goal_text, not_text, operation_text}
use Rattle.tl_label.specs.Terms.{place_text, term_text, term_texts}
use Rattle.tl_line.specs.ActionTexts.{values_text}
use Rattle.tl_search.specs.KeptPairs.{KeptPair}
use Rattle.tl_search.specs.declared.event.Event.{Event}
use Rattle.tl_search.specs.declared.event.Event.TheVariants as event
use Rattle.tl_syntax.specs.declared.action.Action.{Action}
use Rattle.tl_syntax.specs.declared.bound.Bound.{Bound}
use Rattle.tl_syntax.specs.declared.bound.Bound.TheVariants as bound
use Rattle.tl_syntax.specs.declared.declared.Declared.{Declared}
use Rattle.tl_syntax.specs.declared.definition.Definition.{Definition}
use Rattle.tl_syntax.specs.declared.domain.Domain.{Domain}
use Rattle.tl_syntax.specs.declared.variable.Arg.{Arg}
use Rattle.tl_syntax.specs.Trees.{FormulaTree, FormulaTrees, TermTree, TermTrees, variable, value, place, arith, no_term, more_terms, verum}
use Rattle.tl_syntax.specs.Trees.{falsum, atom, defined, compare, goal_fact, goal_place, goal_not, negation, conjunction, disjunction}
use Rattle.tl_syntax.specs.Trees.{for_all, for_some, next, always, eventually, until, within, during, no_formula, more_formulas}
use Rattle.tl_text.specs.Traces.{action_end, event_text, label_line, trace_text}
use Rattle.tl_run.proofs.SameLines.{same_name}
use Rattle.tl_run.proofs.SameOperators.{head_of}

-- the number of the name of a definition
abbrev name_of : Definition → ℕ
name_of d = d.name

-- the two domains declare the same predicates and functions, and definitions and operators of the same names
pub record SameWords (d e : Domain) : Type 0 where
  pub predicates : d.predicates ≡ e.predicates
  pub functions : d.functions ≡ e.functions
  pub definitions : map (λ (x : Definition). x.name) d.definitions ≡ map (λ (x : Definition). x.name) e.definitions
  pub operators : map head_of d.operators ≡ map head_of e.operators

-- the name by the number of a name
abbrev name_at : List (List ℕ) → Option ℕ → List ℕ
name_at names found = unwrap_or (option_and_then (λ (n : ℕ). slice_get names n) found) []

name_by_number : (names : List (List ℕ)) (found : Option Definition) →
    unwrap_or (option_and_then (λ (x : Definition). slice_get names x.name) found) [] ≡ name_at names (option_map name_of found)
name_by_number names None = refl
name_by_number names (Some x) = refl

definition_named : (names : List (List ℕ)) (ds : List Definition) (p : ℕ) → definition_text names ds p ≡
    name_at names (slice_get (map name_of ds) p)
definition_named names ds p = name_by_number names (slice_get ds p) ∙ ap (name_at names) (sym (slice_get-map name_of ds p))

module _ (names : List (List ℕ)) (d e : Domain) (same : SameWords d e) where
  same_predicate : (p : ℕ) → declared_text names d.predicates p ≡ declared_text names e.predicates p
  same_predicate p = ap (λ (xs : List Declared). declared_text names xs p) same.predicates

  same_function : (f : ℕ) → declared_text names d.functions f ≡ declared_text names e.functions f
  same_function f = ap (λ (xs : List Declared). declared_text names xs f) same.functions

  same_definition : (p : ℕ) → definition_text names d.definitions p ≡ definition_text names e.definitions p
  same_definition p = definition_named names d.definitions p ∙ ap (λ (xs : List ℕ). name_at names (slice_get xs p)) same.definitions ∙
      sym (definition_named names e.definitions p)

  same_fact : (p : ℕ) (xs : List Arg) → fact_text names d p xs ≡ fact_text names e p xs
  same_fact p xs = ap (λ (name : List ℕ). in_parentheses (name ∷ map (arg_text names) xs)) (same_predicate p)

  same_place : (f : ℕ) (xs : List Arg) (x : Arg) → place_text names d f xs x ≡ place_text names e f xs x
  same_place f xs x = ap (λ (name : List ℕ). in_parentheses (codes "=" ∷ in_parentheses (name ∷ map (arg_text names) xs) ∷
      arg_text names x ∷ [])) (same_function f)

  same_bound : (b : Bound) → bound_text names d b ≡ bound_text names e b
  same_bound (bound.Fact p xs) = same_fact p xs
  same_bound (bound.Place f xs x) = same_place f xs x
  same_bound (bound.GoalFact p xs) = ap goal_text (same_fact p xs)
  same_bound (bound.GoalPlace f xs x) = ap goal_text (same_place f xs x)
  same_bound (bound.GoalNot p xs) = ap (λ (text : List ℕ). goal_text (not_text text)) (same_fact p xs)

  mutual
    unfolding term_text

    same_term : (t : TermTree) → term_text names d t ≡ term_text names e t
    same_term (variable x) = refl
    same_term (value v) = refl
    same_term (place f ts) =
        let name = same_function f in
        let parts = same_terms ts in
        λ i. in_parentheses (name i ∷ parts i)
    same_term (arith op s t at) =
        let left = same_term s in
        let right = same_term t in
        λ i. in_parentheses (operation_text op ∷ left i ∷ right i ∷ [])

    same_terms : (ts : TermTrees) → term_texts names d ts ≡ term_texts names e ts
    same_terms no_term = refl
    same_terms (more_terms t ts) =
        let first = same_term t in
        let others = same_terms ts in
        λ i. first i ∷ others i

  mutual
    unfolding formula_text

    same_formula : (f : FormulaTree) → formula_text names d f ≡ formula_text names e f
    same_formula verum = refl
    same_formula falsum = refl
    same_formula (atom p ts) =
        let name = same_predicate p in
        let parts = same_terms ts in
        λ i. in_parentheses (name i ∷ parts i)
    same_formula (defined p ts) =
        let name = same_definition p in
        let parts = same_terms ts in
        λ i. in_parentheses (name i ∷ parts i)
    same_formula (compare c s t) =
        let left = same_term s in
        let right = same_term t in
        λ i. in_parentheses (comparison_text c ∷ left i ∷ right i ∷ [])
    same_formula (goal_fact p xs) = ap goal_text (same_fact p xs)
    same_formula (goal_place f xs x) = ap goal_text (same_place f xs x)
    same_formula (goal_not p xs) = ap (λ (text : List ℕ). goal_text (not_text text)) (same_fact p xs)
    same_formula (negation f) = ap not_text (same_formula f)
    same_formula (conjunction fs) = ap (λ (parts : List (List ℕ)). in_parentheses (codes "and" ∷ parts)) (same_formulas fs)
    same_formula (disjunction fs) = ap (λ (parts : List (List ℕ)). in_parentheses (codes "or" ∷ parts)) (same_formulas fs)
    same_formula (for_all xs b f) =
        let range = same_bound b in
        let body = same_formula f in
        λ i. in_parentheses (codes "forall" ∷ variables_text names xs ∷ range i ∷ body i ∷ [])
    same_formula (for_some xs b f) =
        let range = same_bound b in
        let body = same_formula f in
        λ i. in_parentheses (codes "exists" ∷ variables_text names xs ∷ range i ∷ body i ∷ [])
    same_formula (next f) = ap (λ (text : List ℕ). in_parentheses (codes "next" ∷ text ∷ [])) (same_formula f)
    same_formula (always f) = ap (λ (text : List ℕ). in_parentheses (codes "always" ∷ text ∷ [])) (same_formula f)
    same_formula (eventually f) = ap (λ (text : List ℕ). in_parentheses (codes "eventually" ∷ text ∷ [])) (same_formula f)
    same_formula (until f g) =
        let left = same_formula f in
        let right = same_formula g in
        λ i. in_parentheses (codes "until" ∷ left i ∷ right i ∷ [])
    same_formula (within k f) = ap (λ (text : List ℕ). in_parentheses (codes "within" ∷ decimal k ∷ text ∷ [])) (same_formula f)
    same_formula (during k f) = ap (λ (text : List ℕ). in_parentheses (codes "for" ∷ decimal k ∷ text ∷ [])) (same_formula f)

    same_formulas : (fs : FormulaTrees) → formula_texts names d fs ≡ formula_texts names e fs
    same_formulas no_formula = refl
    same_formulas (more_formulas f fs) =
        let first = same_formula f in
        let others = same_formulas fs in
        λ i. first i ∷ others i

  -- the label of a formula is the same
  pub same_label : (f : FormulaTree) → label_text names d f ≡ label_text names e f
  same_label f = ap label_of (same_formula f)

  same_found : (found : Option KeptPair) → option_map (λ (x : KeptPair). label_text names d x.node.formula) found ≡
      option_map (λ (x : KeptPair). label_text names e x.node.formula) found
  same_found None = refl
  same_found (Some x) = ap (λ (text : List ℕ). Some text) (same_label x.node.formula)

  same_label_line : (kept : List KeptPair) (k : ℕ) → label_line names d kept k ≡ label_line names e kept k
  same_label_line kept k = ap (λ (found : Option (List ℕ)). codes "; label " ++ (unwrap_or found [] ++ codes "\n"))
      (same_found (slice_get kept k))

  same_end : (a : Action) → action_end names d a ≡ action_end names e a
  same_end a =
      let name = same_name names d.operators e.operators same.operators a.op in
      λ i. codes " " ++ ((codes "(" ++ (name i ++ (values_text names a.args ++ codes ")"))) ++ codes "\n")

  same_event : (kept : List KeptPair) (x : Event) → event_text names d kept x ≡ event_text names e kept x
  same_event kept event.RootKept = ap (λ (line : List ℕ). codes "; kept 0\n" ++ line) (same_label_line kept 0)
  same_event kept event.RootPruned = refl
  same_event kept (event.Kept j a k) =
      let end = same_end a in
      let line = same_label_line kept k in
      λ i. codes "; kept " ++ (decimal k ++ (codes " " ++ (decimal j ++ (end i ++ line i))))
  same_event kept (event.Seen j a k) = ap (λ (end : List ℕ). codes "; seen " ++ (decimal k ++ (codes " " ++ (decimal j ++ end))))
      (same_end a)
  same_event kept (event.Pruned j a) = ap (λ (end : List ℕ). codes "; pruned " ++ (decimal j ++ end)) (same_end a)

  -- the lines of events are the same
  pub same_trace : (kept : List KeptPair) (events : List Event) → trace_text names d kept events ≡ trace_text names e kept events
  same_trace kept [] = refl
  same_trace kept (x ∷ events) =
      let first = same_event kept x in
      let others = same_trace kept events in
      λ i. first i ++ others i
