-- Worked examples of problem files. Above each stands the text of the file. The domain is `(domain
-- d (predicate p 1) (function n 0))`.
use Rattle.std.specs.Prelude.{◌≡◌, ◌+◌, ℕ, pos, List, [], ◌∷◌, Option, Some, refl, codes}
use Rattle.tl_sexpr.specs.Tree.{FormTree, symbol, integer, list, trees_of_list}
use Rattle.tl_syntax.specs.declared.domain.Domain.{Domain}
use Rattle.tl_syntax.specs.declared.formula.Formula.TheVariants.{True}
use Rattle.tl_syntax.specs.declared.value.Value.TheVariants.{Int, Sym}
use Rattle.tl_rules.specs.declared.rule.Rule.TheVariants.{Shape, Unknown, Arity, NotGround, TwoValues}
use Rattle.tl_rules.specs.Rules.{Break, first_break}
use Rattle.tl_rules.specs.Symbols.{names_with_all}
use Rattle.tl_problem.specs.Sections.{Sections}
use Rattle.tl_problem.specs.ProblemFiles.{problem_file_breaks, problem_file_meant}

-- a list of these elements
abbrev forms : List FormTree → ℕ → FormTree
forms fs at = list (trees_of_list fs) at

-- a file of the problem form of these elements of `init` and of `goal`, which stands at this
-- offset; and one with more forms
abbrev file_and : List FormTree → ℕ → List FormTree → List FormTree → List FormTree
file_and init goal_at goal later =
    forms (
    symbol (codes "problem") 1 ∷
    symbol (codes "q") 9 ∷
    forms (symbol (codes "init") 12 ∷ init) 11 ∷
    forms (symbol (codes "goal") (goal_at + 1) ∷ goal) goal_at ∷
    []
    ) 0 ∷ later

abbrev file : List FormTree → ℕ → List FormTree → List FormTree
file init goal_at goal = file_and init goal_at goal []

-- the domain, with the names of its file
abbrev domain : Domain
domain = record {
  name = 1;
  predicates = record { name = 3; arity = 1 } ∷ [];
  functions = record { name = 5; arity = 0 } ∷ [];
  definitions = [];
  operators = [];
  control = True;
}

abbrev names : List (List ℕ)
names = codes "domain" ∷ codes "d" ∷ codes "predicate" ∷ codes "p" ∷ codes "function" ∷ codes "n" ∷ []

-- the first break of a file of these forms
abbrev answer : List FormTree → Option Break
answer fs = first_break (problem_file_breaks (names_with_all names (trees_of_list fs)) domain (trees_of_list fs))

-- what a file of these forms says; its own names have numbers from 6 on
abbrev said : List FormTree → Sections
said fs = problem_file_meant (names_with_all names (trees_of_list fs)) domain (trees_of_list fs)

-- (problem q (init (p ?x)) (goal))
pub a_variable_as_a_value :
    answer (file
    (forms (symbol (codes "p") 18 ∷ symbol (codes "?x") 20 ∷ []) 17 ∷ [])
    25
    [])
    ≡ Some (NotGround, 20)
a_variable_as_a_value = refl

-- (problem q (init (p (a))) (goal))
pub a_list_as_a_value :
    answer (file
    (forms (symbol (codes "p") 18 ∷ forms (symbol (codes "a") 21 ∷ []) 20 ∷ []) 17 ∷ [])
    26
    [])
    ≡ Some (NotGround, 20)
a_list_as_a_value = refl

-- (problem q (init (= (n) 1) (= (n) 2)) (goal))
pub a_place_with_two_values :
    answer (file
    (forms (symbol (codes "=") 18 ∷ forms (symbol (codes "n") 21 ∷ []) 20 ∷ integer (pos 1) 24 ∷ []) 17 ∷
    forms (symbol (codes "=") 28 ∷ forms (symbol (codes "n") 31 ∷ []) 30 ∷ integer (pos 2) 34 ∷ []) 27 ∷
    [])
    38
    [])
    ≡ Some (TwoValues, 27)
a_place_with_two_values = refl

-- (problem q (init) (goal (p a) (not (p a))))
pub a_fact_that_is_also_negated :
    answer (file
    []
    18
    (forms (symbol (codes "p") 25 ∷ symbol (codes "a") 27 ∷ []) 24 ∷
    forms (symbol (codes "not") 31 ∷ forms (symbol (codes "p") 36 ∷ symbol (codes "a") 38 ∷ []) 35 ∷ []) 30 ∷
    []))
    ≡ Some (TwoValues, 30)
a_fact_that_is_also_negated = refl

-- (problem q (init) (goal (not (p a)) (p a)))
pub a_negated_fact_that_is_also_a_fact :
    answer (file
    []
    18
    (forms (symbol (codes "not") 25 ∷ forms (symbol (codes "p") 30 ∷ symbol (codes "a") 32 ∷ []) 29 ∷ []) 24 ∷
    forms (symbol (codes "p") 37 ∷ symbol (codes "a") 39 ∷ []) 36 ∷
    []))
    ≡ Some (TwoValues, 36)
a_negated_fact_that_is_also_a_fact = refl

-- (problem q (init) (goal (= (n) 1) (not (= (n) 1))))
pub a_negated_equality :
    answer (file
    []
    18
    (forms (symbol (codes "=") 25 ∷ forms (symbol (codes "n") 28 ∷ []) 27 ∷ integer (pos 1) 31 ∷ []) 24 ∷
    forms (
    symbol (codes "not") 35 ∷
    forms (symbol (codes "=") 40 ∷ forms (symbol (codes "n") 43 ∷ []) 42 ∷ integer (pos 1) 46 ∷ []) 39 ∷
    []
    ) 34 ∷
    []))
    ≡ Some (Unknown, 39)
a_negated_equality = refl

-- (problem q (init (not (p a))) (goal))
pub a_negated_fact_at_first :
    answer (file
    (forms (symbol (codes "not") 18 ∷ forms (symbol (codes "p") 23 ∷ symbol (codes "a") 25 ∷ []) 22 ∷ []) 17 ∷
    [])
    30
    [])
    ≡ Some (Unknown, 17)
a_negated_fact_at_first = refl

-- (problem q (init (n)) (goal))
pub a_function_as_a_predicate :
    answer (file
    (forms (symbol (codes "n") 18 ∷ []) 17 ∷ [])
    22
    [])
    ≡ Some (Unknown, 17)
a_function_as_a_predicate = refl

-- (problem q (init (p a b)) (goal))
pub another_number_of_values :
    answer (file
    (forms (symbol (codes "p") 18 ∷ symbol (codes "a") 20 ∷ symbol (codes "b") 22 ∷ []) 17 ∷ [])
    26
    [])
    ≡ Some (Arity, 17)
another_number_of_values = refl

-- (problem q (goal) (init))
pub sections_in_another_order :
    answer (
    forms (
    symbol (codes "problem") 1 ∷
    symbol (codes "q") 9 ∷
    forms (symbol (codes "goal") 12 ∷ []) 11 ∷
    forms (symbol (codes "init") 19 ∷ []) 18 ∷
    []
    ) 0 ∷ [])
    ≡ Some (Shape, 0)
sections_in_another_order = refl

-- (problem q (init) (goal)) q
pub a_second_form :
    answer (file_and
    []
    18
    []
    (symbol (codes "q") 26 ∷ []))
    ≡ Some (Shape, 26)
a_second_form = refl

-- no text
pub no_form : answer ([]) ≡ Some (Shape, 0)
no_form = refl

-- (problem q (init (p b) (p a) (p b) (= (n) 7)) (goal (not (p b)) (p a)))
-- the names problem, q, init, b, a, =, goal and not have the numbers 6 to 13
pub what_a_file_says :
    said (file
    (forms (symbol (codes "p") 18 ∷ symbol (codes "b") 20 ∷ []) 17 ∷
    forms (symbol (codes "p") 24 ∷ symbol (codes "a") 26 ∷ []) 23 ∷
    forms (symbol (codes "p") 30 ∷ symbol (codes "b") 32 ∷ []) 29 ∷
    forms (symbol (codes "=") 36 ∷ forms (symbol (codes "n") 39 ∷ []) 38 ∷ integer (pos 7) 42 ∷ []) 35 ∷
    [])
    46
    (forms (symbol (codes "not") 53 ∷ forms (symbol (codes "p") 58 ∷ symbol (codes "b") 60 ∷ []) 57 ∷ []) 52 ∷
    forms (symbol (codes "p") 65 ∷ symbol (codes "a") 67 ∷ []) 64 ∷
    []))
    ≡ record {
      init = record {
        facts = record { pred = 0; args = Sym 9 ∷ [] } ∷ record { pred = 0; args = Sym 10 ∷ [] } ∷ [];
        values = record { fun = 0; args = []; value = Int (pos 7) } ∷ [];
        nots = [];
      };
      goal = record {
        facts = record { pred = 0; args = Sym 10 ∷ [] } ∷ [];
        values = [];
        nots = record { pred = 0; args = Sym 9 ∷ [] } ∷ [];
      };
    }
what_a_file_says = refl
