-- Worked examples of files and of the first rule that each breaks. Above each stands the text of
-- the file.
use Rattle.std.specs.Prelude.{◌≡◌, ℕ, pos, List, [], ◌∷◌, Option, Some, None, refl, codes}
use Rattle.tl_sexpr.specs.Tree.{FormTree, symbol, integer, list, trees_of_list}
use Rattle.tl_rules.specs.declared.rule.Rule.TheVariants.{Shape, Unknown, Twice, Arity, Unbound, Shadow, NotInBound, Temporal}
use Rattle.tl_rules.specs.declared.rule.Rule.TheVariants.{GoalArg, Limit}
use Rattle.tl_rules.specs.Rules.{Break, first_break}
use Rattle.tl_formulas.specs.Terms.{term_breaks}
use Rattle.tl_formulas.specs.Goals.{goal_breaks}
use Rattle.tl_formulas.specs.Bounds.{bound_breaks}
use Rattle.tl_formulas.specs.Formulas.{formula_breaks}
use Rattle.tl_formulas.specs.Effects.{effect_breaks}
use Rattle.tl_domain.specs.DomainFiles.{domain_file_breaks}
use Rattle.tl_syntax.specs.declared.variable.Arg.TheVariants as arg
use Rattle.tl_syntax.specs.declared.bound.Bound.TheVariants as bound
use Rattle.tl_syntax.specs.Trees.{variable, no_term, more_terms, verum, atom, negation}
use Rattle.tl_syntax.specs.Effects.{add, no_effect, more_effects}
use Rattle.tl_rules.specs.Symbols.{names_with_all}
use Rattle.tl_formulas.specs.MeaningOfTerms.{term_meant}
use Rattle.tl_formulas.specs.MeaningOfBounds.{goal_meant, bound_meant}
use Rattle.tl_formulas.specs.MeaningOfFormulas.{formula_meant}
use Rattle.tl_formulas.specs.MeaningOfEffects.{effect_meant}
use Rattle.tl_domain.specs.MeaningOfItems.{domain_file_meant}

-- a list of these elements
abbrev forms : List FormTree → ℕ → FormTree
forms fs at = list (trees_of_list fs) at

-- a file of the domain form of these items
abbrev file : List FormTree → List FormTree
file items = forms (symbol (codes "domain") 1 ∷ symbol (codes "d") 8 ∷ items) 0 ∷ []

-- the first break of a file of these forms
abbrev answer : List FormTree → Option Break
answer fs = first_break (domain_file_breaks (trees_of_list fs))

-- (domain d (control))
pub a_control_item_without_formula :
    answer (file (
    forms (symbol (codes "control") 11 ∷ []) 10 ∷
    []))
    ≡ Some (Shape, 10)
unfolding term_breaks goal_breaks bound_breaks formula_breaks effect_breaks
a_control_item_without_formula = refl

-- (domain d (control (q a)))
pub an_unknown_predicate :
    answer (file (
    forms (
    symbol (codes "control") 11 ∷
    forms (symbol (codes "q") 20 ∷ symbol (codes "a") 22 ∷ []) 19 ∷
    []
    ) 10 ∷
    []))
    ≡ Some (Unknown, 19)
unfolding term_breaks goal_breaks bound_breaks formula_breaks effect_breaks
an_unknown_predicate = refl

-- (domain d (predicate p 1) (function p 0))
pub a_name_that_is_taken :
    answer (file (
    forms (symbol (codes "predicate") 11 ∷ symbol (codes "p") 21 ∷ integer (pos 1) 23 ∷ []) 10 ∷
    forms (symbol (codes "function") 27 ∷ symbol (codes "p") 36 ∷ integer (pos 0) 38 ∷ []) 26 ∷
    []))
    ≡ Some (Twice, 36)
unfolding term_breaks goal_breaks bound_breaks formula_breaks effect_breaks
a_name_that_is_taken = refl

-- (domain d (predicate p 1) (control (p a b)))
pub another_number_of_arguments :
    answer (file (
    forms (symbol (codes "predicate") 11 ∷ symbol (codes "p") 21 ∷ integer (pos 1) 23 ∷ []) 10 ∷
    forms (
    symbol (codes "control") 27 ∷
    forms (symbol (codes "p") 36 ∷ symbol (codes "a") 38 ∷ symbol (codes "b") 40 ∷ []) 35 ∷
    []
    ) 26 ∷
    []))
    ≡ Some (Arity, 35)
unfolding term_breaks goal_breaks bound_breaks formula_breaks effect_breaks
another_number_of_arguments = refl

-- (domain d (predicate p 1) (control (p ?x)))
pub a_variable_out_of_scope :
    answer (file (
    forms (symbol (codes "predicate") 11 ∷ symbol (codes "p") 21 ∷ integer (pos 1) 23 ∷ []) 10 ∷
    forms (
    symbol (codes "control") 27 ∷
    forms (symbol (codes "p") 36 ∷ symbol (codes "?x") 38 ∷ []) 35 ∷
    []
    ) 26 ∷
    []))
    ≡ Some (Unbound, 38)
unfolding term_breaks goal_breaks bound_breaks formula_breaks effect_breaks
a_variable_out_of_scope = refl

-- (domain d (predicate p 1) (control (forall (?x) (p ?x) (exists (?x) (p ?x) true))))
pub a_variable_in_scope_already :
    answer (file (
    forms (symbol (codes "predicate") 11 ∷ symbol (codes "p") 21 ∷ integer (pos 1) 23 ∷ []) 10 ∷
    forms (
    symbol (codes "control") 27 ∷
    forms (
    symbol (codes "forall") 36 ∷
    forms (symbol (codes "?x") 44 ∷ []) 43 ∷
    forms (symbol (codes "p") 49 ∷ symbol (codes "?x") 51 ∷ []) 48 ∷
    forms (
    symbol (codes "exists") 56 ∷
    forms (symbol (codes "?x") 64 ∷ []) 63 ∷
    forms (symbol (codes "p") 69 ∷ symbol (codes "?x") 71 ∷ []) 68 ∷
    symbol (codes "true") 75 ∷
    []
    ) 55 ∷
    []
    ) 35 ∷
    []
    ) 26 ∷
    []))
    ≡ Some (Shadow, 64)
unfolding term_breaks goal_breaks bound_breaks formula_breaks effect_breaks
a_variable_in_scope_already = refl

-- (domain d (predicate p 1) (control (forall (?x ?y) (p ?x) true)))
pub a_variable_outside_its_bound :
    answer (file (
    forms (symbol (codes "predicate") 11 ∷ symbol (codes "p") 21 ∷ integer (pos 1) 23 ∷ []) 10 ∷
    forms (
    symbol (codes "control") 27 ∷
    forms (
    symbol (codes "forall") 36 ∷
    forms (symbol (codes "?x") 44 ∷ symbol (codes "?y") 47 ∷ []) 43 ∷
    forms (symbol (codes "p") 52 ∷ symbol (codes "?x") 54 ∷ []) 51 ∷
    symbol (codes "true") 58 ∷
    []
    ) 35 ∷
    []
    ) 26 ∷
    []))
    ≡ Some (NotInBound, 47)
unfolding term_breaks goal_breaks bound_breaks formula_breaks effect_breaks
a_variable_outside_its_bound = refl

-- (domain d (predicate p 1) (define (q) (next (p a))))
pub a_temporal_word_in_a_body :
    answer (file (
    forms (symbol (codes "predicate") 11 ∷ symbol (codes "p") 21 ∷ integer (pos 1) 23 ∷ []) 10 ∷
    forms (
    symbol (codes "define") 27 ∷
    forms (symbol (codes "q") 35 ∷ []) 34 ∷
    forms (
    symbol (codes "next") 39 ∷
    forms (symbol (codes "p") 45 ∷ symbol (codes "a") 47 ∷ []) 44 ∷
    []
    ) 38 ∷
    []
    ) 26 ∷
    []))
    ≡ Some (Temporal, 38)
unfolding term_breaks goal_breaks bound_breaks formula_breaks effect_breaks
a_temporal_word_in_a_body = refl

-- (domain d (predicate p 1) (control (goal (or (p a)))))
pub a_disjunction_as_a_goal :
    answer (file (
    forms (symbol (codes "predicate") 11 ∷ symbol (codes "p") 21 ∷ integer (pos 1) 23 ∷ []) 10 ∷
    forms (
    symbol (codes "control") 27 ∷
    forms (
    symbol (codes "goal") 36 ∷
    forms (
    symbol (codes "or") 42 ∷
    forms (symbol (codes "p") 46 ∷ symbol (codes "a") 48 ∷ []) 45 ∷
    []
    ) 41 ∷
    []
    ) 35 ∷
    []
    ) 26 ∷
    []))
    ≡ Some (GoalArg, 41)
unfolding term_breaks goal_breaks bound_breaks formula_breaks effect_breaks
a_disjunction_as_a_goal = refl

-- (domain d (predicate p 9))
pub an_arity_past_its_limit :
    answer (file (
    forms (symbol (codes "predicate") 11 ∷ symbol (codes "p") 21 ∷ integer (pos 9) 23 ∷ []) 10 ∷
    []))
    ≡ Some (Limit, 23)
unfolding term_breaks goal_breaks bound_breaks formula_breaks effect_breaks
an_arity_past_its_limit = refl

-- no text
pub no_form : answer ([]) ≡ Some (Shape, 0)
unfolding term_breaks goal_breaks bound_breaks formula_breaks effect_breaks
no_form = refl

-- (domain d) d
pub a_second_form : answer (forms (symbol (codes "domain") 1 ∷ symbol (codes "d") 8 ∷ []) 0 ∷ symbol (codes "d") 11 ∷ []) ≡ Some (Shape, 11)
unfolding term_breaks goal_breaks bound_breaks formula_breaks effect_breaks
a_second_form = refl

-- (domain d (control (forall (?x) ?x true)))
pub a_bound_that_is_the_variable :
    answer (file (
    forms (
    symbol (codes "control") 11 ∷
    forms (
    symbol (codes "forall") 20 ∷
    forms (symbol (codes "?x") 28 ∷ []) 27 ∷
    symbol (codes "?x") 32 ∷
    symbol (codes "true") 35 ∷
    []
    ) 19 ∷
    []
    ) 10 ∷
    []))
    ≡ Some (Shape, 32)
unfolding term_breaks goal_breaks bound_breaks formula_breaks effect_breaks
a_bound_that_is_the_variable = refl

-- (domain d (control (goal ?x)))
pub a_goal_that_is_a_variable :
    answer (file (
    forms (
    symbol (codes "control") 11 ∷
    forms (symbol (codes "goal") 20 ∷ symbol (codes "?x") 25 ∷ []) 19 ∷
    []
    ) 10 ∷
    []))
    ≡ Some (GoalArg, 25)
unfolding term_breaks goal_breaks bound_breaks formula_breaks effect_breaks
a_goal_that_is_a_variable = refl

-- (domain d (predicate p 1) (control (goal (p (q) a))))
pub a_goal_with_a_list_and_too_many_arguments :
    answer (file (
    forms (symbol (codes "predicate") 11 ∷ symbol (codes "p") 21 ∷ integer (pos 1) 23 ∷ []) 10 ∷
    forms (
    symbol (codes "control") 27 ∷
    forms (
    symbol (codes "goal") 36 ∷
    forms (
    symbol (codes "p") 42 ∷
    forms (symbol (codes "q") 45 ∷ []) 44 ∷
    symbol (codes "a") 48 ∷
    []
    ) 41 ∷
    []
    ) 35 ∷
    []
    ) 26 ∷
    []))
    ≡ Some (Arity, 41)
unfolding term_breaks goal_breaks bound_breaks formula_breaks effect_breaks
a_goal_with_a_list_and_too_many_arguments = refl

-- (domain d (predicate p 1) (control (goal (not (p a b)))))
pub a_negated_goal_with_too_many_arguments :
    answer (file (
    forms (symbol (codes "predicate") 11 ∷ symbol (codes "p") 21 ∷ integer (pos 1) 23 ∷ []) 10 ∷
    forms (
    symbol (codes "control") 27 ∷
    forms (
    symbol (codes "goal") 36 ∷
    forms (
    symbol (codes "not") 42 ∷
    forms (symbol (codes "p") 47 ∷ symbol (codes "a") 49 ∷ symbol (codes "b") 51 ∷ []) 46 ∷
    []
    ) 41 ∷
    []
    ) 35 ∷
    []
    ) 26 ∷
    []))
    ≡ Some (Arity, 46)
unfolding term_breaks goal_breaks bound_breaks formula_breaks effect_breaks
a_negated_goal_with_too_many_arguments = refl

-- (domain r (defined 65 (q) true))
pub too_many_levels :
    answer (
    forms (
    symbol (codes "domain") 1 ∷
    symbol (codes "r") 8 ∷
    forms (
    symbol (codes "defined") 11 ∷
    integer (pos 65) 19 ∷
    forms (symbol (codes "q") 23 ∷ []) 22 ∷
    symbol (codes "true") 26 ∷
    []
    ) 10 ∷
    []
    ) 0 ∷ [])
    ≡ Some (Limit, 19)
unfolding term_breaks goal_breaks bound_breaks formula_breaks effect_breaks
too_many_levels = refl

-- (domain r (defined 40 (q) true) (defined 25 (s) true))
pub too_many_levels_together :
    answer (
    forms (
    symbol (codes "domain") 1 ∷
    symbol (codes "r") 8 ∷
    forms (
    symbol (codes "defined") 11 ∷
    integer (pos 40) 19 ∷
    forms (symbol (codes "q") 23 ∷ []) 22 ∷
    symbol (codes "true") 26 ∷
    []
    ) 10 ∷
    forms (
    symbol (codes "defined") 33 ∷
    integer (pos 25) 41 ∷
    forms (symbol (codes "s") 45 ∷ []) 44 ∷
    symbol (codes "true") 48 ∷
    []
    ) 32 ∷
    []
    ) 0 ∷ [])
    ≡ Some (Limit, 41)
unfolding term_breaks goal_breaks bound_breaks formula_breaks effect_breaks
too_many_levels_together = refl

-- (domain d (control (within 100001 true)))
pub too_many_steps :
    answer (file (
    forms (
    symbol (codes "control") 11 ∷
    forms (symbol (codes "within") 20 ∷ integer (pos 100001) 27 ∷ symbol (codes "true") 34 ∷ []) 19 ∷
    []
    ) 10 ∷
    []))
    ≡ Some (Limit, 27)
unfolding term_breaks goal_breaks bound_breaks formula_breaks effect_breaks
too_many_steps = refl

-- (domain d (define (q) (not (not (not (not (not (not (not (not (not (not (not (not (not (not (not
--   (not (not (not (not (not (not (not (not (not (not true)))))))))))))))))))))))))))
pub a_body_too_deep :
    answer (file (
    forms (
    symbol (codes "define") 11 ∷
    forms (symbol (codes "q") 19 ∷ []) 18 ∷
    forms (
    symbol (codes "not") 23 ∷
    forms (
    symbol (codes "not") 28 ∷
    forms (
    symbol (codes "not") 33 ∷
    forms (
    symbol (codes "not") 38 ∷
    forms (
    symbol (codes "not") 43 ∷
    forms (
    symbol (codes "not") 48 ∷
    forms (
    symbol (codes "not") 53 ∷
    forms (
    symbol (codes "not") 58 ∷
    forms (
    symbol (codes "not") 63 ∷
    forms (
    symbol (codes "not") 68 ∷
    forms (
    symbol (codes "not") 73 ∷
    forms (
    symbol (codes "not") 78 ∷
    forms (
    symbol (codes "not") 83 ∷
    forms (
    symbol (codes "not") 88 ∷
    forms (
    symbol (codes "not") 93 ∷
    forms (
    symbol (codes "not") 98 ∷
    forms (
    symbol (codes "not") 103 ∷
    forms (
    symbol (codes "not") 108 ∷
    forms (
    symbol (codes "not") 113 ∷
    forms (
    symbol (codes "not") 118 ∷
    forms (
    symbol (codes "not") 123 ∷
    forms (
    symbol (codes "not") 128 ∷
    forms (
    symbol (codes "not") 133 ∷
    forms (
    symbol (codes "not") 138 ∷
    forms (
    symbol (codes "not") 143 ∷
    symbol (codes "true") 147 ∷
    []
    ) 142 ∷
    []
    ) 137 ∷
    []
    ) 132 ∷
    []
    ) 127 ∷
    []
    ) 122 ∷
    []
    ) 117 ∷
    []
    ) 112 ∷
    []
    ) 107 ∷
    []
    ) 102 ∷
    []
    ) 97 ∷
    []
    ) 92 ∷
    []
    ) 87 ∷
    []
    ) 82 ∷
    []
    ) 77 ∷
    []
    ) 72 ∷
    []
    ) 67 ∷
    []
    ) 62 ∷
    []
    ) 57 ∷
    []
    ) 52 ∷
    []
    ) 47 ∷
    []
    ) 42 ∷
    []
    ) 37 ∷
    []
    ) 32 ∷
    []
    ) 27 ∷
    []
    ) 22 ∷
    []
    ) 10 ∷
    []))
    ≡ Some (Limit, 22)
unfolding term_breaks goal_breaks bound_breaks formula_breaks effect_breaks
a_body_too_deep = refl

-- (domain lamps (predicate lamp 1) (predicate on 1) (operator (press ?x) (bounds (lamp ?x)) (pre
-- (not (on ?x))) (effects (add (on ?x)))))
abbrev the_lamps : List FormTree
the_lamps =
    forms (
    symbol (codes "domain") 1 ∷
    symbol (codes "lamps") 8 ∷
    forms (symbol (codes "predicate") 15 ∷ symbol (codes "lamp") 25 ∷ integer (pos 1) 30 ∷ []) 14 ∷
    forms (symbol (codes "predicate") 34 ∷ symbol (codes "on") 44 ∷ integer (pos 1) 47 ∷ []) 33 ∷
    forms (
    symbol (codes "operator") 51 ∷
    forms (symbol (codes "press") 61 ∷ symbol (codes "?x") 67 ∷ []) 60 ∷
    forms (
    symbol (codes "bounds") 72 ∷
    forms (symbol (codes "lamp") 80 ∷ symbol (codes "?x") 85 ∷ []) 79 ∷
    []
    ) 71 ∷
    forms (
    symbol (codes "pre") 91 ∷
    forms (
    symbol (codes "not") 96 ∷
    forms (symbol (codes "on") 101 ∷ symbol (codes "?x") 104 ∷ []) 100 ∷
    []
    ) 95 ∷
    []
    ) 90 ∷
    forms (
    symbol (codes "effects") 111 ∷
    forms (
    symbol (codes "add") 120 ∷
    forms (symbol (codes "on") 125 ∷ symbol (codes "?x") 128 ∷ []) 124 ∷
    []
    ) 119 ∷
    []
    ) 110 ∷
    []
    ) 50 ∷
    []
    ) 0 ∷ []

pub the_lamps_break_no_rule : answer the_lamps ≡ None
unfolding term_breaks goal_breaks bound_breaks formula_breaks effect_breaks
the_lamps_break_no_rule = refl

-- the same file, with the numbers of its symbols in reading order
pub the_lamps_stand_for_this_domain :
    domain_file_meant (names_with_all [] (trees_of_list the_lamps)) (trees_of_list the_lamps) ≡ record {
      name = 1;
      predicates = record { name = 3; arity = 1 } ∷ record { name = 4; arity = 1 } ∷ [];
      functions = [];
      definitions = [];
      operators = record {
        name = 6;
        params = record { slot = 0; name = 7 } ∷ [];
        bounds = bound.Fact 0 (arg.Var (record { slot = 0; name = 7 }) ∷ []) ∷ [];
        pre = negation (atom 1 (more_terms (variable (record { slot = 0; name = 7 })) no_term));
        effects = more_effects (add 1 (more_terms (variable (record { slot = 0; name = 7 })) no_term)) no_effect;
      } ∷ [];
      control = verum;
    }
unfolding term_meant goal_meant bound_meant formula_meant effect_meant
the_lamps_stand_for_this_domain = refl
