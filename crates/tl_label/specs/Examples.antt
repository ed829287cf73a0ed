-- Worked examples of the texts of formulas. Above each stands the formula.
--
-- The names are `on`, `n`, `a` and `?x`; the domain has the predicate `on` and the function `n`,
-- and no definition.
use Rattle.std.specs.Prelude.{◌≡◌, ℕ, pos, negsuc, List, [], ◌∷◌, length, refl, codes}
use Rattle.std.specs.Fmt.{digits}
use Rattle.tl_syntax.specs.declared.bound.Bound.TheVariants as bound
use Rattle.tl_syntax.specs.declared.domain.Domain.{Domain}
use Rattle.tl_syntax.specs.declared.value.Cmp.TheVariants.{AtMost}
use Rattle.tl_syntax.specs.declared.value.Op.TheVariants.{Plus}
use Rattle.tl_syntax.specs.declared.value.Value.TheVariants.{Int, Sym}
use Rattle.tl_syntax.specs.declared.variable.Arg.TheVariants as arg
use Rattle.tl_syntax.specs.declared.variable.Var.{Var}
use Rattle.tl_syntax.specs.Trees.{FormulaTree, TermTree, verum, falsum, atom, compare, goal_fact, goal_place, goal_not, negation}
use Rattle.tl_syntax.specs.Trees.{conjunction, disjunction, for_all, for_some, next, always, eventually, until, within, during}
use Rattle.tl_syntax.specs.Trees.{formulas_of_list, variable, value, place, arith, no_term, more_terms}
use Rattle.tl_label.specs.Labels.{formula_text, label_of}
use Rattle.tl_label.specs.Parts.{after_spaces, in_parentheses}
use Rattle.tl_label.specs.Terms.{term_text}

abbrev names : List (List ℕ)
names = codes "on" ∷ codes "n" ∷ codes "a" ∷ codes "?x" ∷ []

-- a domain whose one predicate is `on`, and whose one function is `n`
pub record IsSmall (d : Domain) : Type 0 where
  pub predicates : d.predicates ≡ record { name = 0; arity = 1 } ∷ []
  pub functions : d.functions ≡ record { name = 1; arity = 0 } ∷ []

-- the variable ?x
abbrev x : Var
x = record { slot = 0; name = 3 }

-- (on ?x), and (n)
abbrev on_x : FormulaTree
on_x = atom 0 (more_terms (variable x) no_term)

abbrev n : TermTree
n = place 0 no_term

-- true, and false
pub a_truth : (d : Domain) → formula_text names d verum ≡ codes "true"
unfolding formula_text
a_truth d = refl

pub a_falsehood : (d : Domain) → formula_text names d falsum ≡ codes "false"
unfolding formula_text
a_falsehood d = refl

-- (and), and (or (and) false)
pub no_part : (d : Domain) → formula_text names d (conjunction (formulas_of_list [])) ≡ codes "(and)"
unfolding formula_text term_text in_parentheses after_spaces
no_part d = refl

pub two_parts : (d : Domain) → formula_text names d (disjunction (formulas_of_list (conjunction (formulas_of_list []) ∷ falsum ∷ []))) ≡
    codes "(or (and) false)"
unfolding formula_text term_text in_parentheses after_spaces
two_parts d = refl

-- (always (eventually true))
pub two_words : (d : Domain) → formula_text names d (always (eventually verum)) ≡ codes "(always (eventually true))"
unfolding formula_text term_text in_parentheses after_spaces
two_words d = refl

-- (until (next true) (not false))
pub an_until : (d : Domain) → formula_text names d (until (next verum) (negation falsum)) ≡ codes "(until (next true) (not false))"
unfolding formula_text term_text in_parentheses after_spaces
an_until d = refl

-- (within 12 (for 0 true))
pub two_limits : (d : Domain) → formula_text names d (within 12 (during 0 verum)) ≡ codes "(within 12 (for 0 true))"
unfolding formula_text term_text in_parentheses after_spaces digits
two_limits d = refl

-- (forall (?x) (on ?x) (goal (on ?x)))
pub a_quantifier : (d : Domain) → IsSmall d → formula_text names d (for_all (x ∷ []) (bound.Fact 0 (arg.Var x ∷ []))
    (goal_fact 0 (arg.Var x ∷ []))) ≡ codes "(forall (?x) (on ?x) (goal (on ?x)))"
unfolding formula_text term_text in_parentheses after_spaces
a_quantifier d small = rw small.predicates refl

-- (exists (?x) (goal (not (on ?x))) (on ?x))
pub a_bound_under_goal : (d : Domain) → IsSmall d → formula_text names d (for_some (x ∷ []) (bound.GoalNot 0 (arg.Var x ∷ [])) on_x) ≡
    codes "(exists (?x) (goal (not (on ?x))) (on ?x))"
unfolding formula_text term_text in_parentheses after_spaces
a_bound_under_goal d small = rw small.predicates refl

-- (<= (+ (n) 1) -7)
pub a_comparison : (d : Domain) → IsSmall d → formula_text names d (compare AtMost (arith Plus n (value (Int (pos 1))) 0)
    (value (Int (negsuc 6)))) ≡ codes "(<= (+ (n) 1) -7)"
unfolding formula_text term_text in_parentheses after_spaces digits
a_comparison d small = rw small.functions refl

-- (goal (= (n) a))
pub a_wanted_value : (d : Domain) → IsSmall d → formula_text names d (goal_place 0 [] (arg.Val (Sym 2))) ≡ codes "(goal (= (n) a))"
unfolding formula_text term_text in_parentheses after_spaces
a_wanted_value d small = rw small.functions refl

-- (goal (not (on a)))
pub an_unwanted_fact : (d : Domain) → IsSmall d → formula_text names d (goal_not 0 (arg.Val (Sym 2) ∷ [])) ≡ codes "(goal (not (on a)))"
unfolding formula_text term_text in_parentheses after_spaces
an_unwanted_fact d small = rw small.predicates refl

-- a text of 10,000 bytes is a label, and one of 10,001 is not
pub a_text_at_the_limit : (text : List ℕ) → length text ≡ 10000 → label_of text ≡ text
a_text_at_the_limit text h = rw h refl

pub one_byte_more : (text : List ℕ) → length text ≡ 10001 → label_of text ≡ codes "long"
one_byte_more text h = rw h refl
