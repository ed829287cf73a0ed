-- Worked examples of actions and of the first rule that each breaks. Above each stands its text.
--
-- The names are `press` and `a`, and the one operator is called `press` and has one parameter.
use Rattle.std.specs.Prelude.{◌≡◌, ℕ, negsuc, List, [], ◌∷◌, length, Option, Some, None, refl, codes}
use Rattle.std.specs.Fmt.{digits}
use Rattle.tl_sexpr.specs.Tree.{FormTree, symbol, integer, list, trees_of_list}
use Rattle.tl_syntax.specs.declared.operator.Operator.{Operator}
use Rattle.tl_syntax.specs.declared.value.Value.TheVariants.{Int, Sym}
use Rattle.tl_rules.specs.declared.rule.Rule.TheVariants.{Shape, NoOperator, ArgumentCount, NotAValue}
use Rattle.tl_rules.specs.Rules.{Break, first_break}
use Rattle.tl_line.specs.Actions.{action_breaks}
use Rattle.tl_line.specs.MeaningOfActions.{action_meant}
use Rattle.tl_line.specs.ActionTexts.{values_text}

-- a list of these elements
abbrev forms : List FormTree → ℕ → FormTree
forms fs at = list (trees_of_list fs) at

abbrev names : List (List ℕ)
names = codes "press" ∷ codes "a" ∷ []

-- the first break of a form
abbrev answer : Operator → FormTree → Option Break
answer o f = first_break (action_breaks names (o ∷ []) f)

pub record IsPress (o : Operator) : Type 0 where
  pub name : o.name ≡ 0
  pub one : length o.params ≡ 1

-- (press a)
pub an_action : (o : Operator) → IsPress o → answer o (forms (symbol (codes "press") 1 ∷ symbol (codes "a") 7 ∷ []) 0) ≡ None
unfolding action_breaks
an_action o press = rw (press.name, press.one) refl

-- (press -7)
pub an_integer : (o : Operator) → IsPress o → action_meant names (o ∷ []) (forms (symbol (codes "press") 1 ∷ integer (negsuc 6) 7 ∷ []) 0) ≡
    record { op = 0; args = Int (negsuc 6) ∷ [] }
unfolding action_meant
an_integer o press = rw press.name refl

-- press
pub no_list : (o : Operator) → answer o (symbol (codes "press") 0) ≡ Some (Shape, 0)
unfolding action_breaks
no_list o = refl

-- ()
pub an_empty_list : (o : Operator) → answer o (forms [] 0) ≡ Some (Shape, 0)
unfolding action_breaks
an_empty_list o = refl

-- (jump a)
pub no_operator : (o : Operator) → answer o (forms (symbol (codes "jump") 1 ∷ symbol (codes "a") 6 ∷ []) 0) ≡ Some (NoOperator, 0)
unfolding action_breaks
no_operator o = refl

-- (press)
pub no_argument : (o : Operator) → IsPress o → answer o (forms (symbol (codes "press") 1 ∷ []) 0) ≡ Some (ArgumentCount, 0)
unfolding action_breaks
no_argument o press = rw (press.name, press.one) refl

-- (press ?x)
pub a_variable : (o : Operator) → IsPress o → answer o (forms (symbol (codes "press") 1 ∷ symbol (codes "?x") 7 ∷ []) 0) ≡
    Some (NotAValue, 7)
unfolding action_breaks
a_variable o press = rw (press.name, press.one) refl

-- (press zz)
pub a_symbol_of_neither_file : (o : Operator) → IsPress o → answer o (forms (symbol (codes "press") 1 ∷ symbol (codes "zz") 7 ∷ []) 0) ≡
    Some (NotAValue, 7)
unfolding action_breaks
a_symbol_of_neither_file o press = rw (press.name, press.one) refl

-- the values a and -7
pub two_values : values_text names (Sym 1 ∷ Int (negsuc 6) ∷ []) ≡ codes " a -7"
unfolding digits
two_values = refl
