-- Worked examples of plan files and of the texts of answers.
use Rattle.std.specs.Prelude.{◌≡◌, ℕ, pos, negsuc, List, [], ◌∷◌, Some, refl, codes}
use Rattle.std.specs.Fmt.{digits}
use Rattle.tl_sexpr.specs.Tree.{symbol, integer, list, trees_of_list}
use Rattle.tl_syntax.specs.declared.operator.Operator.{Operator}
use Rattle.tl_syntax.specs.declared.value.Op.TheVariants.{Plus, Minus}
use Rattle.tl_rules.specs.declared.rule.Rule.TheVariants.{Shape, Limit, NoOperator}
use Rattle.tl_rules.specs.Rules.{first_break}
use Rattle.tl_line.specs.Actions.{action_breaks}
use Rattle.tl_line.specs.ActionLists.{limit_breaks, placed_breaks}
use Rattle.tl_text.specs.Plans.{plan_breaks}
use Rattle.tl_text.specs.Refusals.{refused_text}
use Rattle.tl_text.specs.Ranges.{operation_line, after_line}

-- an empty file
pub no_action : (names : List (List ℕ)) (operators : List Operator) → plan_breaks names operators (trees_of_list []) ≡ []
no_action names operators = refl

-- the 100000th action is within the limit, and the next one is not
pub the_last_action : limit_breaks 99999 0 ≡ []
the_last_action = refl

pub one_action_more : limit_breaks 100000 0 ≡ (Limit, 0) ∷ []
one_action_more = refl

-- past the limit a list that begins with a symbol breaks the limit first, and another form the rule
-- on its shape
pub a_surplus_action : first_break (placed_breaks [] [] 100000 (list (trees_of_list (symbol (codes "jump") 4 ∷ [])) 3)) ≡ Some (Limit, 3)
a_surplus_action = refl

pub a_surplus_integer : first_break (placed_breaks [] [] 100000 (integer (pos 7) 3)) ≡ Some (Shape, 3)
unfolding action_breaks
a_surplus_integer = refl

-- a file of one action without operator
pub an_unknown_operator : first_break (plan_breaks [] [] (trees_of_list (list (trees_of_list (symbol (codes "jump") 1 ∷ [])) 0 ∷ []))) ≡
    Some (NoOperator, 0)
unfolding action_breaks
an_unknown_operator = refl

pub a_refusal : refused_text 3 32 7 ≡ codes "; refused file 3 rule 32 at 7\n"
unfolding digits
a_refusal = refl

pub a_sum_past_range : operation_line (record { at = 60; op = Plus; left = pos 9223372036854775807; right = pos 1 }) ≡
    codes "; range at 60: 9223372036854775807 + 1\n"
unfolding digits
a_sum_past_range = refl

pub a_difference_past_range : operation_line (record { at = 0; op = Minus; left = negsuc 9223372036854775807; right = pos 1 }) ≡
    codes "; range at 0: -9223372036854775808 - 1\n"
unfolding digits
a_difference_past_range = refl

pub after_one_action : after_line 1 ≡ codes "; after 1 actions\n"
unfolding digits
after_one_action = refl
