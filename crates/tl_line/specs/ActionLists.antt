-- Actions one after the other, as plan files have them: the rules that their forms break. A plan
-- has at most 100000 actions.
use Rattle.std.specs.Prelude.{ℕ, ◌+◌, List, [], ◌++◌, not, nat_lt, if◌then◌else◌}
use Rattle.tl_sexpr.specs.Tree.{FormTree, FormTrees, no_form, more_forms}
use Rattle.tl_syntax.specs.declared.operator.Operator.{Operator}
use Rattle.tl_rules.specs.declared.rule.Rule.TheVariants.{Limit}
use Rattle.tl_rules.specs.Parts.{offset_of, is_call}
use Rattle.tl_rules.specs.Rules.{Break, breaks_if}
use Rattle.tl_line.specs.Actions.{action_breaks}

-- what an action at this offset breaks with so many actions before it: a plan has at most 100000
abbrev pub limit_breaks : ℕ → ℕ → List Break
limit_breaks before at = breaks_if (not (nat_lt before 100000)) Limit at

-- what an action breaks with so many actions before it; the rule on its shape has a lesser number
-- than the limit, and those on its operator have greater ones
abbrev pub placed_breaks : List (List ℕ) → List Operator → ℕ → FormTree → List Break
placed_breaks names operators before f =
    if is_call f then limit_breaks before (offset_of f) ++ action_breaks names operators f else action_breaks names operators f ++
    limit_breaks before (offset_of f)

-- what actions break with so many actions before them
abbrev pub actions_breaks : List (List ℕ) → List Operator → ℕ → FormTrees → List Break
actions_breaks names operators before no_form = []
actions_breaks names operators before (more_forms f fs) = placed_breaks names operators before f ++
    actions_breaks names operators (before + 1) fs
