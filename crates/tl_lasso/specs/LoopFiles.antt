-- Plan files with a repeated part: the rules that their forms break.
--
-- The last form is the repeated part, `(repeat ACTION ..)` with one action at least, and every form
-- before it is an action. The actions of both parts are counted together.
use Rattle.std.specs.Prelude.{ℕ, List, [], ◌∷◌, ◌++◌, if◌then◌else◌, codes, Option, Some, None}
use Rattle.tl_sexpr.specs.Tree.{FormTree, FormTrees, list, no_form, more_forms}
use Rattle.tl_syntax.specs.declared.operator.Operator.{Operator}
use Rattle.tl_rules.specs.declared.rule.Rule.TheVariants.{Shape}
use Rattle.tl_rules.specs.Parts.{offset_of, count, is_word}
use Rattle.tl_rules.specs.Rules.{Break}
use Rattle.tl_line.specs.ActionLists.{actions_breaks}

-- ---- the repeated part

-- the forms after the word `repeat`, where there is one at least
abbrev pub repeated_in : FormTrees → Option FormTrees
repeated_in (more_forms word (more_forms f fs)) = if is_word (codes "repeat") word then Some (more_forms f fs) else None
repeated_in _ = None

-- so it is for a form, which has to be a list
abbrev pub repeated : FormTree → Option FormTrees
repeated (list fs at) = repeated_in fs
repeated _ = None

-- what the form at this offset breaks in the role of the repeated part, with so many actions before
-- it, by the forms of its actions
abbrev pub repeat_breaks_at : List (List ℕ) → List Operator → ℕ → ℕ → Option FormTrees → List Break
repeat_breaks_at names operators before at None = (Shape, at) ∷ []
repeat_breaks_at names operators before at (Some fs) = actions_breaks names operators before fs

-- what a form breaks in this role
abbrev pub repeat_breaks : List (List ℕ) → List Operator → ℕ → FormTree → List Break
repeat_breaks names operators before f = repeat_breaks_at names operators before (offset_of f) (repeated f)

-- ---- the file

-- all forms but the last
abbrev pub front_of : FormTrees → FormTrees
front_of no_form = no_form
front_of (more_forms f no_form) = no_form
front_of (more_forms f (more_forms g gs)) = more_forms f (front_of (more_forms g gs))

-- the last form, where there is one
abbrev pub last_form : FormTrees → Option FormTree
last_form no_form = None
last_form (more_forms f no_form) = Some f
last_form (more_forms f (more_forms g gs)) = last_form (more_forms g gs)

-- what forms break before this last one, and it too; without a last form there is no repeated part
abbrev pub loop_breaks_by : List (List ℕ) → List Operator → FormTrees → Option FormTree → List Break
loop_breaks_by names operators front None = (Shape, 0) ∷ []
loop_breaks_by names operators front (Some f) = actions_breaks names operators 0 front ++ repeat_breaks names operators (count front) f

-- what the forms of a plan file with a repeated part break
abbrev pub loop_breaks : List (List ℕ) → List Operator → FormTrees → List Break
loop_breaks names operators fs = loop_breaks_by names operators (front_of fs) (last_form fs)
