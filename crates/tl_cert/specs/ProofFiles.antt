-- Proof files: the rules that their forms break.
--
-- A proof file is a head `(none)` or `(none-within N)`, N from 0 to 100000, and then links `(pair J
-- ACTION)`, where J is the number of a pair: 0, or that of a link before. A link asks for an action
-- of the shape of a call, so the other rules on actions are those after the shape.
use Rattle.std.specs.Prelude.{ℕ, ℤ, ◌+◌, List, [], ◌∷◌, ◌++◌, ◌&&◌, not, if◌then◌else◌, codes, Option, Some, None}
use Rattle.tl_sexpr.specs.Tree.{FormTree, FormTrees, integer, list, no_form, more_forms}
use Rattle.tl_syntax.specs.declared.operator.Operator.{Operator}
use Rattle.tl_rules.specs.declared.rule.Rule.TheVariants.{Shape, Limit, NoPair}
use Rattle.tl_rules.specs.Parts.{offset_of, is_call, is_within, is_word}
use Rattle.tl_rules.specs.Rules.{Break, breaks_if}
use Rattle.tl_line.specs.ActionLists.{limit_breaks}
use Rattle.tl_line.specs.Actions.{action_breaks}

-- ---- the head

-- the bound of the head with these two elements, with its offset; other elements are no head
abbrev pub bounded_head : FormTree → FormTree → Option (Option (ℤ × ℕ))
bounded_head word (integer n at) = if is_word (codes "none-within") word then Some (Some (n, at)) else None
bounded_head word _ = None

-- the bound of the head with these elements, with its offset, where it has one; other elements are
-- no head
abbrev pub head_in : FormTrees → Option (Option (ℤ × ℕ))
head_in (more_forms word no_form) = if is_word (codes "none") word then Some None else None
head_in (more_forms word (more_forms bound no_form)) = bounded_head word bound
head_in _ = None

-- so it is for a form, which has to be a list
abbrev pub head_parts : FormTree → Option (Option (ℤ × ℕ))
head_parts (list fs at) = head_in fs
head_parts _ = None

-- what a bound breaks
abbrev pub length_bound_breaks : Option (ℤ × ℕ) → List Break
length_bound_breaks None = []
length_bound_breaks (Some n) = breaks_if (not (is_within 0 100000 n.0)) Limit n.1

-- what the form at this offset breaks in the role of the head, by its bound
abbrev pub proof_head_breaks_at : ℕ → Option (Option (ℤ × ℕ)) → List Break
proof_head_breaks_at at None = (Shape, at) ∷ []
proof_head_breaks_at at (Some bound) = length_bound_breaks bound

-- what a form breaks in the role of the head
abbrev pub proof_head_breaks : FormTree → List Break
proof_head_breaks f = proof_head_breaks_at (offset_of f) (head_parts f)

-- ---- links

-- the number of the pair in the link with these three elements, with its offset, and the form of
-- its action; other elements are no link
abbrev pub link_of_three : FormTree → FormTree → FormTree → Option (ℤ × ℕ × FormTree)
link_of_three word (integer j at) action = if is_word (codes "pair") word && is_call action then Some (j, at, action) else None
link_of_three word _ action = None

-- so it is for any elements
abbrev pub link_in : FormTrees → Option (ℤ × ℕ × FormTree)
link_in (more_forms word (more_forms from (more_forms action no_form))) = link_of_three word from action
link_in _ = None

-- so it is for a form, which has to be a list
abbrev pub link_parts : FormTree → Option (ℤ × ℕ × FormTree)
link_parts (list fs at) = link_in fs
link_parts _ = None

-- what the form at this offset breaks in the role of a link, with so many links before it, by its
-- parts; a proof has at most as many links as a plan has actions
abbrev pub link_breaks_at : List (List ℕ) → List Operator → ℕ → ℕ → Option (ℤ × ℕ × FormTree) → List Break
link_breaks_at names operators before at None = (Shape, at) ∷ limit_breaks before at
link_breaks_at names operators before at (Some parts) = limit_breaks before at ++
    (breaks_if (not (is_within 0 before parts.0)) NoPair parts.1 ++ action_breaks names operators parts.2)

-- what a form breaks in the role of a link
abbrev pub link_breaks : List (List ℕ) → List Operator → ℕ → FormTree → List Break
link_breaks names operators before f = link_breaks_at names operators before (offset_of f) (link_parts f)

-- what links break with so many links before them
abbrev pub links_breaks : List (List ℕ) → List Operator → ℕ → FormTrees → List Break
links_breaks names operators before no_form = []
links_breaks names operators before (more_forms f fs) = link_breaks names operators before f ++ links_breaks names operators (before + 1) fs

-- ---- the file

-- what the forms of a proof file break
abbrev pub proof_breaks : List (List ℕ) → List Operator → FormTrees → List Break
proof_breaks names operators no_form = (Shape, 0) ∷ []
proof_breaks names operators (more_forms f fs) = proof_head_breaks f ++ links_breaks names operators 0 fs
