-- Items of a domain: the rules that a form breaks in the role of an item, and what an item
-- declares.
use Rattle.std.specs.Prelude.{ℕ, ◌+◌, List, [], ◌∷◌, ◌++◌, Bool, true, false, ◌&&◌, ◌||◌, ◌==◌, not, nat_lt, length, Option, Some, None}
use Rattle.tl_sexpr.specs.Tree.{FormTree, FormTrees, symbol, integer, no_form, more_forms}
use Rattle.tl_domain.specs.Words as item
use Rattle.tl_formulas.specs.declared.roles.FormulaRole.TheVariants as role
use Rattle.tl_rules.specs.declared.rule.Rule.TheVariants.{Shape, Twice, Limit}
use Rattle.tl_formulas.specs.declared.signature.NameSignature.{NameSignature}
use Rattle.tl_domain.specs.Declarations.{Declarations}
use Rattle.tl_rules.specs.Rules.{Break, breaks_if}
use Rattle.tl_domain.specs.Words.{ItemWord, item_word}
use Rattle.tl_rules.specs.Parts.{count, is_list, is_integer, is_name, natural, is_within, offset_of, rest_of}
use Rattle.tl_formulas.specs.Signatures.{is_taken}
use Rattle.tl_formulas.specs.Formulas.{formula_breaks}
use Rattle.tl_rules.specs.Calls.{CallTree, call_in}
use Rattle.tl_domain.specs.Operators.{head_breaks, head_name_breaks, parameters_of, name_in_head, are_clauses, operator_breaks}

-- the elements are a name and an integer, as `predicate` and `function` ask for
abbrev pub has_declaration_shape : FormTrees → Bool
has_declaration_shape (more_forms name (more_forms arity no_form)) = is_name name && is_integer arity
has_declaration_shape _ = false

-- the elements are a head and a body, as `define` asks for
abbrev pub has_define_shape : FormTrees → Bool
has_define_shape (more_forms head (more_forms f no_form)) = is_list head
has_define_shape _ = false

-- the elements are a number of levels, a head and a body, as `defined` asks for
abbrev pub has_defined_shape : FormTrees → Bool
has_defined_shape (more_forms n (more_forms head (more_forms f no_form))) = is_integer n && is_list head
has_defined_shape _ = false

-- the elements are a head and clauses, as `operator` asks for
abbrev pub has_operator_shape : FormTrees → Bool
has_operator_shape no_form = false
has_operator_shape (more_forms head clauses) = is_list head && are_clauses clauses

-- the elements after such a first word have the shape that it asks for
abbrev pub has_item_shape : ItemWord → FormTrees → Bool
has_item_shape item.Predicate rest = has_declaration_shape rest
has_item_shape item.Function rest = has_declaration_shape rest
has_item_shape item.Define rest = has_define_shape rest
has_item_shape item.Defined rest = has_defined_shape rest
has_item_shape item.Operator rest = has_operator_shape rest
has_item_shape item.Control rest = count rest == 1
has_item_shape item.Other rest = false

-- there are as many of such items before as a domain can have
abbrev pub is_full : Declarations → ItemWord → Bool
is_full k item.Predicate = not (nat_lt (length k.signature.predicates) 256)
is_full k item.Function = not (nat_lt (length k.signature.functions) 256)
is_full k item.Define = not (nat_lt (length k.signature.definitions) 64)
is_full k item.Defined = not (nat_lt (length k.signature.definitions) 64)
is_full k item.Operator = not (nat_lt (length k.operators) 256)
is_full k item.Control = false
is_full k item.Other = false

-- a second control item
abbrev pub is_second_control : Declarations → ItemWord → Bool
is_second_control k item.Control = k.controlled
is_second_control k _ = false

-- what an arity breaks
abbrev pub arity_breaks : FormTree → List Break
arity_breaks (integer z at) = breaks_if (not (is_within 0 8 z)) Limit at
arity_breaks _ = []

-- what the elements of a declaration break, where these things are declared before it
abbrev pub declaration_breaks : NameSignature → FormTrees → List Break
declaration_breaks g (more_forms name (more_forms arity no_form)) = head_name_breaks (is_taken g) name ++ arity_breaks arity
declaration_breaks g _ = []

-- what the elements of a declaration break, with what its list breaks at an offset, before which
-- there are so many of its kind
abbrev pub new_declaration_breaks : NameSignature → ℕ → FormTrees → ℕ → List Break
new_declaration_breaks g before rest at =
    (breaks_if (not (has_declaration_shape rest)) Shape at ++ breaks_if (not (nat_lt before 256)) Limit at)
    ++ declaration_breaks g rest

-- what a number of levels breaks, which is added to those before
abbrev pub levels_breaks : ℕ → FormTree → List Break
levels_breaks before (integer z at) = breaks_if (not (is_within 1 64 z) || nat_lt 64 (before + natural z)) Limit at
levels_breaks before _ = []

-- a name with a number of arguments, at the end of the predicates, of the functions and of the
-- definitions
abbrev pub with_predicate : NameSignature → List ℕ × ℕ → NameSignature
with_predicate g e = record { predicates = g.predicates ++ e ∷ []; functions = g.functions; definitions = g.definitions }

abbrev pub with_function : NameSignature → List ℕ × ℕ → NameSignature
with_function g e = record { predicates = g.predicates; functions = g.functions ++ e ∷ []; definitions = g.definitions }

abbrev pub with_definition : NameSignature → List ℕ × ℕ → NameSignature
with_definition g e = record { predicates = g.predicates; functions = g.functions; definitions = g.definitions ++ e ∷ [] }

-- the name and the number of arguments that the elements of a declaration give
abbrev pub declaration_of : FormTrees → List ℕ × ℕ
declaration_of (more_forms (symbol text _) (more_forms (integer z _) no_form)) = (text, natural z)
declaration_of _ = ([], 0)

-- the number of an integer
abbrev pub natural_of : FormTree → ℕ
natural_of (integer z at) = natural z
natural_of _ = 0

-- with the definition of a head
abbrev pub with_head : NameSignature → FormTree → NameSignature
with_head g head = with_definition g (name_in_head head, count (rest_of head))

-- what a head and a body break after what the first signature has, where the body may use what the
-- second has
abbrev pub definition_breaks : NameSignature → NameSignature → FormTree → FormTree → List Break
definition_breaks g h head f =
    head_breaks 8 (is_taken g) (λ text. true) head ++ formula_breaks role.Body h (parameters_of head) f

-- what the list of an item breaks itself
abbrev pub item_list_breaks : Declarations → ItemWord → FormTrees → ℕ → List Break
item_list_breaks k w rest at =
    breaks_if (not (has_item_shape w rest)) Shape at
    ++ (breaks_if (is_second_control k w) Twice at ++ breaks_if (is_full k w) Limit at)

-- what the elements after such a first word break
abbrev pub item_parts_breaks : Declarations → ItemWord → FormTrees → List Break
item_parts_breaks k item.Predicate rest = declaration_breaks k.signature rest
item_parts_breaks k item.Function rest = declaration_breaks k.signature rest
item_parts_breaks k item.Define (more_forms head (more_forms f no_form)) =
    definition_breaks k.signature k.signature head f
item_parts_breaks k item.Defined (more_forms n (more_forms head (more_forms f no_form))) =
    levels_breaks k.levels n ++ definition_breaks k.signature (with_head k.signature head) head f
item_parts_breaks k item.Operator rest = operator_breaks k.signature k.operators rest
item_parts_breaks k item.Control (more_forms f no_form) = formula_breaks role.Control k.signature [] f
item_parts_breaks k _ _ = []

-- what an item at an offset breaks, with its parts; it is a list that begins with a symbol
abbrev pub item_call_breaks : Declarations → Option CallTree → ℕ → List Break
item_call_breaks k (Some c) at =
    item_list_breaks k (item_word c.word) c.rest c.at ++ item_parts_breaks k (item_word c.word) c.rest
item_call_breaks k None at = (Shape, at) ∷ []

abbrev pub item_breaks : Declarations → FormTree → List Break
item_breaks k f = item_call_breaks k (call_in f) (offset_of f)

-- the signature with what an item declares
abbrev pub signature_after : NameSignature → ItemWord → FormTrees → NameSignature
signature_after g item.Predicate rest = with_predicate g (declaration_of rest)
signature_after g item.Function rest = with_function g (declaration_of rest)
signature_after g item.Define (more_forms head rest) = with_head g head
signature_after g item.Defined (more_forms n (more_forms head rest)) = with_head g head
signature_after g _ _ = g

-- the names of the operators with that of an item
abbrev pub operators_after : List (List ℕ) → ItemWord → FormTrees → List (List ℕ)
operators_after operators item.Operator (more_forms head rest) = operators ++ name_in_head head ∷ []
operators_after operators _ _ = operators

-- the levels with those of an item
abbrev pub levels_after : ℕ → ItemWord → FormTrees → ℕ
levels_after levels item.Defined (more_forms n rest) = levels + natural_of n
levels_after levels _ _ = levels

-- the item is a control item, or one stands before
abbrev pub controlled_after : Bool → ItemWord → Bool
controlled_after before item.Control = true
controlled_after before _ = before

-- what is declared after an item of this word and these elements
abbrev pub declared_with : Declarations → ItemWord → FormTrees → Declarations
declared_with k w rest = record {
  signature = signature_after k.signature w rest;
  operators = operators_after k.operators w rest;
  levels = levels_after k.levels w rest;
  controlled = controlled_after k.controlled w;
}

-- what is declared after an item
abbrev pub declared_after_call : Declarations → Option CallTree → Declarations
declared_after_call k (Some c) = declared_with k (item_word c.word) c.rest
declared_after_call k None = k

abbrev pub declared_after : Declarations → FormTree → Declarations
declared_after k f = declared_after_call k (call_in f)

-- what items break that stand after others
abbrev pub items_breaks : Declarations → FormTrees → List Break
items_breaks k no_form = []
items_breaks k (more_forms f fs) = item_breaks k f ++ items_breaks (declared_after k f) fs
