-- The parts of forms.
use Rattle.std.specs.Prelude.{ℕ, zero, suc, ℤ, pos, negsuc, ◌+◌, List, [], ◌∷◌, Bool, true, false, ◌&&◌, ◌||◌, not, nat_lt, ◌==◌, Option}
use Rattle.std.specs.Prelude.{Some, None}
use Rattle.std.specs.Str.{bytes_eq}
use Rattle.tl_sexpr.specs.Tree.{FormTree, FormTrees, symbol, integer, list, no_form, more_forms}

-- a variable begins with `?`; every other symbol is a name
abbrev pub is_variable : List ℕ → Bool
is_variable [] = false
is_variable (c ∷ cs) = c == 63

-- the offset of a form's first byte
abbrev pub offset_of : FormTree → ℕ
offset_of (symbol text at) = at
offset_of (integer z at) = at
offset_of (list fs at) = at

-- how many forms there are
abbrev pub count : FormTrees → ℕ
count no_form = 0
count (more_forms f fs) = 1 + count fs

-- the form is a list
abbrev pub is_list : FormTree → Bool
is_list (symbol text at) = false
is_list (integer z at) = false
is_list (list fs at) = true

-- one of the forms is a list
abbrev pub any_list : FormTrees → Bool
any_list no_form = false
any_list (more_forms f fs) = is_list f || any_list fs

-- the form is an integer
abbrev pub is_integer : FormTree → Bool
is_integer (symbol text at) = false
is_integer (integer z at) = true
is_integer (list fs at) = false

-- the form is a name
abbrev pub is_name : FormTree → Bool
is_name (symbol text at) = not (is_variable text)
is_name (integer z at) = false
is_name (list fs at) = false

-- each of the forms is a variable
abbrev pub are_variables : FormTrees → Bool
are_variables no_form = true
are_variables (more_forms (symbol text at) fs) = is_variable text && are_variables fs
are_variables (more_forms (integer z at) fs) = false
are_variables (more_forms (list gs at) fs) = false

-- the form is a non-empty list of variables
abbrev pub is_variable_list : FormTree → Bool
is_variable_list (list (more_forms f fs) at) = are_variables (more_forms f fs)
is_variable_list _ = false

-- the form is a non-empty list that begins with a symbol
abbrev pub is_call : FormTree → Bool
is_call (list (more_forms (symbol text at) fs) _) = true
is_call _ = false

-- the text of a symbol
abbrev pub symbol_text : FormTree → Option (List ℕ)
symbol_text (symbol text at) = Some text
symbol_text (integer z at) = None
symbol_text (list fs at) = None

-- the first word and the elements after it, where the first is a symbol
abbrev pub call_of : FormTrees → Option (List ℕ × FormTrees)
call_of no_form = None
call_of (more_forms (symbol text at) rest) = Some (text, rest)
call_of (more_forms (integer z at) rest) = None
call_of (more_forms (list fs at) rest) = None

-- the symbol is this word
abbrev pub is_word : List ℕ → FormTree → Bool
is_word word (symbol text at) = bytes_eq text word
is_word word (integer z at) = false
is_word word (list fs at) = false

-- the texts of the symbols among the forms, in their order
abbrev pub texts_of : FormTrees → List (List ℕ)
texts_of no_form = []
texts_of (more_forms (symbol text at) fs) = text ∷ texts_of fs
texts_of (more_forms (integer z at) fs) = texts_of fs
texts_of (more_forms (list gs at) fs) = texts_of fs

-- the elements of a list
abbrev pub elements_of : FormTree → FormTrees
elements_of (symbol text at) = no_form
elements_of (integer z at) = no_form
elements_of (list fs at) = fs

-- the elements of a list after the first
abbrev pub rest_of : FormTree → FormTrees
rest_of (list (more_forms f fs) at) = fs
rest_of _ = no_form

-- the first of the forms is this word
abbrev pub is_led_by : List ℕ → FormTrees → Bool
is_led_by word no_form = false
is_led_by word (more_forms f fs) = is_word word f

-- the form is a list that begins with this word
abbrev pub begins_with : List ℕ → FormTree → Bool
begins_with word f = is_led_by word (elements_of f)

-- the number of a lawful count; an integer below 0 is none
abbrev pub natural : ℤ → ℕ
natural (pos n) = n
natural (negsuc n) = 0

-- the integer is from the first to the second number
abbrev pub is_within : ℕ → ℕ → ℤ → Bool
is_within least most (pos n) = not (nat_lt n least) && not (nat_lt most n)
is_within least most (negsuc n) = false

-- the symbol stands in the form, which may be the symbol itself, and in one of the forms
abbrev mutual
  pub occurs_in : List ℕ → FormTree → Bool
  occurs_in text (symbol other at) = bytes_eq text other
  occurs_in text (integer z at) = false
  occurs_in text (list fs at) = occurs_in_any text fs

  pub occurs_in_any : List ℕ → FormTrees → Bool
  occurs_in_any text no_form = false
  occurs_in_any text (more_forms f fs) = occurs_in text f || occurs_in_any text fs

-- how many forms stand in a form, itself among them, and in forms
abbrev mutual
  pub size : FormTree → ℕ
  size (symbol text at) = 1
  size (integer z at) = 1
  size (list fs at) = 1 + sizes fs

  pub sizes : FormTrees → ℕ
  sizes no_form = 0
  sizes (more_forms f fs) = 1 + size f + sizes fs

-- more lists than this number lie within one another in the form, and in one of the forms; an empty
-- list is one
abbrev mutual
  pub is_deeper : ℕ → FormTree → Bool
  is_deeper limit (symbol text at) = false
  is_deeper limit (integer z at) = false
  is_deeper zero (list fs at) = true
  is_deeper (suc limit) (list fs at) = is_any_deeper limit fs

  pub is_any_deeper : ℕ → FormTrees → Bool
  is_any_deeper limit no_form = false
  is_any_deeper limit (more_forms f fs) = is_deeper limit f || is_any_deeper limit fs
