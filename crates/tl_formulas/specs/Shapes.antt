-- What the parts of formulas' and effects' lists are read from.
use Rattle.std.specs.Prelude.{◌≡◌, List, Bool, true, false, Option, MatchOption}
use Rattle.tl_sexpr.specs.Tree.{FormTree, FormTrees, symbol, integer, list, no_form, more_forms, tree_of}
use Rattle.tl_syntax.specs.declared.junction.Junction.{Junction}
use Rattle.tl_syntax.specs.declared.junction.Junction.TheVariants as junction
use Rattle.tl_rules.specs.Parts.{is_list, is_variable_list}
use Rattle.tl_rules.specs.Reads.{trees_in}
use Rattle.tl_formulas.specs.declared.shapes.Leaf.{Leaf}
use Rattle.tl_formulas.specs.declared.shapes.Leaf.TheVariants as leaf
use Rattle.tl_formulas.specs.declared.shapes.Unary.{Unary}
use Rattle.tl_formulas.specs.declared.shapes.Unary.TheVariants as unary
use Rattle.tl_formulas.specs.declared.shapes.Binary.{Binary}
use Rattle.tl_formulas.specs.declared.shapes.Binary.TheVariants as binary
use Rattle.tl_formulas.specs.declared.shapes.Pair.{Pair}
use Rattle.tl_formulas.specs.declared.shapes.VariableList.{VariableList}
use Rattle.tl_formulas.specs.declared.shapes.FormulaParts.{FormulaParts}
use Rattle.tl_formulas.specs.declared.shapes.FormulaParts.TheVariants as parts
use Rattle.tl_formulas.specs.declared.shapes.EffectParts.{EffectParts}
use Rattle.tl_formulas.specs.declared.shapes.EffectParts.TheVariants as change
use Rattle.tl_rules.specs.declared.calls.Call.{Call}
use Rattle.tl_formulas.specs.declared.roles.FormulaRole.{FormulaRole}
use Rattle.tl_formulas.specs.declared.signature.NameSignature.{NameSignature}
use Rattle.tl_rules.specs.Rules.{Break}
use Rattle.tl_formulas.specs.Signatures.{Scope}
use Rattle.tl_formulas.specs.declared.words.FormulaWord.{FormulaWord}
use Rattle.tl_formulas.specs.declared.words.FormulaWord.TheVariants as word
use Rattle.tl_formulas.specs.declared.words.EffectWord.{EffectWord}
use Rattle.tl_formulas.specs.declared.words.EffectWord.TheVariants as effect
use Rattle.tl_rules.specs.Calls.{list_of}
use Rattle.tl_formulas.specs.Formulas.{has_formula_shape, name_breaks, shaped_list_breaks, is_crowded_by}
use Rattle.tl_formulas.specs.Effects.{has_target_shape, has_effect_shape}

-- a form that is no list
abbrev pub leaf_tree : Leaf → FormTree
leaf_tree (leaf.Symbol text at) = symbol text.now at
leaf_tree (leaf.Integer z at) = integer z at

abbrev pub FindsLeaf : FormTree → Option Leaf → Type 0
FindsLeaf f found = MatchOption found (is_list f ≡ true) (λ x. f ≡ leaf_tree x)

-- the words before one formula, and before two
abbrev pub unary_word : Unary → FormulaWord
unary_word unary.Not = word.Not
unary_word unary.Next = word.Next
unary_word unary.Always = word.Always
unary_word unary.Eventually = word.Eventually

abbrev pub binary_word : Binary → FormulaWord
binary_word binary.Implies = word.Implies
binary_word binary.Until = word.Until

-- `and` and `or`, the quantifiers, and the words over a number of steps
abbrev pub many_word : Junction → FormulaWord
many_word junction.All = word.And
many_word junction.Any = word.Or

abbrev pub quantifier_word : Junction → FormulaWord
quantifier_word junction.All = word.ForAll
quantifier_word junction.Any = word.Exists

abbrev pub counted_word : Junction → FormulaWord
counted_word junction.All = word.During
counted_word junction.Any = word.Within

-- the two forms
abbrev pub pair_trees : Pair → FormTrees
pair_trees p = more_forms (tree_of p.first.now) (more_forms (tree_of p.second.now) no_form)

-- the list of these variables
abbrev pub variables_tree : VariableList → FormTree
variables_tree vs = list (trees_in vs.variables.now) vs.at

-- the variables of the form, where it is a non-empty list of variables
pub record IsVariableList (f : FormTree) (vs : VariableList) : Type 0 where
  pub tree : f ≡ variables_tree vs
  pub are : is_variable_list f ≡ true

abbrev pub FindsVariables : FormTree → Option VariableList → Type 0
FindsVariables f found = MatchOption found (is_variable_list f ≡ false) (IsVariableList f)

-- the first word of these parts of a formula, and the elements after it
abbrev pub word_of_parts : FormulaParts → FormulaWord
word_of_parts (parts.One w f) = unary_word w
word_of_parts (parts.Two w p) = binary_word w
word_of_parts (parts.Many j fs) = many_word j
word_of_parts (parts.Quantified q) = quantifier_word q.junction
word_of_parts (parts.Counted k) = counted_word k.junction
word_of_parts (parts.Goal f) = word.Goal
word_of_parts (parts.Compare c p) = word.Compare c
word_of_parts (parts.Atom fs) = word.Name

abbrev pub elements_of_parts : FormulaParts → FormTrees
elements_of_parts (parts.One w f) = more_forms (tree_of f.now) no_form
elements_of_parts (parts.Two w p) = pair_trees p
elements_of_parts (parts.Many j fs) = trees_in fs.now
elements_of_parts (parts.Quantified q) =
    more_forms (variables_tree q.binding.list) (more_forms (tree_of q.binding.bound.now) (more_forms (tree_of q.form.now) no_form))
elements_of_parts (parts.Counted k) = more_forms (integer k.steps k.steps_at) (more_forms (tree_of k.form.now) no_form)
elements_of_parts (parts.Goal f) = more_forms (tree_of f.now) no_form
elements_of_parts (parts.Compare c p) = pair_trees p
elements_of_parts (parts.Atom fs) = trees_in fs.now

-- these are the parts of a formula's list with this first word and these elements after it
pub record AreFormulaParts (w : FormulaWord) (fs : FormTrees) (p : FormulaParts) : Type 0 where
  pub word : w ≡ word_of_parts p
  pub elements : fs ≡ elements_of_parts p
  pub shape : has_formula_shape w fs ≡ true

-- what a formula's list with these parts breaks by its name
abbrev pub name_breaks_of : NameSignature → FormulaParts → Call → List Break
name_breaks_of g p call = name_breaks g (word_of_parts p) call.word.now (elements_of_parts p) call.at

-- and what it breaks itself
abbrev pub own_breaks_of : FormulaRole → NameSignature → Scope → FormulaParts → Call → List Break
own_breaks_of r g scope p call = shaped_list_breaks r g scope (word_of_parts p) call.word.now (elements_of_parts p) call.at

-- with its variables more than 32 are in scope
abbrev pub crowds : Scope → FormulaParts → Bool
crowds scope p = is_crowded_by scope (word_of_parts p) (elements_of_parts p)

-- the parts of such a list, where it has the shape that its first word asks for
abbrev pub FindsFormulaParts : FormulaWord → FormTrees → Option FormulaParts → Type 0
FindsFormulaParts w fs found = MatchOption found (has_formula_shape w fs ≡ false) (AreFormulaParts w fs)

-- the first word of these parts of an effect, and the elements after it
abbrev pub word_of_change : EffectParts → EffectWord
word_of_change (change.Add fact) = effect.Add
word_of_change (change.Del fact) = effect.Del
word_of_change (change.Set place value) = effect.Set
word_of_change (change.When condition effects) = effect.When
word_of_change (change.Each binding effects) = effect.Each

abbrev pub elements_of_change : EffectParts → FormTrees
elements_of_change (change.Add fact) = more_forms (list_of fact) no_form
elements_of_change (change.Del fact) = more_forms (list_of fact) no_form
elements_of_change (change.Set place value) = more_forms (list_of place) (more_forms (tree_of value.now) no_form)
elements_of_change (change.When condition effects) = more_forms (tree_of condition.now) (trees_in effects.now)
elements_of_change (change.Each binding effects) =
    more_forms (variables_tree binding.list) (more_forms (tree_of binding.bound.now) (trees_in effects.now))

-- the fact that the elements are, as `add` and `del` ask for
abbrev pub FindsFact : FormTrees → Option Call → Type 0
FindsFact fs found = MatchOption found (has_target_shape fs ≡ false) (λ fact. fs ≡ more_forms (list_of fact) no_form)

-- these are the parts of an effect's list with this first word and these elements after it
pub record AreEffectParts (w : EffectWord) (fs : FormTrees) (p : EffectParts) : Type 0 where
  pub word : w ≡ word_of_change p
  pub elements : fs ≡ elements_of_change p
  pub shape : has_effect_shape w fs ≡ true

-- the parts of such a list, where it has the shape that its first word asks for
abbrev pub FindsEffectParts : EffectWord → FormTrees → Option EffectParts → Type 0
FindsEffectParts w fs found = MatchOption found (has_effect_shape w fs ≡ false) (AreEffectParts w fs)
