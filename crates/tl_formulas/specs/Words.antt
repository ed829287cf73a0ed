-- The words of formulas and effects.
use Rattle.std.specs.Prelude.{ℕ, List, [], ◌∷◌, Option, Some, None, if◌then◌else◌, codes}
use Rattle.std.specs.Str.{bytes_eq}
use Rattle.tl_syntax.specs.declared.value.Op.{Op}
use Rattle.tl_syntax.specs.declared.value.Op.TheVariants.{Plus, Minus, Times}
use Rattle.tl_syntax.specs.declared.value.Cmp.TheVariants as cmp
use Rattle.tl_formulas.specs.declared.words.FormulaWord.{FormulaWord}
use Rattle.tl_formulas.specs.declared.words.FormulaWord.TheVariants as word
use Rattle.tl_formulas.specs.declared.words.EffectWord.{EffectWord}
use Rattle.tl_formulas.specs.declared.words.EffectWord.TheVariants as effect

-- the words of the language, which no predicate, function or definition can have
abbrev pub reserved_words : List (List ℕ)
reserved_words =
    codes "true" ∷ codes "false" ∷ codes "not" ∷ codes "and" ∷ codes "or" ∷ codes "implies" ∷ codes "next" ∷
    codes "always" ∷ codes "eventually" ∷ codes "until" ∷ codes "within" ∷ codes "for" ∷ codes "forall" ∷
    codes "exists" ∷ codes "goal" ∷ codes "=" ∷ codes "<" ∷ codes "<=" ∷ codes ">" ∷ codes ">=" ∷ codes "+" ∷
    codes "-" ∷ codes "*" ∷ []

-- the operation that a word names
abbrev pub operation_named : List ℕ → Option Op
operation_named text =
    if bytes_eq text (codes "+") then Some Plus else
    (if bytes_eq text (codes "-") then Some Minus else
    (if bytes_eq text (codes "*") then Some Times else None))

-- what the first word of a formula's list says
abbrev pub formula_word : List ℕ → FormulaWord
formula_word text =
    if bytes_eq text (codes "not") then word.Not else
    (if bytes_eq text (codes "and") then word.And else
    (if bytes_eq text (codes "or") then word.Or else
    (if bytes_eq text (codes "implies") then word.Implies else
    (if bytes_eq text (codes "next") then word.Next else
    (if bytes_eq text (codes "always") then word.Always else
    (if bytes_eq text (codes "eventually") then word.Eventually else
    (if bytes_eq text (codes "until") then word.Until else
    (if bytes_eq text (codes "within") then word.Within else
    (if bytes_eq text (codes "for") then word.During else
    (if bytes_eq text (codes "forall") then word.ForAll else
    (if bytes_eq text (codes "exists") then word.Exists else
    (if bytes_eq text (codes "goal") then word.Goal else
    (if bytes_eq text (codes "=") then word.Compare cmp.Eq else
    (if bytes_eq text (codes "<") then word.Compare cmp.Less else
    (if bytes_eq text (codes "<=") then word.Compare cmp.AtMost else
    (if bytes_eq text (codes ">") then word.Compare cmp.More else
    (if bytes_eq text (codes ">=") then word.Compare cmp.AtLeast else word.Name)))))))))))))))))

-- what the first word of an effect says
abbrev pub effect_word : List ℕ → EffectWord
effect_word text =
    if bytes_eq text (codes "add") then effect.Add else
    (if bytes_eq text (codes "del") then effect.Del else
    (if bytes_eq text (codes "set") then effect.Set else
    (if bytes_eq text (codes "when") then effect.When else
    (if bytes_eq text (codes "each") then effect.Each else effect.Other))))
