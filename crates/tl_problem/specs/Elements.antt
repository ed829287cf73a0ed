-- The elements of `init` and of `goal`: the rules that each breaks beside the elements before it,
-- and what all say.
--
-- Two elements contradict each other where they give one place two values, or where one is a fact
-- that the other negates.
-- Contradictions are looked for only between elements that break no other rule.
use Rattle.std.specs.Prelude.{ℕ, List, [], ◌∷◌, ◌++◌, Option, Some, None}
use Rattle.tl_sexpr.specs.Tree.{FormTree, FormTrees, no_form, more_forms}
use Rattle.tl_syntax.specs.declared.domain.Domain.{Domain}
use Rattle.tl_rules.specs.declared.rule.Rule.TheVariants.{Shape}
use Rattle.tl_rules.specs.Parts.{offset_of}
use Rattle.tl_rules.specs.Rules.{Break}
use Rattle.tl_problem.specs.declared.elements.Section.{Section}
use Rattle.tl_rules.specs.Calls.{CallTree, call_in}
use Rattle.tl_problem.specs.ElementWords.{ElementWord, element_word}
use Rattle.tl_problem.specs.ElementWords as word
use Rattle.tl_problem.specs.Facts.{ground_breaks, fact_meant, place_value_breaks, place_value_meant, negation_breaks, negation_meant}
use Rattle.tl_problem.specs.Literals.{Literals, and_fact, and_value, and_not, fact_denied, fact_said, value_differs}

-- the first breaks, and only where there are none the second
abbrev pub breaks_or_else : List Break → List Break → List Break
breaks_or_else [] later = later
breaks_or_else (b ∷ bs) later = b ∷ bs

-- what an element of this word breaks, where the elements before it say this
abbrev pub element_call_breaks : List (List ℕ) → Domain → Literals → ElementWord → CallTree → List Break
element_call_breaks names d l word.Equality c =
    breaks_or_else (place_value_breaks names d.functions c.rest c.at)
    (value_differs l (place_value_meant names d.functions c.rest) c.at)
element_call_breaks names d l word.Negation c =
    breaks_or_else (negation_breaks names d.predicates c.rest c.at)
    (fact_said l (negation_meant names d.predicates c.rest) c.at)
element_call_breaks names d l word.Fact c =
    breaks_or_else (ground_breaks names d.predicates c)
    (fact_denied l (fact_meant names d.predicates c) c.at)

-- what is said with an element of this word
abbrev pub with_element_call : List (List ℕ) → Domain → Literals → ElementWord → CallTree → Literals
with_element_call names d l word.Equality c =
    and_value l (place_value_meant names d.functions c.rest)
with_element_call names d l word.Negation c = and_not l (negation_meant names d.predicates c.rest)
with_element_call names d l word.Fact c = and_fact l (fact_meant names d.predicates c)

-- what an element at an offset breaks, with its parts; it is a list that begins with a symbol
abbrev pub called_breaks : List (List ℕ) → Domain → Section → Literals → Option CallTree → ℕ → List Break
called_breaks names d s l (Some c) at = element_call_breaks names d l (element_word s c.word) c
called_breaks names d s l None at = (Shape, at) ∷ []

-- what is said with an element; one that breaks a rule says nothing that matters
abbrev pub with_called : List (List ℕ) → Domain → Section → Literals → Option CallTree → Literals
with_called names d s l (Some c) = with_element_call names d l (element_word s c.word) c
with_called names d s l None = l

-- the same of the form of an element
abbrev pub element_breaks : List (List ℕ) → Domain → Section → Literals → FormTree → List Break
element_breaks names d s l f = called_breaks names d s l (call_in f) (offset_of f)

abbrev pub with_element : List (List ℕ) → Domain → Section → Literals → FormTree → Literals
with_element names d s l f = with_called names d s l (call_in f)

-- what elements break one after the other
abbrev pub elements_breaks : List (List ℕ) → Domain → Section → Literals → FormTrees → List Break
elements_breaks names d s l no_form = []
elements_breaks names d s l (more_forms f fs) =
    element_breaks names d s l f ++ elements_breaks names d s (with_element names d s l f) fs

-- what is said with elements
abbrev pub with_elements : List (List ℕ) → Domain → Section → Literals → FormTrees → Literals
with_elements names d s l no_form = l
with_elements names d s l (more_forms f fs) = with_elements names d s (with_element names d s l f) fs
