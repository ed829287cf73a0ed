-- The words of items.
use Rattle.std.specs.Prelude.{ℕ, List, if◌then◌else◌, codes}
use Rattle.std.specs.Str.{bytes_eq}

-- a predicate or a function is declared; a formula is defined, whose name can be used after it
-- (`define`) or in its own body too (`defined`); an operator, or the control formula, is given; or
-- another word, of which there is no item
pub data ItemWord : Type 0 where
  Predicate : ItemWord
  Function : ItemWord
  Define : ItemWord
  Defined : ItemWord
  Operator : ItemWord
  Control : ItemWord
  Other : ItemWord

-- what the first word of an item says
abbrev pub item_word : List ℕ → ItemWord
item_word text =
    if bytes_eq text (codes "predicate") then Predicate else
    (if bytes_eq text (codes "function") then Function else
    (if bytes_eq text (codes "define") then Define else
    (if bytes_eq text (codes "defined") then Defined else
    (if bytes_eq text (codes "operator") then Operator else
    (if bytes_eq text (codes "control") then Control else Other)))))
