-- The first words of the elements of `init` and of `goal`.
use Rattle.std.specs.Prelude.{ℕ, List, codes, if◌then◌else◌}
use Rattle.std.specs.Str.{bytes_eq}
use Rattle.tl_problem.specs.declared.elements.Section.{Section}
use Rattle.tl_problem.specs.declared.elements.Section.TheVariants as section

-- a place has a value; a fact is to be false; or another symbol, which should be the name of a
-- predicate
pub data ElementWord : Type 0 where
  Equality : ElementWord
  Negation : ElementWord
  Fact : ElementWord

-- what the first word of an element says; facts are negated in the goal alone
abbrev pub element_word : Section → List ℕ → ElementWord
element_word section.Init text = if bytes_eq text (codes "=") then Equality else Fact
element_word section.Goal text =
    if bytes_eq text (codes "=") then Equality else
    (if bytes_eq text (codes "not") then Negation else Fact)
