-- What is left to be written of formulas that are begun.
use Rattle.std.specs.Prelude.{◌<◌, ℕ, List, ◌++◌, length, map, drop, flat_map, reverse, codes}
use Rattle.tl_syntax.specs.declared.problem.Problem.{Problem}
use Rattle.tl_syntax.specs.Lists.{Each}
use Rattle.tl_syntax.specs.Trees.{FormulaTree}
use Rattle.tl_nodes.specs.declared.nodes.Nodes.{Nodes}
use Rattle.tl_nodes.specs.NodeTrees.{tree_at}
use Rattle.tl_nodes.specs.Numbers.{trees}
use Rattle.tl_label.specs.declared.rests.Rest.{Rest}
use Rattle.tl_label.specs.Heads.{subformulas}
use Rattle.tl_label.specs.Labels.{formula_text}
use Rattle.tl_label.specs.Lines.{Written, after}
use Rattle.tl_label.specs.Parts.{after_spaces}

-- the text of the formula of a number
abbrev pub text_at : Problem → Nodes → ℕ → List ℕ
text_at p s id = formula_text p.names p.domain (tree_at (trees s) id)

-- the rest of the text of a formula, from its part k on: each part after a space, and the closing
-- parenthesis
unfoldable pub rest_from : Problem → FormulaTree → ℕ → List ℕ
rest_from p f k = after_spaces (map (formula_text p.names p.domain) (drop k (subformulas f))) ++ codes ")"

-- the rest of a formula that is begun
abbrev pub rest_text : Problem → Nodes → Rest → List ℕ
rest_text p s r = rest_from p (tree_at (trees s) r.id) r.part

-- all that is left, where the one that was begun last comes first
unfoldable pub left_text : Problem → Nodes → List Rest → List ℕ
left_text p s rests = flat_map (rest_text p s) (reverse rests)

-- what the text becomes with all that is left
abbrev pub with_rests : Problem → Nodes → Written → List Rest → Written
with_rests p s line rests = after line (left_text p s rests)

-- the numbers of all that are begun are those of formulas
abbrev pub AreThere : Nodes → List Rest → Type 0
AreThere s rests = Each (λ r. r.id < length (trees s)) rests
