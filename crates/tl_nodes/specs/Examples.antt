-- Worked examples of the definitions.
use Rattle.std.specs.Prelude.{◌≡◌, [], ◌∷◌, true, false, refl}
use Rattle.tl_syntax.specs.declared.junction.Junction.TheVariants.{All, Any}
use Rattle.tl_syntax.specs.Trees.{verum, falsum, negation, conjunction, until, within, during, no_formula, more_formulas}
use Rattle.tl_terms.specs.Simplification.{and_parts, or_parts}
use Rattle.tl_nodes.specs.declared.node.Node.TheVariants as node
use Rattle.tl_nodes.specs.Fits.{fits, begins_with_constants}
use Rattle.tl_nodes.specs.Joins.{junction_parts, breadth}
use Rattle.tl_nodes.specs.NodeTrees.{tree_of_node, trees_of_nodes}
use Rattle.tl_nodes.specs.Temporal.{has_temporal, node_temporal}

-- a node is read over the trees before it
trees_example : trees_of_nodes (node.True ∷ node.False ∷ node.Not 1 ∷ node.Until 0 2 ∷ []) ≡ verum ∷ falsum ∷ negation falsum ∷
    until verum (negation falsum) ∷ []
unfolding trees_of_nodes tree_of_node
trees_example = refl

-- `(and true)` is a tree of its own
join_example : tree_of_node (verum ∷ falsum ∷ []) (node.And (0 ∷ [])) ≡ conjunction (more_formulas verum no_formula)
unfolding tree_of_node
join_example = refl

-- a part has to be there already
fits_example : fits 2 (node.And (0 ∷ 1 ∷ [])) ≡ true
unfolding fits
fits_example = refl

too_great_example : fits 2 (node.Until 0 2) ≡ false
unfolding fits
too_great_example = refl

constants_example : begins_with_constants (node.False ∷ node.True ∷ []) ≡ false
unfolding begins_with_constants
constants_example = refl

-- a temporal word counts at any depth
temporal_example : has_temporal (negation (conjunction (more_formulas verum (more_formulas (within 3 falsum) no_formula)))) ≡ true
unfolding has_temporal
temporal_example = refl

for_example : has_temporal (during 0 verum) ≡ true
unfolding has_temporal
for_example = refl

plain_example : has_temporal (conjunction (more_formulas (negation verum) no_formula)) ≡ false
unfolding has_temporal
plain_example = refl

stored_example : node_temporal (false ∷ false ∷ true ∷ []) (node.And (0 ∷ 2 ∷ [])) ≡ true
stored_example = refl

-- inner conjunctions are opened at any depth, disjunctions not
parts_example : junction_parts All (conjunction (more_formulas (conjunction (more_formulas verum no_formula))
    (more_formulas falsum no_formula))) ≡ verum ∷ falsum ∷ []
unfolding junction_parts and_parts
parts_example = refl

other_parts_example : junction_parts Any (conjunction (more_formulas verum no_formula)) ≡ conjunction (more_formulas verum no_formula) ∷ []
unfolding junction_parts or_parts
other_parts_example = refl

breadth_example : breadth (conjunction (more_formulas verum (more_formulas falsum no_formula))) ≡ 3
unfolding breadth
breadth_example = refl
