-- The lines of events.
use Rattle.std.proofs.Common.{◌≡◌, ◌<◌, ℕ, List, [], ◌++◌, length, slice_get, Some, codes, sym, ap, ◌∙◌, append_assoc}
use Rattle.std.specs.Prelude.{option_map, unwrap_or}
use Rattle.std.proofs.lemmas.Option.{slice_get_within}
use Rattle.tl_syntax.specs.declared.domain.Domain.{Domain}
use Rattle.tl_syntax.specs.Trees.{FormulaTree}
use Rattle.tl_nodes.specs.NodeTrees.{tree_at}
use Rattle.tl_nodes.proofs.GrownLists.{get-there}
use Rattle.tl_nodes.proofs.TreesOfNodes.{at-is}
use Rattle.tl_label.specs.Labels.{label_text}
use Rattle.tl_search.specs.Calls.{ForPair}
use Rattle.tl_search.specs.KeptPairs.{KeptPair}
use Rattle.tl_text.specs.Traces.{label_line}

-- the lines of a kept pair are put together from their pieces
pub kept-lines : (old met at from end line first second : List ℕ) → met ≡ codes "; kept " ++ (at ++ (codes " " ++ from)) → first ≡ old ++
    (met ++ end) → second ≡ first ++ line → second ≡ old ++ (codes "; kept " ++ (at ++ (codes " " ++ (from ++ (end ++ line)))))
kept-lines old met at from end line first second m f s = s ∙ ap (λ t. t ++ line) (f ∙ ap (λ t. old ++ (t ++ end)) m) ∙ simp append_assoc

module _ (kept : List KeptPair) (at : ℕ) (there : at < length kept) (ts : List FormulaTree) (id : ℕ)
    (is : ForPair kept at (λ x. slice_get ts id ≡ Some x.node.formula)) where
  the_pair : (x : KeptPair) × (slice_get kept at ≡ Some x)
  the_pair = get-there kept at there

  -- the number of the label is given
  pub label-inside : id < length ts
  label-inside = slice_get_within ts id the_pair.0.node.formula (is the_pair.0 the_pair.1)

  -- the line of the label is that of the tree of its number
  pub label-line : (names : List (List ℕ)) (d : Domain) → codes "; label " ++ (label_text names d (tree_at ts id) ++ codes "\n") ≡
      label_line names d kept at
  label-line names d =
      ap (λ f. codes "; label " ++ (label_text names d f ++ codes "\n")) (at-is ts id the_pair.0.node.formula (is the_pair.0 the_pair.1))
      ∙ ap (λ o. codes "; label " ++ (unwrap_or (option_map (λ x. label_text names d x.node.formula) o) [] ++ codes "\n")) (sym the_pair.1)
