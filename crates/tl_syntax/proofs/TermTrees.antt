-- The plain trees of terms made by their variants, and of lists of terms.
use Rattle.std.proofs.Common.{◌≡◌, ℕ, map, ap, sym, ◌∙◌, Box, Global}
use Rattle.tl_syntax.specs.declared.variable.Var.{Var}
use Rattle.tl_syntax.specs.declared.value.Value.{Value}
use Rattle.tl_syntax.specs.declared.value.Op.{Op}
use Rattle.tl_syntax.specs.Trees.{TermTree, TermTrees, variable, value, place, arith}
use Rattle.tl_syntax.specs.TreeOfTerm.{tree_of_term, tree_of_terms, term_step, terms_step, terms_of_list}
use Rattle.tl_syntax.specs.declared.term.Term.{Term, fold-Term, fold-roll-Term}
use Rattle.tl_syntax.specs.declared.term.Term.TheVariants as variant
use Rattle.tl_syntax.specs.declared.term.Term.TheOpen as layer
use Rattle.tl_syntax.specs.declared.term.Terms.{Terms, fold_out-Terms}

pub tree-Var : (v : Var) → tree_of_term (variant.Var v) ≡ variable v
unfolding tree_of_term tree_of_terms
tree-Var v = ap (fold-Term TermTree TermTrees term_step terms_step) (sym (variant.rolls-Var v)) ∙
    fold-roll-Term TermTree TermTrees term_step terms_step (layer.Var v)

pub tree-Val : (v : Value) → tree_of_term (variant.Val v) ≡ value v
unfolding tree_of_term tree_of_terms
tree-Val v = ap (fold-Term TermTree TermTrees term_step terms_step) (sym (variant.rolls-Val v)) ∙
    fold-roll-Term TermTree TermTrees term_step terms_step (layer.Val v)

pub tree-Place : (f : ℕ) (ts : Terms) → tree_of_term (variant.Place f ts) ≡ place f (tree_of_terms ts)
unfolding tree_of_term tree_of_terms
tree-Place f ts = ap (fold-Term TermTree TermTrees term_step terms_step) (sym (variant.rolls-Place f ts)) ∙
    fold-roll-Term TermTree TermTrees term_step terms_step (layer.Place f ts)

pub tree-Arith : (op : Op) (a b : Box Term Global) (at : ℕ) → tree_of_term (variant.Arith op a b at) ≡
    arith op (tree_of_term a.value) (tree_of_term b.value) at
unfolding tree_of_term tree_of_terms
tree-Arith op a b at = ap (fold-Term TermTree TermTrees term_step terms_step) (sym (variant.rolls-Arith op a b at)) ∙
    fold-roll-Term TermTree TermTrees term_step terms_step (layer.Arith op a b at)

pub trees-Terms : (ts : Terms) → tree_of_terms ts ≡ terms_of_list (map tree_of_term ts.items.items)
unfolding tree_of_term tree_of_terms
trees-Terms ts = fold_out-Terms TermTree TermTrees term_step terms_step ts

pub ruleset term_trees = (tree-Var, tree-Val, tree-Place, tree-Arith)
