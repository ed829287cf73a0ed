-- Whether effects can fail, one after another.
use Rattle.std.proofs.Common.{◌≡◌, ◌<◌, ◌≤◌, ◌+◌, ℕ, List, [], ◌∷◌, map, drop, length, get_or, Bool, true, false, ◌&&◌, refl, sym, ap, ◌∙◌}
use Rattle.std.proofs.Common.{subst, arith}
use Rattle.std.specs.List.{list_all}
use Rattle.tl_action.specs.Sure.{is_bare, are_bare, is_sure, are_sure}
use Rattle.tl_action.proofs.EffectSizes.{effect_nodes, effects_nodes}
use Rattle.tl_action.proofs.Walks.{drop-opened, drop-past}
use Rattle.tl_syntax.specs.declared.bound.Bound.{Bound}
use Rattle.tl_syntax.specs.declared.effect.Effect.{Effect}
use Rattle.tl_syntax.specs.declared.effect.Effect.TheVariants as variant
use Rattle.tl_syntax.specs.declared.effect.Effects.{Effects}
use Rattle.tl_syntax.specs.declared.formula.Formula.{Formula}
use Rattle.tl_syntax.specs.declared.term.Term.{Term}
use Rattle.tl_syntax.specs.declared.term.Terms.{Terms}
use Rattle.tl_syntax.specs.declared.variable.Var.{Var}
use Rattle.tl_syntax.specs.Effects.{EffectTrees, more_effects}
use Rattle.tl_syntax.specs.TreeOfEffect.{tree_of_effect, tree_of_effects, effects_of_list}
use Rattle.tl_syntax.specs.TreeOfTerm.{tree_of_term, tree_of_terms, terms_of_list}
use Rattle.tl_syntax.proofs.EffectTrees.{tree-Add, tree-Del, tree-Assign, tree-When, tree-Each, trees-Effects}
use Rattle.tl_syntax.proofs.TermTrees.{trees-Terms}

-- ---- terms

bare-list : (items : List Term) → list_all (λ t. is_bare (tree_of_term t)) items ≡ are_bare (terms_of_list (map tree_of_term items))
bare-list [] = refl
bare-list (t ∷ items) = ap (λ (b : Bool). is_bare (tree_of_term t) && b) (bare-list items)

pub bare-slice : (ts : Terms) (items : List Term) → items ≡ ts.items.items → list_all (λ t. is_bare (tree_of_term t)) items ≡
    are_bare (tree_of_terms ts)
bare-slice ts items q = bare-list items ∙ ap are_bare (ap (λ (us : List Term). terms_of_list (map tree_of_term us)) q ∙
    sym (trees-Terms ts))

-- ---- effects by their kinds

module _ (x : Effect) where
  pub sure-Add : (p : ℕ) (ts : Terms) → x ≡ variant.Add p ts → are_bare (tree_of_terms ts) ≡ is_sure (tree_of_effect x)
  unfolding is_sure
  sure-Add p ts q = ap is_sure (sym (ap tree_of_effect q ∙ tree-Add p ts))

  pub sure-Del : (p : ℕ) (ts : Terms) → x ≡ variant.Del p ts → are_bare (tree_of_terms ts) ≡ is_sure (tree_of_effect x)
  unfolding is_sure
  sure-Del p ts q = ap is_sure (sym (ap tree_of_effect q ∙ tree-Del p ts))

  pub sure-Assign : (f : ℕ) (ts : Terms) (t : Term) → x ≡ variant.Assign f ts t → false ≡ is_sure (tree_of_effect x)
  unfolding is_sure
  sure-Assign f ts t q = ap is_sure (sym (ap tree_of_effect q ∙ tree-Assign f ts t))

  pub sure-When : (f : Formula) (xs : Effects) → x ≡ variant.When f xs → false ≡ is_sure (tree_of_effect x)
  unfolding is_sure
  sure-When f xs q = ap is_sure (sym (ap tree_of_effect q ∙ tree-When f xs))

  pub sure-Each : (ss : List Var) (b : Bound) (xs : Effects) → x ≡ variant.Each ss b xs → are_sure (tree_of_effects xs) ≡
      is_sure (tree_of_effect x)
  unfolding is_sure
  sure-Each ss b xs q = ap is_sure (sym (ap tree_of_effect q ∙ tree-Each ss b xs))

  pub below-Each : (ss : List Var) (b : Bound) (xs : Effects) → x ≡ variant.Each ss b xs →
      effects_nodes (tree_of_effects xs) < effect_nodes (tree_of_effect x)
  unfolding effect_nodes
  below-Each ss b xs q = let nodes : effect_nodes (tree_of_effect x) ≡ 2 + effects_nodes (tree_of_effects xs) =
      ap effect_nodes (ap tree_of_effect q ∙ tree-Each ss b xs) in omega arith

-- ---- a list of effects

-- those of the rest decide, and are no more than all
pub record SurePassed (all rest : EffectTrees) : Type 0 where
  pub smaller : effects_nodes rest ≤ effects_nodes all
  pub same : are_sure all ≡ are_sure rest

pub sure-begun : (xs : Effects) (items : List Effect) → items ≡ xs.items.items →
    SurePassed (tree_of_effects xs) (effects_of_list (map tree_of_effect items))
sure-begun xs items q =
    let same : tree_of_effects xs ≡ effects_of_list (map tree_of_effect items) = trees-Effects xs ∙
    ap (λ (ys : List Effect). effects_of_list (map tree_of_effect ys)) (sym q) in
    let nodes = ap effects_nodes same in record { smaller = omega arith; same = ap are_sure same }

module _ (all : EffectTrees) (items : List Effect) (i : ℕ) (x : Effect) (k : i < length items) (n : x ≡ get_or items i x)
    (h : SurePassed all (effects_of_list (map tree_of_effect (drop i items)))) where
  abbrev pub others : EffectTrees
  others = effects_of_list (map tree_of_effect (drop (i + 1) items))

  opened : SurePassed all (more_effects (tree_of_effect x) others)
  opened = subst (λ (xs : List Effect). SurePassed all (effects_of_list (map tree_of_effect xs))) (drop-opened items i x k n) h

  pub effect-smaller : effect_nodes (tree_of_effect x) < effects_nodes all
  unfolding effect_nodes
  effect-smaller = omega (arith, opened.smaller)

  pub sure-on : (b : Bool) → b ≡ is_sure (tree_of_effect x) → b ≡ true → SurePassed all others
  unfolding effect_nodes is_sure
  sure-on b q t = record {
    smaller = omega (arith, opened.smaller);
    same = opened.same ∙ ap (λ (c : Bool). c && are_sure others) (sym q ∙ t);
  }

  pub sure-stop : (b : Bool) → b ≡ is_sure (tree_of_effect x) → b ≡ false → false ≡ are_sure all
  unfolding is_sure
  sure-stop b q t = sym (opened.same ∙ ap (λ (c : Bool). c && are_sure others) (sym q ∙ t))

pub sure-end : (all : EffectTrees) (items : List Effect) (i : ℕ) → length items ≤ i →
    SurePassed all (effects_of_list (map tree_of_effect (drop i items))) → true ≡ are_sure all
unfolding is_sure
sure-end all items i k h = sym (h.same ∙ ap (λ (xs : List Effect). are_sure (effects_of_list (map tree_of_effect xs)))
    (drop-past items i k))
