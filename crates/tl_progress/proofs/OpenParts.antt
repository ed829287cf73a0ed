-- The parts of a join with temporal words, where those without are read.
use Rattle.std.proofs.Common.{◌≡◌, ◌<◌, ◌≤◌, ◌+◌, ℕ, zero, suc, List, [], ◌∷◌, ◌++◌, map, drop, get_or, arith, Bool, true, false, not, Some}
use Rattle.std.proofs.Common.{slice_get, length, refl, sym, ap, ◌∙◌, subst, append_assoc}
use mathlib.Core.Bool.{beq}
use Rattle.std.proofs.lemmas.List.{map-append}
use Rattle.std.proofs.Math.Seq.{drop-cons}
use Rattle.tl_nodes.specs.Joins.{simplified_join}
use Rattle.tl_nodes.specs.NodeTrees.{tree_at, trees_at}
use Rattle.tl_syntax.specs.declared.junction.Junction.{Junction}
use Rattle.tl_syntax.specs.Assignment.{Assignment}
use Rattle.tl_syntax.specs.Junctions.{deciding_truth}
use Rattle.tl_syntax.specs.Lists.{Each}
use Rattle.tl_syntax.specs.Signature.{Signature}
use Rattle.tl_syntax.specs.Trees.{FormulaTree}
use Rattle.tl_syntax.proofs.ListLaws.{Each-append}
use Rattle.tl_terms.specs.Problem.{PlainProblem}
use Rattle.tl_terms.specs.Progression.{constant}
use Rattle.tl_terms.specs.World.{World}
use Rattle.tl_progress.specs.Answers.{residual}
use Rattle.tl_progress.specs.KeptResiduals.{AreOpen}
use Rattle.tl_progress.specs.Parts.{IsBelow, IsJoin, join_parts}
use Rattle.tl_progress.specs.Sentences.{IsSentence}
use Rattle.tl_progress.proofs.Decided.{drop-all}
use Rattle.tl_progress.proofs.Gathering.{joined-past, joined-decided}
use Rattle.tl_progress.proofs.ResidualLayers.{join-next, part-next, parts-done}

-- what is below a sentence is one
pub sentence-below : (ts : List FormulaTree) (g : Signature) (id at : ℕ) → IsBelow false ts id at → IsSentence g (tree_at ts id) →
    IsSentence g (tree_at ts at)
sentence-below ts g id at b h = record { fits = b.fits g [] h.fits; closed = b.scope [] h.closed }

module _ (p : PlainProblem) (w : World) (e : Assignment) (ts : List FormulaTree) (at : ℕ) (junction : Junction) where
  -- what the parts from the i-th on leave, after what the open ones before it leave
  abbrev pub Passed : List ℕ → ℕ → Type 0
  Passed open_parts i = simplified_join junction (map (residual p w e) (trees_at ts open_parts) ++
      map (residual p w e) (drop i (join_parts (tree_at ts at)))) ≡ simplified_join junction
      (map (residual p w e) (join_parts (tree_at ts at)))

  pub passed-none : (open_parts : List ℕ) → open_parts ≡ [] → Passed open_parts 0
  passed-none open_parts none = ap (λ (ids : List ℕ). simplified_join junction
      (map (residual p w e) (trees_at ts ids) ++ map (residual p w e) (join_parts (tree_at ts at)))) none

  module _ (open_parts : List ℕ) (i q : ℕ) (there : slice_get (join_parts (tree_at ts at)) i ≡ Some (tree_at ts q))
      (was : Passed open_parts i) where
    next-is : map (residual p w e) (drop i (join_parts (tree_at ts at))) ≡ residual p w e (tree_at ts q) ∷
        map (residual p w e) (drop (i + 1) (join_parts (tree_at ts at)))
    next-is = part-next (residual p w e) (join_parts (tree_at ts at)) i (tree_at ts q) there

    -- the part stays open
    pub passed-open : (more : List ℕ) → more ≡ open_parts ++ q ∷ [] → Passed more (i + 1)
    passed-open more is =
        let rest = map (residual p w e) (drop (i + 1) (join_parts (tree_at ts at))) in
        ap (λ (ids : List ℕ). simplified_join junction (map (residual p w e) (trees_at ts ids) ++ rest)) is
        ∙ (ap (λ (fs : List FormulaTree). simplified_join junction (map (residual p w e) fs ++ rest))
        (map-append (tree_at ts) open_parts (q ∷ []))
        ∙ (ap (λ (fs : List FormulaTree). simplified_join junction (fs ++ rest))
        (map-append (residual p w e) (trees_at ts open_parts) (tree_at ts q ∷ []))
        ∙ (ap (simplified_join junction) (append_assoc (map (residual p w e) (trees_at ts open_parts))
        (residual p w e (tree_at ts q) ∷ []) rest)
        ∙ (ap (λ (fs : List FormulaTree). simplified_join junction (map (residual p w e) (trees_at ts open_parts) ++ fs)) (sym next-is) ∙
        was))))

    -- the part has the truth that the join drops
    pub passed-on : (b : Bool) → residual p w e (tree_at ts q) ≡ constant b → beq b (deciding_truth junction) ≡ false →
        Passed open_parts (i + 1)
    passed-on b is other =
        let rest = map (residual p w e) (drop (i + 1) (join_parts (tree_at ts at))) in
        let dropped : residual p w e (tree_at ts q) ≡ constant (not (deciding_truth junction)) = is ∙
        ap constant (opposite b (deciding_truth junction) other) in
        sym (joined-past junction (map (residual p w e) (trees_at ts open_parts)) rest)
        ∙ (ap (λ (f : FormulaTree). simplified_join junction (map (residual p w e) (trees_at ts open_parts) ++ f ∷ rest)) (sym dropped)
        ∙ (ap (λ (fs : List FormulaTree). simplified_join junction (map (residual p w e) (trees_at ts open_parts) ++ fs)) (sym next-is) ∙
        was))
      where
        opposite : (b c : Bool) → beq b c ≡ false → b ≡ not c
        opposite true true h = let z : ⊥ = cc in absurd z
        opposite true false h = refl
        opposite false true h = refl
        opposite false false h = let z : ⊥ = cc in absurd z

    -- the part decides the join
    pub passed-decided : IsJoin junction (tree_at ts at) → (b : Bool) → residual p w e (tree_at ts q) ≡ constant b →
        beq b (deciding_truth junction) ≡ true → residual p w e (tree_at ts at) ≡ constant (deciding_truth junction)
    passed-decided join b is stop =
        let rest = map (residual p w e) (drop (i + 1) (join_parts (tree_at ts at))) in
        let deciding : residual p w e (tree_at ts q) ≡ constant (deciding_truth junction) = is ∙
        ap constant (equal b (deciding_truth junction) stop) in
        sym (join-next p w e junction (tree_at ts at) join)
        ∙ (sym was
        ∙ (ap (λ (fs : List FormulaTree). simplified_join junction (map (residual p w e) (trees_at ts open_parts) ++ fs)) next-is
        ∙ (ap (λ (f : FormulaTree). simplified_join junction (map (residual p w e) (trees_at ts open_parts) ++ f ∷ rest)) deciding
        ∙ joined-decided junction (map (residual p w e) (trees_at ts open_parts)) rest)))
      where
        equal : (b c : Bool) → beq b c ≡ true → b ≡ c
        equal true true h = refl
        equal true false h = let z : ⊥ = cc in absurd z
        equal false true h = let z : ⊥ = cc in absurd z
        equal false false h = refl

  pub passed-all : (open_parts : List ℕ) (i : ℕ) → length (join_parts (tree_at ts at)) ≡ i → IsJoin junction (tree_at ts at) →
      Each (IsBelow false ts at) open_parts → Passed open_parts i → AreOpen p w e ts at junction open_parts
  passed-all open_parts i end join below was = record {
    below = below;
    same =
        ap (simplified_join junction) (sym (append-none (map (residual p w e) (trees_at ts open_parts))))
        ∙ (ap (λ (fs : List FormulaTree). simplified_join junction (map (residual p w e) (trees_at ts open_parts) ++ fs))
        (sym (parts-done (residual p w e) (join_parts (tree_at ts at)) i end))
        ∙ (was ∙ join-next p w e junction (tree_at ts at) join));
  }
    where
      append-none : (xs : List FormulaTree) → xs ++ [] ≡ xs
      append-none [] = refl
      append-none (y ∷ xs) = ap (λ zs. y ∷ zs) (append-none xs)

pub each-more : {A : Type 0} (P : A → Type 0) (xs ys : List A) (x : A) → ys ≡ xs ++ x ∷ [] → Each P xs → P x → Each P ys
each-more P xs ys x is h k = subst (Each P) (sym is) ((Each-append P xs (x ∷ [])).1 (h, (k, tt)))

-- ---- the open parts, one after another

pub each-at : (P : ℕ → Type 0) (ids : List ℕ) (i : ℕ) → i < length ids → Each P ids → P (get_or ids i 0)
each-at P [] i h k = absurd (omega arith)
each-at P (j ∷ ids) zero h k = k.0
each-at P (j ∷ ids) (suc i) h k = each-at P ids i (omega arith) k.1

module _ (p : PlainProblem) (w : World) (e : Assignment) (ts : List FormulaTree) (ids : List ℕ) (i : ℕ) where
  pub ids-next : i < length ids → map (residual p w e) (trees_at ts (drop i ids)) ≡ residual p w e (tree_at ts (get_or ids i 0)) ∷
      map (residual p w e) (trees_at ts (drop (i + 1) ids))
  ids-next h = ap (λ (js : List ℕ). map (residual p w e) (trees_at ts js))
      (subst (λ (j : ℕ). drop i ids ≡ get_or ids i 0 ∷ drop j ids) (let z : suc i ≡ i + 1 = omega arith in z) (drop-cons ids i 0 h))

  pub ids-done : length ids ≤ i → map (residual p w e) (trees_at ts (drop i ids)) ≡ []
  ids-done h = ap (λ (js : List ℕ). map (residual p w e) (trees_at ts js)) (drop-all ids i h)
