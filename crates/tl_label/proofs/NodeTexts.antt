-- The text of a node's formula: its head, and behind it the rest.
use Rattle.std.proofs.Common.{◌≡◌, ◌<◌, ℕ, zero, suc, List, [], ◌∷◌, ◌++◌, true, cond, map, slice_get, Some, nat_lt, refl, sym, ap, ◌∙◌}
use Rattle.std.proofs.Common.{codes, append_assoc, true≢false}
use Rattle.std.specs.Fmt.{decimal}
use Rattle.std.proofs.lemmas.Grind.{flat_map-append}
use Rattle.std.proofs.lemmas.List.{append-nil}
use borrow.Author.Tests.{ltb-true}
use Rattle.tl_syntax.specs.declared.domain.Domain.{Domain}
use Rattle.tl_syntax.specs.declared.problem.Problem.{Problem}
use Rattle.tl_syntax.specs.Basic.{is_basic}
use Rattle.tl_syntax.specs.TreeOfFormula.{tree_of_formula}
use Rattle.tl_syntax.specs.Trees.{FormulaTree, FormulaTrees, verum, falsum, atom, defined, compare, goal_fact, goal_place, goal_not}
use Rattle.tl_syntax.specs.Trees.{negation, conjunction, disjunction, for_all, for_some, next, always, eventually, until, within, during}
use Rattle.tl_syntax.specs.Trees.{no_formula, more_formulas, formulas_of_list}
use Rattle.tl_syntax.proofs.Plain.{both}
use Rattle.tl_nodes.specs.declared.node.Node.{Node}
use Rattle.tl_nodes.specs.declared.node.Node.TheVariants as node
use Rattle.tl_nodes.specs.Fits.{all_below, fits}
use Rattle.tl_nodes.specs.NodeTrees.{tree_at, tree_of_node}
use Rattle.tl_label.specs.Heads.{part_ids, is_open, head_text, HasBasic, formulas_in, subformulas}
use Rattle.tl_label.specs.Labels.{formula_text, formula_texts, variables_text}
use Rattle.tl_label.specs.Parts.{after_spaces, in_parentheses}
use Rattle.tl_label.specs.Rests.{rest_from}
use Rattle.tl_label.specs.Terms.{bound_text}

-- ---- the parts

formulas-back : (fs : List FormulaTree) → formulas_in (formulas_of_list fs) ≡ fs
unfolding formulas_in
formulas-back [] = refl
formulas-back (f ∷ fs) = ap (λ gs. f ∷ gs) (formulas-back fs)

basic-parts : (f : FormulaTree) → is_basic f ≡ true → subformulas f ≡ []
unfolding subformulas
basic-parts (atom p ts) h = refl
basic-parts (defined p ts) h = refl
basic-parts (compare c s t) h = refl
basic-parts (goal_fact p xs) h = refl
basic-parts (goal_place f xs x) h = refl
basic-parts (goal_not p xs) h = refl
basic-parts verum h = refl
basic-parts falsum h = refl
basic-parts (negation f) h = absurd (true≢false (sym h))
basic-parts (conjunction fs) h = absurd (true≢false (sym h))
basic-parts (disjunction fs) h = absurd (true≢false (sym h))
basic-parts (for_all xs b f) h = absurd (true≢false (sym h))
basic-parts (for_some xs b f) h = absurd (true≢false (sym h))
basic-parts (next f) h = absurd (true≢false (sym h))
basic-parts (always f) h = absurd (true≢false (sym h))
basic-parts (eventually f) h = absurd (true≢false (sym h))
basic-parts (until f g) h = absurd (true≢false (sym h))
basic-parts (within k f) h = absurd (true≢false (sym h))
basic-parts (during k f) h = absurd (true≢false (sym h))

pub parts-at : (ts : List FormulaTree) (n : Node) → HasBasic n → subformulas (tree_of_node ts n) ≡ map (tree_at ts) (part_ids n)
unfolding subformulas tree_of_node
parts-at ts node.True h = refl
parts-at ts node.False h = refl
parts-at ts (node.Basic f) h = basic-parts (tree_of_formula f) h
parts-at ts (node.Not i) h = refl
parts-at ts (node.And ids) h = formulas-back (map (tree_at ts) ids)
parts-at ts (node.Or ids) h = formulas-back (map (tree_at ts) ids)
parts-at ts (node.Next i) h = refl
parts-at ts (node.Always i) h = refl
parts-at ts (node.Eventually i) h = refl
parts-at ts (node.Until i j) h = refl
parts-at ts (node.Within k i) h = refl
parts-at ts (node.During k i) h = refl
parts-at ts (node.ForAll xs b i) h = refl
parts-at ts (node.Exists xs b i) h = refl

pub has-basic : (m : ℕ) (n : Node) → fits m n ≡ true → HasBasic n
unfolding fits
has-basic m node.True h = tt
has-basic m node.False h = tt
has-basic m (node.Basic f) h = h
has-basic m (node.Not i) h = tt
has-basic m (node.And ids) h = tt
has-basic m (node.Or ids) h = tt
has-basic m (node.Next i) h = tt
has-basic m (node.Always i) h = tt
has-basic m (node.Eventually i) h = tt
has-basic m (node.Until i j) h = tt
has-basic m (node.Within k i) h = tt
has-basic m (node.During k i) h = tt
has-basic m (node.ForAll xs b i) h = tt
has-basic m (node.Exists xs b i) h = tt

-- ---- the numbers of the parts are smaller

below-at : (m : ℕ) (ids : List ℕ) (k q : ℕ) → all_below m ids ≡ true → slice_get ids k ≡ Some q → q < m
below-at m [] k q h e = let no_part : ⊥ = cc in absurd no_part
below-at m (i ∷ ids) zero q h e = let same : i ≡ q = cc in ltb-true q m
    (ap (λ j. nat_lt j m) (sym same) ∙ (both (nat_lt i m) (all_below m ids) h).0)
below-at m (i ∷ ids) (suc k) q h e = below-at m ids k q (both (nat_lt i m) (all_below m ids) h).1 e

one-below : (m i k q : ℕ) → nat_lt i m ≡ true → slice_get (i ∷ []) k ≡ Some q → q < m
one-below m i k q h e = below-at m (i ∷ []) k q (rw h refl) e

pub part-below : (m : ℕ) (n : Node) (k q : ℕ) → fits m n ≡ true → slice_get (part_ids n) k ≡ Some q → q < m
unfolding fits
part-below m node.True k q h e = let no_part : ⊥ = cc in absurd no_part
part-below m node.False k q h e = let no_part : ⊥ = cc in absurd no_part
part-below m (node.Basic f) k q h e = let no_part : ⊥ = cc in absurd no_part
part-below m (node.Not i) k q h e = one-below m i k q h e
part-below m (node.And ids) k q h e = below-at m ids k q h e
part-below m (node.Or ids) k q h e = below-at m ids k q h e
part-below m (node.Next i) k q h e = one-below m i k q h e
part-below m (node.Always i) k q h e = one-below m i k q h e
part-below m (node.Eventually i) k q h e = one-below m i k q h e
part-below m (node.Until i j) k q h e =
    let p = both (nat_lt i m) (nat_lt j m) h in
    below-at m (i ∷ j ∷ []) k q (rw (p.0, p.1) refl) e
part-below m (node.Within s i) k q h e = one-below m i k q h e
part-below m (node.During s i) k q h e = one-below m i k q h e
part-below m (node.ForAll xs b i) k q h e = one-below m i k q h e
part-below m (node.Exists xs b i) k q h e = one-below m i k q h e

-- ---- the text

texts-of : (names : List (List ℕ)) (d : Domain) (fs : FormulaTrees) → formula_texts names d fs ≡ map (formula_text names d) (formulas_in fs)
unfolding formula_text formulas_in
texts-of names d no_formula = refl
texts-of names d (more_formulas f fs) = ap (λ xs. formula_text names d f ∷ xs) (texts-of names d fs)

spaces-append : (xs ys : List (List ℕ)) → after_spaces (xs ++ ys) ≡ after_spaces xs ++ after_spaces ys
unfolding after_spaces
spaces-append xs ys = flat_map-append (λ x. codes " " ++ x) xs ys

in-two : (word : List ℕ) (xs ys : List (List ℕ)) → word ++ (after_spaces (xs ++ ys) ++ codes ")") ≡ (word ++ after_spaces xs) ++
    (after_spaces ys ++ codes ")")
in-two word xs ys = rw spaces-append (simp append_assoc)

-- what follows the head
abbrev pub tail_text : Problem → List FormulaTree → Node → List ℕ
tail_text p ts n = cond (is_open n) (rest_from p (tree_of_node ts n) 0) []

pub node-text : (p : Problem) (ts : List FormulaTree) (n : Node) → formula_text p.names p.domain (tree_of_node ts n) ≡
    head_text p.names p.domain n ++ tail_text p ts n
unfolding formula_text in_parentheses tree_of_node subformulas rest_from
node-text p ts node.True = refl
node-text p ts node.False = refl
node-text p ts (node.Basic f) = sym (append-nil (formula_text p.names p.domain (tree_of_formula f)))
node-text p ts (node.Not i) = refl
node-text p ts (node.And ids) = ap (λ xs. codes "(and" ++ (after_spaces xs ++ codes ")"))
    (texts-of p.names p.domain (formulas_of_list (map (tree_at ts) ids)))
node-text p ts (node.Or ids) = ap (λ xs. codes "(or" ++ (after_spaces xs ++ codes ")"))
    (texts-of p.names p.domain (formulas_of_list (map (tree_at ts) ids)))
node-text p ts (node.Next i) = refl
node-text p ts (node.Always i) = refl
node-text p ts (node.Eventually i) = refl
node-text p ts (node.Until i j) = refl
node-text p ts (node.Within k i) = in-two (codes "(within") (decimal k ∷ []) (formula_text p.names p.domain (tree_at ts i) ∷ [])
node-text p ts (node.During k i) = in-two (codes "(for") (decimal k ∷ []) (formula_text p.names p.domain (tree_at ts i) ∷ [])
node-text p ts (node.ForAll xs b i) =
    in-two (codes "(forall") (variables_text p.names xs ∷ bound_text p.names p.domain b ∷ [])
    (formula_text p.names p.domain (tree_at ts i) ∷ [])
node-text p ts (node.Exists xs b i) =
    in-two (codes "(exists") (variables_text p.names xs ∷ bound_text p.names p.domain b ∷ [])
    (formula_text p.names p.domain (tree_at ts i) ∷ [])
