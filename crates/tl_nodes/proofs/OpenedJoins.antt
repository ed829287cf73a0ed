-- A walk over the parts of joins that opens each join once, from the first part on.
use Rattle.std.proofs.Common.{◌≡◌, ◌⊎◌, inl, inr, ℕ, ◌+◌, ◌<◌, Bool, true, false, true≢false, cond, List, [], ◌∷◌, ◌++◌, ◌||◌, ◌&&◌}
use Rattle.std.proofs.Common.{reverse, nat_lt, nat_eq, eqb-true, refl, sym, ap, ◌∙◌, subst, arith, append_assoc, append-nil, if◌then◌else◌}
use Rattle.std.specs.List.{list_any, flat_map, sum_by}
use Rattle.std.proofs.lemmas.Bool.{le-ltb}
use Rattle.std.proofs.lemmas.List.{map-append, reverse-append}
use Rattle.std.proofs.lemmas.List.Folds.{list_any-append}
use Rattle.std.proofs.lemmas.List.Sums.{sum_by-append, sum_by-cons}
use Rattle.indexmap.specs.IndexSet.{insert_key}
use borrow.Author.Tests.{ltb-true}
use Rattle.tl_syntax.specs.declared.junction.Junction.{Junction}
use Rattle.tl_syntax.specs.Trees.{FormulaTree}
use Rattle.tl_syntax.proofs.Plain.{both}
use Rattle.tl_terms.specs.Simplification.{without_repeats}
use Rattle.tl_nodes.specs.Fits.{all_below}
use Rattle.tl_nodes.specs.Joins.{junction_parts}
use Rattle.tl_nodes.specs.NodeTrees.{tree_at, trees_at}
use Rattle.tl_nodes.proofs.FirstOfEqual.{contains_tree, or-left, or-right, skip-all}
use Rattle.tl_nodes.proofs.TreesOfNodes.{inside-true}

-- the numbers of a stack, from the top on, that are below s
unfoldable pub before : ℕ → List ℕ → List ℕ
before s [] = []
before s (i ∷ is) = cond (nat_lt i s) (i ∷ before s is) []

before-all : (s : ℕ) (ids is : List ℕ) → all_below s ids ≡ true → before s (ids ++ is) ≡ ids ++ before s is
unfolding before
before-all s [] is h = refl
before-all s (i ∷ ids) is h =
    let p = both (nat_lt i s) (all_below s ids) h in
    ap (λ b. cond b (i ∷ before s (ids ++ is)) []) p.0 ∙ ap (λ l. i ∷ l) (before-all s ids is p.1)

either : (a b : Bool) → (a || b) ≡ true → (a ≡ true) ⊎ (b ≡ true)
either true b h = inl refl
either false b h = inr h

in-either : (xs ys : List FormulaTree) (x : FormulaTree) → contains_tree (xs ++ ys) x ≡ true → (contains_tree xs x ≡ true) ⊎
    (contains_tree ys x ≡ true)
in-either xs ys x h = either (contains_tree xs x) (contains_tree ys x) (sym (list_any-append _ xs ys) ∙ h)

in-left : (xs ys : List FormulaTree) (x : FormulaTree) → contains_tree xs x ≡ true → contains_tree (xs ++ ys) x ≡ true
in-left xs ys x h = list_any-append _ xs ys ∙ or-left (contains_tree xs x) (contains_tree ys x) h

in-right : (xs ys : List FormulaTree) (x : FormulaTree) → contains_tree ys x ≡ true → contains_tree (xs ++ ys) x ≡ true
in-right xs ys x h = list_any-append _ xs ys ∙ or-right (contains_tree xs x) (contains_tree ys x) h

below-trans : (i j s : ℕ) → nat_lt i j ≡ true → nat_lt j s ≡ true → nat_lt i s ≡ true
below-trans i j s h k = inside-true i s (let a : i < j = ltb-true i j h in let b : j < s = ltb-true j s k in omega arith)

pub all-trans : (j s : ℕ) → nat_lt j s ≡ true → (ids : List ℕ) → all_below j ids ≡ true → all_below s ids ≡ true
all-trans j s k [] h = refl
all-trans j s k (i ∷ ids) h =
    let p = both (nat_lt i j) (all_below j ids) h in
    subst (λ b. (b && all_below s ids) ≡ true) (sym (below-trans i j s p.0 k)) (all-trans j s k ids p.1)

module _ (ts : List FormulaTree) (junction : Junction) where
  -- the parts that these numbers open to
  abbrev pub leaves : List ℕ → List FormulaTree
  leaves ids = flat_map (junction_parts junction) (trees_at ts ids)

  pub leaves-append : (is js : List ℕ) → leaves (is ++ js) ≡ leaves is ++ leaves js
  leaves-append [] js = refl
  leaves-append (i ∷ is) js = ap (λ l. junction_parts junction (tree_at ts i) ++ l) (leaves-append is js) ∙
      sym (append_assoc (junction_parts junction (tree_at ts i)) (leaves is) (leaves js))

  -- all parts of the opened join s are found, or wait above the first number of the stack that is not below s
  abbrev Found : ℕ → List ℕ → List FormulaTree → Type 0
  Found s waiting found = (x : FormulaTree) → contains_tree (junction_parts junction (tree_at ts s)) x ≡ true →
      contains_tree (found ++ leaves (before s waiting)) x ≡ true

  -- the same of each opened join
  abbrev pub EachFound : List ℕ → List ℕ → List FormulaTree → Type 0
  EachFound opened waiting found = (s : ℕ) → list_any (nat_eq s) opened ≡ true → Found s waiting found

  -- a number leaves the stack
  step : (s j : ℕ) (is js : List ℕ) (old new : List FormulaTree)
      → ((x : FormulaTree) → contains_tree old x ≡ true → contains_tree new x ≡ true)
      → (nat_lt j s ≡ true → (x : FormulaTree) → contains_tree (junction_parts junction (tree_at ts j)) x ≡ true →
      contains_tree (new ++ leaves (before s js)) x ≡ true)
      → (nat_lt j s ≡ true → (x : FormulaTree) → contains_tree (leaves (before s is)) x ≡ true →
      contains_tree (new ++ leaves (before s js)) x ≡ true)
      → Found s (j ∷ is) old → Found s js new
  unfolding before
  step s j is js old new more top rest was x h = by (nat_lt j s) refl (was x h)
    where
      by : (b : Bool) → nat_lt j s ≡ b → contains_tree (old ++ leaves (cond b (j ∷ before s is) [])) x ≡ true →
          contains_tree (new ++ leaves (before s js)) x ≡ true
      by true e k = elim (in-either old (junction_parts junction (tree_at ts j) ++ leaves (before s is)) x k) [
        | inl a ↦ in-left new (leaves (before s js)) x (more x a)
        | inr a ↦ elim (in-either (junction_parts junction (tree_at ts j)) (leaves (before s is)) x a)
            [ inl b ↦ top e x b | inr b ↦ rest e x b ]
      ]
      by false e k = in-left new (leaves (before s js)) x (more x (subst (λ l. contains_tree l x ≡ true) (append-nil old) k))

  -- all parts of a join on the top that was opened before are found
  top-found : (j : ℕ) (is : List ℕ) (found : List FormulaTree) → Found j (j ∷ is) found → (x : FormulaTree) →
      contains_tree (junction_parts junction (tree_at ts j)) x ≡ true → contains_tree found x ≡ true
  unfolding before
  top-found j is found was x h =
      let e : nat_lt j j ≡ false = le-ltb j j (omega arith) in
      subst (λ l. contains_tree l x ≡ true) (ap (λ b. found ++ leaves (cond b (j ∷ before j is) [])) e ∙ append-nil found) (was x h)

  pub again-found : (opened is : List ℕ) (j : ℕ) (found : List FormulaTree) → list_any (nat_eq j) opened ≡ true →
      EachFound opened (j ∷ is) found → EachFound opened is found
  again-found opened is j found k was s h =
      let top = top-found j is found (was j k) in
      step s j is is found found (λ x a. a) (λ e x a. in-left found (leaves (before s is)) x (top x a))
      (λ e x a. in-right found (leaves (before s is)) x a) (was s h)

  pub again-same : (opened is : List ℕ) (j : ℕ) (found : List FormulaTree) → list_any (nat_eq j) opened ≡ true →
      EachFound opened (j ∷ is) found
      → without_repeats (found ++ leaves (j ∷ is)) ≡ without_repeats (found ++ leaves is)
  again-same opened is j found k was = skip-all found (junction_parts junction (tree_at ts j)) (leaves is) (top-found j is found (was j k))

  pub part-found : (opened is : List ℕ) (j : ℕ) (flat : List ℕ) → junction_parts junction (tree_at ts j) ≡ tree_at ts j ∷ [] →
      EachFound opened (j ∷ is) (trees_at ts flat) → EachFound opened is (trees_at ts (flat ++ j ∷ []))
  part-found opened is j flat single was s h =
      let old = trees_at ts flat in
      let new = trees_at ts (flat ++ j ∷ []) in
      let e : new ≡ old ++ junction_parts junction (tree_at ts j) = map-append (tree_at ts) flat (j ∷ []) ∙
      ap (λ l. old ++ l) (sym single) in
      step s j is is old new (λ x a. subst (λ l. contains_tree l x ≡ true) (sym e)
      (in-left old (junction_parts junction (tree_at ts j)) x a))
      (λ _ x a. in-left new (leaves (before s is)) x (subst (λ l. contains_tree l x ≡ true) (sym e)
      (in-right old (junction_parts junction (tree_at ts j)) x a)))
      (λ _ x a. in-right new (leaves (before s is)) x a) (was s h)

  pub part-same : (is : List ℕ) (j : ℕ) (flat : List ℕ) → junction_parts junction (tree_at ts j) ≡ tree_at ts j ∷ [] → trees_at ts flat ++
      leaves (j ∷ is) ≡ trees_at ts (flat ++ j ∷ []) ++ leaves is
  part-same is j flat single =
      ap (λ l. trees_at ts flat ++ (l ++ leaves is)) single
      ∙ (sym (append_assoc (trees_at ts flat) (tree_at ts j ∷ []) (leaves is)) ∙
      ap (λ l. l ++ leaves is) (sym (map-append (tree_at ts) flat (j ∷ []))))

  module _ (ids is : List ℕ) (j : ℕ) (found : List FormulaTree) (nested : junction_parts junction (tree_at ts j) ≡ leaves ids)
      (below : all_below j ids ≡ true) where
    opened-before : (s : ℕ) → all_below s ids ≡ true → leaves (before s (ids ++ is)) ≡ junction_parts junction (tree_at ts j) ++
        leaves (before s is)
    opened-before s h = ap leaves (before-all s ids is h) ∙ (leaves-append ids (before s is) ∙
        ap (λ l. l ++ leaves (before s is)) (sym nested))

    now-found : (s : ℕ) → all_below s ids ≡ true → (x : FormulaTree) → contains_tree (junction_parts junction (tree_at ts j)) x ≡ true →
        contains_tree (found ++ leaves (before s (ids ++ is))) x ≡ true
    now-found s h x a =
        in-right found (leaves (before s (ids ++ is))) x (subst (λ l. contains_tree l x ≡ true) (sym (opened-before s h))
        (in-left (junction_parts junction (tree_at ts j)) (leaves (before s is)) x a))

    still-found : (s : ℕ) → Found s (j ∷ is) found → Found s (ids ++ is) found
    still-found s was = step s j is (ids ++ is) found found (λ x a. a)
        (λ e x a. now-found s (all-trans j s e ids below) x a)
        (λ e x a. in-right found (leaves (before s (ids ++ is))) x
        (subst (λ l. contains_tree l x ≡ true) (sym (opened-before s (all-trans j s e ids below)))
        (in-right (junction_parts junction (tree_at ts j)) (leaves (before s is)) x a)))
        was

    pub opened-found : (opened : List ℕ) → list_any (nat_eq j) opened ≡ false → EachFound opened (j ∷ is) found →
        EachFound (insert_key nat_eq opened j) (ids ++ is) found
    opened-found opened new was s h =
        elim (either (list_any (nat_eq s) opened) (nat_eq s j || false)
        (sym (list_any-append (nat_eq s) opened (j ∷ [])) ∙ (sym (ap
        (λ b. list_any (nat_eq s) (if b then opened else opened ++ j ∷ [])) new) ∙ h))) [
          | inl k ↦ still-found s (was s k)
          | inr k ↦ elim (either (nat_eq s j) false k) [
            | inl e ↦ subst (λ i. Found i (ids ++ is) found) (sym (eqb-true s j e)) (λ x a. now-found j below x a)
            | inr e ↦ absurd (true≢false (sym e))
          ]
        ]

    pub opened-same : found ++ leaves (j ∷ is) ≡ found ++ leaves (ids ++ is)
    opened-same = ap (λ l. found ++ l) (ap (λ l. l ++ leaves is) nested ∙ sym (leaves-append ids is))

-- a stack, of which the code keeps the top at the end
pub popped : (xs ys : List ℕ) (x : ℕ) → ys ≡ xs ++ x ∷ [] → reverse ys ≡ x ∷ reverse xs
popped xs ys x e = ap reverse e ∙ reverse-append xs (x ∷ [])

pub turned-twice : (xs : List ℕ) → reverse (reverse xs) ≡ xs
turned-twice [] = refl
turned-twice (x ∷ xs) = ap reverse (reverse-append (x ∷ []) xs) ∙ (reverse-append (reverse xs) (x ∷ []) ∙ ap (λ l. x ∷ l) (turned-twice xs))

pub pushed-turned : (xs ids ys : List ℕ) → ys ≡ xs ++ reverse ids → reverse ys ≡ ids ++ reverse xs
pushed-turned xs ids ys e = ap reverse e ∙ (reverse-append xs (reverse ids) ∙ ap (λ l. l ++ reverse xs) (turned-twice ids))

pub sum-turned : (f : ℕ → ℕ) (xs : List ℕ) → sum_by f (reverse xs) ≡ sum_by f xs
sum-turned f [] = refl
sum-turned f (x ∷ xs) =
    let e : sum_by f (reverse (x ∷ xs)) ≡ sum_by f (reverse xs) + (0 + f x) = ap (sum_by f) (reverse-append (x ∷ []) xs) ∙
    sum_by-append f (reverse xs) (x ∷ []) in
    let k : sum_by f (x ∷ xs) ≡ f x + sum_by f xs = sum_by-cons f x xs in
    let r : sum_by f (reverse xs) ≡ sum_by f xs = sum-turned f xs in
    omega arith
