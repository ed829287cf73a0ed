-- What holds all along the walk over the parts of joins: a stack of waiting numbers, the joins that are opened, and the other parts.
use Rattle.std.proofs.Common.{◌≡◌, ℕ, ◌+◌, ◌<◌, Bool, true, false, true≢false, List, [], ◌∷◌, ◌++◌, ◌&&◌, length, reverse, nat_lt, nat_eq}
use Rattle.std.proofs.Common.{not, refl, sym, ap, ◌∙◌, subst, arith, append-nil, if◌then◌else◌}
use Rattle.std.specs.List.{list_any, sum_by}
use Rattle.std.proofs.lemmas.Bool.{not-true, not-false}
use Rattle.std.proofs.lemmas.List.Folds.{list_all-append}
use Rattle.std.proofs.lemmas.List.Sums.{sum_by-append}
use Rattle.indexmap.specs.IndexSet.{insert_key}
use borrow.Author.Tests.{ltb-true}
use Rattle.tl_syntax.specs.declared.junction.Junction.{Junction}
use Rattle.tl_syntax.specs.Trees.{FormulaTree}
use Rattle.tl_syntax.proofs.Plain.{both, with_both}
use Rattle.tl_terms.specs.Simplification.{without_repeats}
use Rattle.tl_nodes.specs.Fits.{all_below}
use Rattle.tl_nodes.specs.Joins.{junction_parts, breadth}
use Rattle.tl_nodes.specs.NodeTrees.{tree_at, trees_at}
use Rattle.tl_nodes.proofs.NestedJoins.{all-reverse, less-without, breadth-pos}
use Rattle.tl_nodes.proofs.OpenedJoins.{leaves, EachFound, again-found, again-same, part-found, part-same, opened-found, opened-same}
use Rattle.tl_nodes.proofs.OpenedJoins.{popped, turned-twice, pushed-turned, sum-turned, all-trans}

pub record Walk (ts : List FormulaTree) (junction : Junction) (parts todo opened flat : List ℕ) : Type 0 where
  pub waiting : all_below (length ts) todo ≡ true
  pub done : all_below (length ts) flat ≡ true
  pub same : without_repeats (trees_at ts flat ++ leaves ts junction (reverse todo)) ≡ without_repeats (leaves ts junction parts)
  pub found : EachFound ts junction opened (reverse todo) (trees_at ts flat)

parts-below : (n : ℕ) (xs : List ℕ) (j : ℕ) → all_below n (xs ++ j ∷ []) ≡ true → (all_below n xs ≡ true) × (nat_lt j n ≡ true)
parts-below n xs j h =
    let p = both (all_below n xs) (nat_lt j n && true) (sym (list_all-append (λ i. nat_lt i n) xs (j ∷ [])) ∙ h) in
    (p.0, (both (nat_lt j n) true p.1).0)

pub below-append : (n : ℕ) (xs ys : List ℕ) → all_below n xs ≡ true → all_below n ys ≡ true → all_below n (xs ++ ys) ≡ true
below-append n xs ys h k = list_all-append (λ i. nat_lt i n) xs ys ∙ with_both h k

module _ (ts : List FormulaTree) (junction : Junction) (parts : List ℕ) where
  begin : all_below (length ts) parts ≡ true → Walk ts junction parts (reverse parts) [] []
  begin h = record {
    waiting = all-reverse (length ts) parts h;
    done = refl;
    same = ap (λ is. without_repeats (leaves ts junction is)) (turned-twice parts);
    found = λ s k. absurd (true≢false (sym k));
  }

  pub begun-walk : (empty todo opened flat : List ℕ) → all_below (length ts) parts ≡ true → empty ≡ [] → todo ≡ empty ++ reverse parts →
      opened ≡ [] → flat ≡ [] → Walk ts junction parts todo opened flat
  begun-walk empty todo opened flat h e t o f =
      subst (λ x. Walk ts junction parts x opened flat) (sym (t ∙ ap (λ x. x ++ reverse parts) e))
      (subst (λ x. Walk ts junction parts (reverse parts) x flat) (sym o)
      (subst (λ x. Walk ts junction parts (reverse parts) [] x) (sym f) (begin h)))

  module _ (old xs : List ℕ) (j : ℕ) (e : old ≡ xs ++ j ∷ []) (opened flat : List ℕ) (w : Walk ts junction parts old opened flat) where
    left-below : all_below (length ts) xs ≡ true
    left-below = (parts-below (length ts) xs j (subst (λ is. all_below (length ts) is ≡ true) e w.waiting)).0

    top-below : nat_lt j (length ts) ≡ true
    top-below = (parts-below (length ts) xs j (subst (λ is. all_below (length ts) is ≡ true) e w.waiting)).1

    pub top-inside : j < length ts
    top-inside = ltb-true j (length ts) top-below

    was-found : EachFound ts junction opened (j ∷ reverse xs) (trees_at ts flat)
    was-found = subst (λ is. EachFound ts junction opened is (trees_at ts flat)) (popped xs old j e) w.found

    was-same : without_repeats (trees_at ts flat ++ leaves ts junction (j ∷ reverse xs)) ≡ without_repeats (leaves ts junction parts)
    was-same = ap (λ is. without_repeats (trees_at ts flat ++ leaves ts junction is)) (sym (popped xs old j e)) ∙ w.same

    -- a part that is no join of this word
    take : junction_parts junction (tree_at ts j) ≡ tree_at ts j ∷ [] → Walk ts junction parts xs opened (flat ++ j ∷ [])
    take single = record {
      waiting = left-below;
      done = below-append (length ts) flat (j ∷ []) w.done (with_both top-below refl);
      same = ap without_repeats (sym (part-same ts junction (reverse xs) j flat single)) ∙ was-same;
      found = part-found ts junction opened (reverse xs) j flat single was-found;
    }

    pub taken-walk : (new : List ℕ) → new ≡ flat ++ j ∷ [] → junction_parts junction (tree_at ts j) ≡ tree_at ts j ∷ [] →
        Walk ts junction parts xs opened new
    taken-walk new g single = subst (λ x. Walk ts junction parts xs opened x) (sym g) (take single)

    -- a join that was opened before
    skip : list_any (nat_eq j) opened ≡ true → Walk ts junction parts xs opened flat
    skip k = record {
      waiting = left-below;
      done = w.done;
      same = sym (again-same ts junction opened (reverse xs) j (trees_at ts flat) k was-found) ∙ was-same;
      found = again-found ts junction opened (reverse xs) j (trees_at ts flat) k was-found;
    }

    module _ (now : List ℕ) (is_new : Bool) (keys : now ≡ insert_key nat_eq opened j)
        (added : is_new ≡ not (list_any (nat_eq j) opened)) where
      pub skipped-walk : is_new ≡ false → Walk ts junction parts xs now flat
      skipped-walk h =
          let k = not-false (list_any (nat_eq j) opened) (sym added ∙ h) in
          subst (λ x. Walk ts junction parts xs x flat) (sym (keys ∙ ap (λ b. if b then opened else opened ++ j ∷ []) k)) (skip k)

      -- a join that is opened now
      pub opened-walk : (ids todo : List ℕ) → is_new ≡ true → junction_parts junction (tree_at ts j) ≡ leaves ts junction ids →
          all_below j ids ≡ true → todo ≡ xs ++ reverse ids → Walk ts junction parts todo now flat
      opened-walk ids todo h nested below t =
          let k = not-true (list_any (nat_eq j) opened) (sym added ∙ h) in
          subst (λ x. Walk ts junction parts todo x flat) (sym keys) (record {
            waiting = subst (λ x. all_below (length ts) x ≡ true) (sym t)
                (below-append (length ts) xs (reverse ids) left-below (all-reverse (length ts) ids
                (all-trans j (length ts) top-below ids below)));
            done = w.done;
            same = ap (λ is. without_repeats (trees_at ts flat ++ leaves ts junction is)) (pushed-turned xs ids todo t)
                ∙ (ap without_repeats (sym (opened-same ts junction ids (reverse xs) j (trees_at ts flat) nested below)) ∙ was-same);
            found = subst (λ is. EachFound ts junction (insert_key nat_eq opened j) is (trees_at ts flat))
                (sym (pushed-turned xs ids todo t))
                (opened-found ts junction ids (reverse xs) j (trees_at ts flat) nested below opened k was-found);
          })

-- the walk is over
pub walked : (ts : List FormulaTree) (junction : Junction) (parts todo opened flat : List ℕ) → length todo ≡ 0 →
    Walk ts junction parts todo opened flat → without_repeats (trees_at ts flat) ≡ without_repeats (leaves ts junction parts)
walked ts junction parts [] opened flat h w = ap without_repeats (sym (append-nil (trees_at ts flat))) ∙ w.same
walked ts junction parts (j ∷ todo) opened flat h w = absurd (omega arith)

pub opened-less : (ts : List FormulaTree) (old xs ids todo : List ℕ) (j : ℕ) → old ≡ xs ++ j ∷ [] → todo ≡ xs ++ reverse ids
    → sum_by (λ i. breadth (tree_at ts i)) ids < breadth (tree_at ts j) →
    sum_by (λ i. breadth (tree_at ts i)) todo < sum_by (λ i. breadth (tree_at ts i)) old
opened-less ts old xs ids todo j e t h =
    let f : ℕ → ℕ = λ i. breadth (tree_at ts i) in
    let a : sum_by f old ≡ sum_by f xs + (0 + f j) = ap (sum_by f) e ∙ sum_by-append f xs (j ∷ []) in
    let b : sum_by f todo ≡ sum_by f xs + sum_by f (reverse ids) = ap (sum_by f) t ∙ sum_by-append f xs (reverse ids) in
    let k : sum_by f (reverse ids) ≡ sum_by f ids = sum-turned f ids in
    let g : sum_by f ids < f j = h in
    omega arith

pub popped-less : (ts : List FormulaTree) (old xs : List ℕ) (j : ℕ) → old ≡ xs ++ j ∷ [] →
    sum_by (λ i. breadth (tree_at ts i)) xs < sum_by (λ i. breadth (tree_at ts i)) old
popped-less ts old xs j e = less-without (λ i. breadth (tree_at ts i)) xs old j e (breadth-pos (tree_at ts j))
