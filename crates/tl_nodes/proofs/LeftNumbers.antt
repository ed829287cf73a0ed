-- The numbers that are left of the parts of a join, one part after another.
use Rattle.std.proofs.Common.{◌≡◌, ℕ, zero, suc, ◌+◌, ◌<◌, Bool, true, false, cond, not, List, [], ◌∷◌, ◌++◌, ◌||◌, filter, fold, length}
use Rattle.std.proofs.Common.{take, drop, ◌-◌, ◌≤◌, slice_index_or, nat_lt, nat_eq, eqb-true, refl, sym, ap, ap₂, ◌∙◌, subst, arith}
use Rattle.std.proofs.Common.{append-nil, if◌then◌else◌}
use Rattle.std.specs.List.{list_any, slice_range}
use Rattle.std.proofs.lemmas.Bool.{not-false}
use Rattle.std.proofs.lemmas.List.{map-append, take_more, get_or-drop, length-drop}
use Rattle.std.proofs.lemmas.List.Elements.{filter-append}
use Rattle.std.proofs.lemmas.List.Sums.{fold-append}
use Rattle.indexmap.specs.IndexSet.{insert_all, insert_key}
use Rattle.tl_syntax.specs.declared.junction.Junction.{Junction}
use Rattle.tl_syntax.specs.declared.junction.Junction.TheVariants.{All, Any}
use Rattle.tl_syntax.specs.Trees.{FormulaTree}
use Rattle.tl_syntax.proofs.Plain.{both, with_both}
use Rattle.tl_terms.specs.Simplification.{without_repeats}
use Rattle.tl_nodes.specs.Fits.{all_below}
use Rattle.tl_nodes.specs.Joins.{junction_parts, dropped, decides}
use Rattle.tl_nodes.specs.Left.{left_of, kept_with, IsOpened, IsLeft}
use Rattle.tl_nodes.specs.NodeTrees.{tree_at}
use Rattle.tl_nodes.proofs.JoinWalk.{below-append}
use Rattle.tl_nodes.proofs.KeptOnce.{dedup, kept-once, nat-swap, below-filter, below-dedup}
use Rattle.tl_nodes.proofs.OpenedJoins.{leaves, leaves-append}

left-more : (junction : Junction) (flat : List ℕ) (i : ℕ) → left_of junction (flat ++ i ∷ []) ≡ kept_with junction (left_of junction flat) i
left-more junction flat i =
    let q : ℕ → Bool = λ k. not (nat_eq k (dropped junction)) in
    ap (insert_all nat_eq []) (filter-append q flat (i ∷ []))
    ∙ (fold-append (insert_key nat_eq) [] (filter q flat) (filter q (i ∷ [])) ∙ by (nat_eq i (dropped junction)) (left_of junction flat))
  where
    by : (b : Bool) (ks : List ℕ) → fold (insert_key nat_eq) ks (cond (not b) (i ∷ []) []) ≡ cond b ks (insert_key nat_eq ks i)
    by true ks = refl
    by false ks = refl

any-swapped : (i : ℕ) (ks : List ℕ) → list_any (λ y. nat_eq y i) ks ≡ list_any (nat_eq i) ks
any-swapped i [] = refl
any-swapped i (k ∷ ks) = ap₂ (λ a b. a || b) (nat-swap k i) (any-swapped i ks)

-- the number was there already
pub there-already : (old new : List ℕ) (i : ℕ) → list_any (λ y. nat_eq y i) old ≡ true → new ≡ old → new ≡ insert_key nat_eq old i
there-already old new i h e = e ∙ sym (ap (λ b. if b then old else old ++ i ∷ []) (sym (any-swapped i old) ∙ h))

-- the number was not there
pub put-last : (old new : List ℕ) (i : ℕ) → list_any (λ y. nat_eq y i) old ≡ false → new ≡ old ++ i ∷ [] → new ≡ insert_key nat_eq old i
put-last old new i h e = e ∙ sym (ap (λ b. if b then old else old ++ i ∷ []) (sym (any-swapped i old) ∙ h))

pub opened-none : (ts : List FormulaTree) (junction : Junction) (few : List ℕ) → few ≡ [] → IsOpened ts junction [] few
opened-none ts junction few e = record { flat = []; below = refl; same = refl; left = e }

module _ (ts : List FormulaTree) (junction : Junction) (parts : List ℕ) where
  -- a part that is no join of this kind
  pub opened-one : (old new : List ℕ) (i : ℕ) → nat_lt i (length ts) ≡ true → junction_parts junction (tree_at ts i) ≡ tree_at ts i ∷ [] →
      new ≡ kept_with junction old i
      → IsOpened ts junction parts old → IsOpened ts junction (parts ++ i ∷ []) new
  opened-one old new i h single e w = record {
    flat = w.flat ++ i ∷ [];
    below = below-append (length ts) w.flat (i ∷ []) w.below (with_both h refl);
    same = map-append (tree_at ts) w.flat (i ∷ []) ∙ (ap₂ (λ xs ys. xs ++ ys) w.same (sym (ap (λ l. l ++ []) single)) ∙
        sym (leaves-append ts junction parts (i ∷ [])));
    left = e ∙ (ap (λ l. kept_with junction l i) w.left ∙ sym (left-more junction w.flat i));
  }

  -- the parts of a join stand for the join
  pub opened-join : (few ids : List ℕ) (i : ℕ) → junction_parts junction (tree_at ts i) ≡ leaves ts junction ids →
      IsOpened ts junction (parts ++ ids) few → IsOpened ts junction (parts ++ i ∷ []) few
  opened-join few ids i nested w = record {
    flat = w.flat;
    below = w.below;
    same = w.same ∙ (leaves-append ts junction parts ids ∙ (ap (λ l. leaves ts junction parts ++ l)
        (sym nested ∙ sym (append-nil (junction_parts junction (tree_at ts i)))) ∙ sym (leaves-append ts junction parts (i ∷ []))));
    left = w.left;
  }

  pub left-opened : (few : List ℕ) → IsOpened ts junction parts few → IsLeft ts junction parts few
  left-opened few w = record { flat = w.flat; below = w.below; same = ap without_repeats w.same; left = w.left }

  pub below-left : (ids : List ℕ) → IsLeft ts junction parts ids → all_below (length ts) ids ≡ true
  below-left ids w =
      let rest = filter (λ i. not (nat_eq i (dropped junction))) w.flat in
      ap (all_below (length ts)) (w.left ∙ kept-once rest) ∙ below-dedup (length ts) rest
      (below-filter (length ts) (λ i. not (nat_eq i (dropped junction))) w.flat w.below)

any-left : (p q : ℕ → Bool) → ((y : ℕ) → q y ≡ false → p y ≡ false) → (xs : List ℕ) → list_any p (filter q xs) ≡ list_any p xs
any-left p q h [] = refl
any-left p q h (x ∷ xs) = by (q x) refl (any-left p q h xs)
  where
    by : (b : Bool) → q x ≡ b → list_any p (filter q xs) ≡ list_any p xs → list_any p (cond b (x ∷ filter q xs) (filter q xs)) ≡
        (p x || list_any p xs)
    by true e rest = ap (λ c. p x || c) rest
    by false e rest = rest ∙ sym (ap (λ c. c || list_any p xs) (h x e))

any-dedup : (p : ℕ → Bool) (xs : List ℕ) → list_any p (dedup xs) ≡ list_any p xs
unfolding dedup
any-dedup p [] = refl
any-dedup p (x ∷ xs) = by (p x) refl (any-dedup p xs)
  where
    by : (b : Bool) → p x ≡ b → list_any p (dedup xs) ≡ list_any p xs → (b || list_any p (filter (λ y. not (nat_eq x y)) (dedup xs))) ≡
        (b || list_any p xs)
    by true e rest = refl
    by false e rest = any-left p (λ y. not (nat_eq x y)) (λ y n. ap p (sym (eqb-true x y (not-false (nat_eq x y) n))) ∙ e) (dedup xs) ∙ rest

zero-stays : (junction : Junction) (y : ℕ) → not (nat_eq y (dropped junction)) ≡ false → nat_eq y (decides junction) ≡ false
zero-stays All y h = ap (λ x. nat_eq x 1) (eqb-true y 0 (not-false (nat_eq y 0) h))
zero-stays Any y h = ap (λ x. nat_eq x 0) (eqb-true y 1 (not-false (nat_eq y 1) h))

-- the constant that decides is left where it was a part
pub any-zero : (junction : Junction) (ids flat : List ℕ) → ids ≡ left_of junction flat → list_any (λ y. nat_eq y (decides junction)) ids ≡
    list_any (λ y. nat_eq y (decides junction)) flat
any-zero junction ids flat e =
    let p : ℕ → Bool = λ y. nat_eq y (decides junction) in
    let rest = filter (λ i. not (nat_eq i (dropped junction))) flat in
    ap (list_any p) (e ∙ kept-once rest) ∙ (any-dedup p rest ∙ any-left p (λ i. not (nat_eq i (dropped junction)))
    (zero-stays junction) flat)

-- one more of the numbers
pub opened-next : (ts : List FormulaTree) (junction : Junction) (xs : List ℕ) (i : ℕ) (new : List ℕ) → i < length xs →
    IsOpened ts junction (take i xs ++ slice_index_or xs i 0 ∷ []) new → IsOpened ts junction (take (i + 1) xs) new
opened-next ts junction xs i new h w = subst (λ (l : List ℕ). IsOpened ts junction l new) (sym (take_more xs i 0 h)) w

pub each-below : (n : ℕ) (xs : List ℕ) (i : ℕ) → i < length xs → all_below n xs ≡ true → nat_lt (slice_index_or xs i 0) n ≡ true
each-below n [] i h k = absurd (omega arith)
each-below n (x ∷ xs) zero h k = (both (nat_lt x n) (all_below n xs) k).0
each-below n (x ∷ xs) (suc i) h k = each-below n xs i (omega arith) (both (nat_lt x n) (all_below n xs) k).1

-- one more number stands in the row
pub row-more : (xs : List ℕ) (from i : ℕ) → from ≤ i → i < length xs → slice_range xs from (i + 1) ≡ slice_range xs from i ++
    slice_index_or xs i 0 ∷ []
row-more xs from i a h =
    let l : length (drop from xs) ≡ length xs - from = length-drop from xs in
    let m : i - from < length (drop from xs) = omega arith in
    let e : (i + 1) - from ≡ (i - from) + 1 = omega arith in
    let g : from + (i - from) ≡ i = omega arith in
    ap (λ n. take n (drop from xs)) e
    ∙ (take_more (drop from xs) (i - from) 0 m ∙ ap (λ x. take (i - from) (drop from xs) ++ x ∷ [])
    (get_or-drop from xs (i - from) 0 ∙ ap (λ n. slice_index_or xs n 0) g))

-- no number stands in a row that ends where it begins
pub row-none : (xs : List ℕ) (from to : ℕ) → from ≡ to → slice_range xs from to ≡ []
row-none xs from to e = let n : to - from ≡ 0 = omega arith in ap (λ n. take n (drop from xs)) n

-- one more part that is no join of this kind, and what is kept with it
pub opened-more : (ts : List FormulaTree) (junction : Junction) (xs : List ℕ) (i : ℕ) (old new : List ℕ) → i < length xs →
    all_below (length ts) xs ≡ true
    → junction_parts junction (tree_at ts (slice_index_or xs i 0)) ≡ tree_at ts (slice_index_or xs i 0) ∷ [] → new ≡
    kept_with junction old (slice_index_or xs i 0)
    → IsOpened ts junction (take i xs) old → IsOpened ts junction (take (i + 1) xs) new
opened-more ts junction xs i old new h below single e w =
    opened-next ts junction xs i new h (opened-one ts junction (take i xs) old new (slice_index_or xs i 0)
    (each-below (length ts) xs i h below) single e w)

-- a row that begins with this number, and one that goes on with it
pub row-begun : (xs : List ℕ) (from to i f : ℕ) → from ≡ to → f ≡ i → i < length xs → slice_range xs f (i + 1) ≡ slice_range xs from to ++
    slice_index_or xs i 0 ∷ []
row-begun xs from to i f e g h =
    row-more xs f i (omega arith) h ∙ ap (λ l. l ++ slice_index_or xs i 0 ∷ []) (row-none xs f i g ∙ sym (row-none xs from to e))

pub row-going : (xs : List ℕ) (from to i f : ℕ) → f ≡ from → to ≡ i → from ≤ to → i < length xs → slice_range xs f (i + 1) ≡
    slice_range xs from to ++ slice_index_or xs i 0 ∷ []
row-going xs from to i f e g k h =
    row-more xs f i (omega arith) h ∙ ap₂ (λ a b. slice_range xs a b ++ slice_index_or xs i 0 ∷ []) e (sym g)
