-- Numbers kept once each stand for trees kept once each.
use Rattle.std.proofs.Common.{◌≡◌, ℕ, Bool, true, false, cond, not, List, [], ◌∷◌, ◌++◌, ◌||◌, ◌&&◌, map, filter, nat_lt, nat_eq, eqb-true}
use Rattle.std.proofs.Common.{eq-eqb, refl, sym, ap, ap₂, ◌∙◌, append_assoc, append-nil, if◌then◌else◌}
use Rattle.std.specs.List.{list_any}
use Rattle.std.proofs.lemmas.List.Folds.{list_any-append}
use Rattle.indexmap.specs.IndexSet.{insert_all}
use Rattle.tl_syntax.specs.Trees.{FormulaTree}
use Rattle.tl_syntax.proofs.Plain.{both, with_both}
use Rattle.tl_terms.specs.Simplification.{same_formula, without_repeats}
use Rattle.tl_nodes.specs.Fits.{all_below}

pub same-bool : (a b : Bool) → (a ≡ true → b ≡ true) → (b ≡ true → a ≡ true) → a ≡ b
same-bool true b f g = sym (f refl)
same-bool false true f g = g refl
same-bool false false f g = refl

pub nat-swap : (a b : ℕ) → nat_eq a b ≡ nat_eq b a
nat-swap a b = same-bool (nat_eq a b) (nat_eq b a) (λ h. eq-eqb b a (sym (eqb-true a b h))) (λ h. eq-eqb a b (sym (eqb-true b a h)))

-- the first of equal numbers
unfoldable pub dedup : List ℕ → List ℕ
dedup [] = []
dedup (x ∷ xs) = x ∷ filter (λ y. not (nat_eq x y)) (dedup xs)

filter-push : {A : Type 0} (p : A → Bool) (a : Bool) (x : A) (xs : List A) → filter p (cond a (x ∷ xs) xs) ≡
    cond (a && p x) (x ∷ filter p xs) (filter p xs)
filter-push p true x xs = refl
filter-push p false x xs = refl

pub filter-twice : {A : Type 0} (p q r : A → Bool) → ((x : A) → r x ≡ (q x && p x)) → (xs : List A) → filter p (filter q xs) ≡ filter r xs
filter-twice p q r h [] = refl
filter-twice p q r h (x ∷ xs) =
    filter-push p (q x) x (filter q xs)
    ∙ (ap (λ b. cond b (x ∷ filter p (filter q xs)) (filter p (filter q xs))) (sym (h x)) ∙
    ap (λ l. cond (r x) (x ∷ l) l) (filter-twice p q r h xs))

out_of : List ℕ → ℕ → Bool
out_of acc y = not (list_any (nat_eq y) acc)

in-already : (acc : List ℕ) (y : ℕ) → list_any (nat_eq y) acc ≡ true → (z : ℕ) → out_of acc z ≡ (not (nat_eq y z) && out_of acc z)
unfolding out_of
in-already acc y e z = by (nat_eq y z) refl
  where
    by : (b : Bool) → nat_eq y z ≡ b → not (list_any (nat_eq z) acc) ≡ (not b && not (list_any (nat_eq z) acc))
    by true h = ap (λ x. not (list_any (nat_eq x) acc)) (sym (eqb-true y z h)) ∙ ap not e
    by false h = refl

not-or : (a b c : Bool) → b ≡ c → not (a || (b || false)) ≡ (not c && not a)
not-or true b true h = refl
not-or true b false h = refl
not-or false true c h = ap (λ x. not x && true) h
not-or false false c h = ap (λ x. not x && true) h

in-now : (acc : List ℕ) (y z : ℕ) → out_of (acc ++ y ∷ []) z ≡ (not (nat_eq y z) && out_of acc z)
unfolding out_of
in-now acc y z = ap not (list_any-append (nat_eq z) acc (y ∷ [])) ∙ not-or (list_any (nat_eq z) acc) (nat_eq z y) (nat_eq y z)
    (nat-swap z y)

kept-from : (ys acc : List ℕ) → insert_all nat_eq acc ys ≡ acc ++ filter (out_of acc) (dedup ys)
unfolding dedup out_of
kept-from [] acc = sym (append-nil acc)
kept-from (y ∷ ys) acc = by (list_any (nat_eq y) acc) refl (λ a. kept-from ys a)
  where
    by : (b : Bool) → list_any (nat_eq y) acc ≡ b → ((a : List ℕ) → insert_all nat_eq a ys ≡ a ++ filter (out_of a) (dedup ys))
        → insert_all nat_eq (if (list_any (nat_eq y) acc) then acc else acc ++ y ∷ []) ys
        ≡ acc ++ cond (not (list_any (nat_eq y) acc)) (y ∷ filter (out_of acc) (filter (λ z. not (nat_eq y z)) (dedup ys)))
        (filter (out_of acc) (filter (λ z. not (nat_eq y z)) (dedup ys)))
    by true e rest =
        ap (λ c. insert_all nat_eq (if c then acc else acc ++ y ∷ []) ys) e
        ∙ (rest acc
        ∙ (ap (λ l. acc ++ l) (sym (filter-twice (out_of acc) (λ z. not (nat_eq y z)) (out_of acc) (in-already acc y e) (dedup ys)))
        ∙ sym (ap (λ c. acc ++ cond (not c) (y ∷ filter (out_of acc) (filter (λ z. not (nat_eq y z)) (dedup ys)))
        (filter (out_of acc) (filter (λ z. not (nat_eq y z)) (dedup ys)))) e)))
    by false e rest =
        ap (λ c. insert_all nat_eq (if c then acc else acc ++ y ∷ []) ys) e
        ∙ (rest (acc ++ y ∷ [])
        ∙ (append_assoc acc (y ∷ []) (filter (out_of (acc ++ y ∷ [])) (dedup ys))
        ∙ (ap (λ l. acc ++ (y ∷ l)) (sym (filter-twice (out_of acc) (λ z. not (nat_eq y z)) (out_of (acc ++ y ∷ [])) (in-now acc y)
        (dedup ys)))
        ∙ sym (ap (λ c. acc ++ cond (not c) (y ∷ filter (out_of acc) (filter (λ z. not (nat_eq y z)) (dedup ys)))
        (filter (out_of acc) (filter (λ z. not (nat_eq y z)) (dedup ys)))) e))))

filter-all : {A : Type 0} (xs : List A) → filter (λ x. true) xs ≡ xs
filter-all [] = refl
filter-all (x ∷ xs) = ap (λ l. x ∷ l) (filter-all xs)

pub kept-once : (ys : List ℕ) → insert_all nat_eq [] ys ≡ dedup ys
unfolding out_of
kept-once ys = kept-from ys [] ∙ filter-all (dedup ys)

pub below-filter : (n : ℕ) (q : ℕ → Bool) (xs : List ℕ) → all_below n xs ≡ true → all_below n (filter q xs) ≡ true
below-filter n q [] h = refl
below-filter n q (x ∷ xs) h =
    let p = both (nat_lt x n) (all_below n xs) h in
    by (q x) p.0 (below-filter n q xs p.1)
  where
    by : (b : Bool) → nat_lt x n ≡ true → all_below n (filter q xs) ≡ true → all_below n (cond b (x ∷ filter q xs) (filter q xs)) ≡ true
    by true a r = with_both a r
    by false a r = r

pub below-dedup : (n : ℕ) (xs : List ℕ) → all_below n xs ≡ true → all_below n (dedup xs) ≡ true
unfolding dedup out_of
below-dedup n [] h = refl
below-dedup n (x ∷ xs) h =
    let p = both (nat_lt x n) (all_below n xs) h in
    with_both p.0 (below-filter n (λ y. not (nat_eq x y)) (dedup xs) (below-dedup n xs p.1))

module _ (t : ℕ → FormulaTree) (n : ℕ) where
  cond-map : (b : Bool) (x : ℕ) (xs : List ℕ) → cond b (t x ∷ map t xs) (map t xs) ≡ map t (cond b (x ∷ xs) xs)
  cond-map true x xs = refl
  cond-map false x xs = refl

  pub filter-map : (p : FormulaTree → Bool) (q : ℕ → Bool) → ((i : ℕ) → nat_lt i n ≡ true → p (t i) ≡ q i) → (xs : List ℕ) →
      all_below n xs ≡ true → filter p (map t xs) ≡ map t (filter q xs)
  filter-map p q h [] k = refl
  filter-map p q h (x ∷ xs) k =
      let b = both (nat_lt x n) (all_below n xs) k in
      ap (λ c. cond c (t x ∷ filter p (map t xs)) (filter p (map t xs))) (h x b.0)
      ∙ (ap (λ l. cond (q x) (t x ∷ l) l) (filter-map p q h xs b.1) ∙ cond-map (q x) x (filter q xs))

  pub any-map : (p : FormulaTree → Bool) (q : ℕ → Bool) → ((i : ℕ) → nat_lt i n ≡ true → p (t i) ≡ q i) → (xs : List ℕ) → all_below n xs ≡
      true → list_any p (map t xs) ≡ list_any q xs
  any-map p q h [] k = refl
  any-map p q h (x ∷ xs) k =
      let b = both (nat_lt x n) (all_below n xs) k in
      ap₂ (λ c d. c || d) (h x b.0) (any-map p q h xs b.1)

  pub distinct-map : ((i j : ℕ) → nat_lt i n ≡ true → nat_lt j n ≡ true → same_formula (t i) (t j) ≡ nat_eq i j) → (xs : List ℕ) →
      all_below n xs ≡ true → without_repeats (map t xs) ≡ map t (dedup xs)
  unfolding without_repeats dedup
  distinct-map h [] k = refl
  distinct-map h (x ∷ xs) k =
      let b = both (nat_lt x n) (all_below n xs) k in
      ap (λ l. t x ∷ filter (λ g. not (same_formula (t x) g)) l) (distinct-map h xs b.1)
      ∙ ap (λ l. t x ∷ l) (filter-map (λ g. not (same_formula (t x) g)) (λ y. not (nat_eq x y)) (λ i a. ap not (h x i b.0 a)) (dedup xs)
      (below-dedup n xs b.1))
