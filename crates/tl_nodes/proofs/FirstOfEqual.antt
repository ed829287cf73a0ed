-- Lists of trees in which of equal trees the first stays.
use Rattle.std.proofs.Common.{◌≡◌, Bool, true, false, true≢false, cond, not, List, [], ◌∷◌, ◌++◌, ◌||◌, ◌&&◌, filter, refl, sym, ap, ◌∙◌}
use Rattle.std.proofs.Common.{subst}
use Rattle.std.specs.List.{list_any}
use Rattle.tl_syntax.proofs.Same.{formula_discrete}
use Rattle.tl_syntax.specs.Trees.{FormulaTree}
use Rattle.tl_terms.specs.Simplification.{same_formula, is_yes, without_repeats}
use Rattle.tl_terms.proofs.Simplification.{same_formula-is}
use Rattle.tl_nodes.proofs.KeptOnce.{filter-twice}

pub same-of : (f g : FormulaTree) → f ≡ g → same_formula f g ≡ true
unfolding same_formula
same-of f g e = by (formula_discrete f g)
  where
    by : (d : Dec (f ≡ g)) → is_yes d ≡ true
    by (yes a) = refl
    by (no h) = absurd (h e)

-- whether the tree is in the list
abbrev pub contains_tree : List FormulaTree → FormulaTree → Bool
contains_tree xs x = list_any (same_formula x) xs

abbrev differs : FormulaTree → FormulaTree → Bool
differs f g = not (same_formula f g)

and-self : (a : Bool) → a ≡ (a && a)
and-self true = refl
and-self false = refl

and-swap : (a b : Bool) → (a && b) ≡ (b && a)
and-swap true true = refl
and-swap true false = refl
and-swap false true = refl
and-swap false false = refl

filter-swap : (p q : FormulaTree → Bool) (xs : List FormulaTree) → filter p (filter q xs) ≡ filter q (filter p xs)
filter-swap p q xs =
    filter-twice p q (λ x. q x && p x) (λ x. refl) xs ∙ sym (filter-twice q p (λ x. q x && p x) (λ x. and-swap (q x) (p x)) xs)

drop-again : (f : FormulaTree) (fs gs : List FormulaTree) → filter (differs f) (without_repeats (fs ++ f ∷ gs)) ≡
    filter (differs f) (without_repeats (fs ++ gs))
unfolding without_repeats
drop-again f [] gs =
    let xs = filter (differs f) (without_repeats gs) in
    ap (λ b. cond (not b) (f ∷ filter (differs f) xs) (filter (differs f) xs)) (same-of f f refl)
    ∙ filter-twice (differs f) (differs f) (differs f) (λ x. and-self (differs f x)) (without_repeats gs)
drop-again f (g ∷ fs) gs =
    let xs = without_repeats (fs ++ f ∷ gs) in
    let ys = without_repeats (fs ++ gs) in
    let e : filter (differs f) (filter (differs g) xs) ≡ filter (differs f) (filter (differs g) ys) =
    filter-swap (differs f) (differs g) xs ∙ (ap (filter (differs g)) (drop-again f fs gs) ∙ filter-swap (differs g) (differs f) ys) in
    ap (λ l. cond (differs f g) (g ∷ l) l) e

-- a tree that came before may be left out
pub skip-one : (fs gs : List FormulaTree) (x : FormulaTree) → contains_tree fs x ≡ true → without_repeats (fs ++ x ∷ gs) ≡
    without_repeats (fs ++ gs)
unfolding without_repeats
skip-one [] gs x h = absurd (true≢false (sym h))
skip-one (f ∷ fs) gs x h = by (same_formula x f) refl h (λ k. skip-one fs gs x k)
  where
    by : (b : Bool) → same_formula x f ≡ b → (b || contains_tree fs x) ≡ true →
        (contains_tree fs x ≡ true → without_repeats (fs ++ x ∷ gs) ≡ without_repeats (fs ++ gs))
        → f ∷ filter (differs f) (without_repeats (fs ++ x ∷ gs)) ≡ f ∷ filter (differs f) (without_repeats (fs ++ gs))
    by true e k rest = ap (λ l. f ∷ l) (ap (λ y. filter (differs f) (without_repeats (fs ++ y ∷ gs))) (same_formula-is x f e) ∙
        drop-again f fs gs)
    by false e k rest = ap (λ l. f ∷ filter (differs f) l) (rest k)

pub or-left : (a b : Bool) → a ≡ true → (a || b) ≡ true
or-left a b h = subst (λ c. (c || b) ≡ true) (sym h) refl

pub or-right : (a b : Bool) → b ≡ true → (a || b) ≡ true
or-right true b h = refl
or-right false b h = h

-- trees that all came before may be left out
pub skip-all : (fs xs gs : List FormulaTree) → ((x : FormulaTree) → contains_tree xs x ≡ true → contains_tree fs x ≡ true) →
    without_repeats (fs ++ (xs ++ gs)) ≡ without_repeats (fs ++ gs)
skip-all fs [] gs h = refl
skip-all fs (x ∷ xs) gs h =
    skip-one fs (xs ++ gs) x (h x (or-left (same_formula x x) (contains_tree xs x) (same-of x x refl)))
    ∙ skip-all fs xs gs (λ y k. h y (or-right (same_formula y x) (contains_tree xs y) k))

-- a tree that fails the test is not missed by it
fails-too : (p : FormulaTree → Bool) (f : FormulaTree) → p f ≡ false → (x : FormulaTree) → p x ≡ (differs f x && p x)
fails-too p f h x = by (same_formula f x) refl
  where
    by : (b : Bool) → same_formula f x ≡ b → p x ≡ (not b && p x)
    by true e = sym (ap p (same_formula-is f x e)) ∙ h
    by false e = refl

any-without : (p : FormulaTree → Bool) (f : FormulaTree) → p f ≡ false → (xs : List FormulaTree) → list_any p (filter (differs f) xs) ≡
    list_any p xs
any-without p f h [] = refl
any-without p f h (x ∷ xs) = by (differs f x) refl (any-without p f h xs)
  where
    by : (b : Bool) → differs f x ≡ b → list_any p (filter (differs f) xs) ≡ list_any p xs →
        list_any p (cond b (x ∷ filter (differs f) xs) (filter (differs f) xs)) ≡ (p x || list_any p xs)
    by true e rest = ap (λ c. p x || c) rest
    by false e rest = rest ∙ sym (ap (λ c. c || list_any p xs) (fails-too p f h x ∙ ap (λ b. b && p x) e))

any-once : (p : FormulaTree → Bool) (xs : List FormulaTree) → list_any p (without_repeats xs) ≡ list_any p xs
unfolding without_repeats
any-once p [] = refl
any-once p (x ∷ xs) = by (p x) refl (any-once p xs)
  where
    by : (b : Bool) → p x ≡ b → list_any p (without_repeats xs) ≡ list_any p xs →
        (b || list_any p (filter (differs x) (without_repeats xs))) ≡ (b || list_any p xs)
    by true e rest = refl
    by false e rest = any-without p x e (without_repeats xs) ∙ rest

filter-once : (p : FormulaTree → Bool) (xs : List FormulaTree) → without_repeats (filter p xs) ≡ filter p (without_repeats xs)
unfolding without_repeats
filter-once p [] = refl
filter-once p (x ∷ xs) = by (p x) refl (filter-once p xs)
  where
    by : (b : Bool) → p x ≡ b → without_repeats (filter p xs) ≡ filter p (without_repeats xs)
        → without_repeats (cond b (x ∷ filter p xs) (filter p xs)) ≡ cond b (x ∷ filter p (filter (differs x) (without_repeats xs)))
        (filter p (filter (differs x) (without_repeats xs)))
    by true e rest = ap (λ l. x ∷ l) (ap (filter (differs x)) rest ∙ filter-swap (differs x) p (without_repeats xs))
    by false e rest = rest ∙ sym (filter-twice p (differs x) p (fails-too p x e) (without_repeats xs))

module _ (xs ys : List FormulaTree) (e : without_repeats xs ≡ without_repeats ys) where
  pub same-any : (p : FormulaTree → Bool) → list_any p xs ≡ list_any p ys
  same-any p = sym (any-once p xs) ∙ (ap (list_any p) e ∙ any-once p ys)

  pub same-filtered : (p : FormulaTree → Bool) → without_repeats (filter p xs) ≡ without_repeats (filter p ys)
  same-filtered p = filter-once p xs ∙ (ap (filter p) e ∙ sym (filter-once p ys))
