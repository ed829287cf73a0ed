-- The entries of what is remembered of arrivals.
use Rattle.std.proofs.Common.{◌≡◌, ℕ, ◌+◌, zero, suc, Bool, List, [], ◌∷◌, ◌++◌, length, slice_get, Some, ◌⊎◌, inl, inr, refl, sym, ap}
use Rattle.std.proofs.Common.{subst, ◌∙◌, arith}
use Rattle.std.specs.Map.{lookup}
use Rattle.indexmap.specs.IndexMap.{insert_entry}
use Rattle.tl_search.specs.declared.arrival.Arrival.{Arrival}
use Rattle.tl_space.specs.Entries.{entries_from, HasOneMore}
use Rattle.tl_space.specs.declared.arrivals.FirstArrival.{FirstArrival}
use Rattle.tl_space.specs.declared.numbers.Numbers.{Numbers}
use Rattle.tl_syntax.proofs.Plain.{Tells}
use Rattle.tl_syntax.specs.Lists.{Among, Each}
use Rattle.tl_space.proofs.Remembering.{each-among, inserted-each, picked}

-- ---- lists

each-of : {A : Type 0} (P : A → Type 0) (xs : List A) → ((y : A) → Among y xs → P y) → Each P xs
each-of P [] f = tt
each-of P (x ∷ xs) f = (f x (inl refl), each-of P xs (λ y a. f y (inr a)))

pub among-left : {A : Type 0} (y : A) (xs zs : List A) → Among y xs → Among y (xs ++ zs)
among-left y [] zs a = absurd a
among-left y (x ∷ xs) zs (inl e) = inl e
among-left y (x ∷ xs) zs (inr a) = inr (among-left y xs zs a)

pub among-right : {A : Type 0} (y : A) (xs zs : List A) → Among y zs → Among y (xs ++ zs)
among-right y [] zs a = a
among-right y (x ∷ xs) zs a = inr (among-right y xs zs a)

among-either : {A : Type 0} (y : A) (xs zs : List A) → Among y (xs ++ zs) → Among y xs ⊎ Among y zs
among-either y [] zs a = inr a
among-either y (x ∷ xs) zs (inl e) = inl (inl e)
among-either y (x ∷ xs) zs (inr a) = by (among-either y xs zs a)
  where
    by : Among y xs ⊎ Among y zs → Among y (x ∷ xs) ⊎ Among y zs
    by (inl b) = inl (inr b)
    by (inr b) = inr b

pub no-more : {A : Type 0} (xs : List A) (x : A) → HasOneMore xs x xs
no-more xs x = each-of (λ y. Among y xs ⊎ (y ≡ x)) xs (λ y a. inl a)

-- ---- the first arrivals

-- what came first in a world is among the entries
pub first-among : (xs : List FirstArrival) (n i : ℕ) (x : FirstArrival) (key : Numbers) → slice_get xs i ≡ Some x → key.world ≡ n + i →
    x.label ≡ key.label → Among (key, x.arrival) (entries_from n xs)
first-among [] n i x key e w l = let b : ⊥ = cc in absurd b
first-among (y ∷ ys) n zero x key e w l =
    let p : y ≡ x = cc in
    let v : n ≡ key.world = omega (arith, w) in
    let k : y.label ≡ key.label = ap (λ (z : FirstArrival). z.label) p ∙ l in
    inl (λ j. (record { world = v j; label = k j }, (p j).arrival))
first-among (y ∷ ys) n (suc i) x key e w l = inr (first-among ys (suc n) i x key e (omega (arith, w)) l)

entries-longer : (xs : List FirstArrival) (n : ℕ) (x : FirstArrival) (key : Numbers) → key.world ≡ n + length xs → x.label ≡ key.label →
    entries_from n (xs ++ x ∷ []) ≡ entries_from n xs ++ (key, x.arrival) ∷ []
entries-longer [] n x key w l =
    let v : n ≡ key.world = omega (arith, w) in
    λ j. (record { world = v j; label = l j }, x.arrival) ∷ []
entries-longer (y ∷ ys) n x key w l = ap (λ es. (record { world = n; label = y.label }, y.arrival) ∷ es)
    (entries-longer ys (suc n) x key (omega (arith, w)) l)

-- ---- one entry more

pub more-front : {A : Type 0} (xs ys zs : List A) (e : A) → HasOneMore xs e ys → HasOneMore (xs ++ zs) e (ys ++ zs)
more-front {A} xs ys zs e h = each-of (λ y. Among y (xs ++ zs) ⊎ (y ≡ e)) (ys ++ zs) (λ y a. split y (among-either y ys zs a))
  where
    old : (y : A) → Among y xs ⊎ (y ≡ e) → Among y (xs ++ zs) ⊎ (y ≡ e)
    old y (inl b) = inl (among-left y xs zs b)
    old y (inr q) = inr q

    split : (y : A) → Among y ys ⊎ Among y zs → Among y (xs ++ zs) ⊎ (y ≡ e)
    split y (inl b) = old y (each-among (λ x. Among x xs ⊎ (x ≡ e)) ys y h b)
    split y (inr b) = inl (among-right y xs zs b)

pub more-back : {A : Type 0} (xs ys zs : List A) (e : A) → HasOneMore xs e ys → HasOneMore (zs ++ xs) e (zs ++ ys)
more-back {A} xs ys zs e h = each-of (λ y. Among y (zs ++ xs) ⊎ (y ≡ e)) (zs ++ ys) (λ y a. split y (among-either y zs ys a))
  where
    old : (y : A) → Among y xs ⊎ (y ≡ e) → Among y (zs ++ xs) ⊎ (y ≡ e)
    old y (inl b) = inl (among-right y zs xs b)
    old y (inr q) = inr q

    split : (y : A) → Among y zs ⊎ Among y ys → Among y (zs ++ xs) ⊎ (y ≡ e)
    split y (inl b) = inl (among-left y zs xs b)
    split y (inr b) = old y (each-among (λ x. Among x xs ⊎ (x ≡ e)) ys y h b)

pub one-more-first : (xs ys : List FirstArrival) (x : FirstArrival) (key : Numbers) → key.world ≡ length xs → x.label ≡ key.label → ys ≡
    xs ++ x ∷ [] → HasOneMore (entries_from 0 xs) (key, x.arrival) (entries_from 0 ys)
one-more-first xs ys x key w l made =
    subst (λ es. HasOneMore (entries_from 0 xs) (key, x.arrival) es) (sym
    (ap (entries_from 0) made ∙ entries-longer xs 0 x key (omega (arith, w)) l))
    (each-of (λ y. Among y (entries_from 0 xs) ⊎ (y ≡ (key, x.arrival))) (entries_from 0 xs ++ (key, x.arrival) ∷ [])
    (λ y a. split y (among-either y (entries_from 0 xs) ((key, x.arrival) ∷ []) a)))
  where
    split : (y : Numbers × Arrival) → Among y (entries_from 0 xs) ⊎ Among y ((key, x.arrival) ∷ []) → Among y (entries_from 0 xs) ⊎
        (y ≡ (key, x.arrival))
    split y (inl b) = inl b
    split y (inr (inl q)) = inr (sym q)
    split y (inr (inr q)) = absurd q

pub one-more-other : (eq : Numbers → Numbers → Bool) → Tells eq → (os ns : List (Numbers × Arrival)) (key : Numbers) (r : Arrival) → ns ≡
    insert_entry eq os key r → HasOneMore os (key, r) ns
one-more-other eq tells os ns key r made =
    subst (HasOneMore os (key, r)) (sym made)
    (inserted-each (λ (y : Numbers × Arrival). Among y os ⊎ (y ≡ (key, r))) eq tells key r os (no-more os (key, r)) (inr refl))

-- the entry that is looked up is among them
pub other-among : (eq : Numbers → Numbers → Bool) → Tells eq → (os : List (Numbers × Arrival)) (key : Numbers) (r : Arrival) →
    lookup (eq key) os ≡ Some r → Among (key, r) os
other-among eq tells os key r e = picked (λ (y : Numbers × Arrival). Among y os) eq tells key r os
    (each-of (λ y. Among y os) os (λ y a. a)) e
