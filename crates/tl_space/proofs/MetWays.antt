-- How pairs were met first, by the numbers of their actions.
use Rattle.std.proofs.Common.{◌≡◌, ◌<◌, ◌≤◌, ℕ, Result, Ok, Err, OnErr, zero, suc, List, [], ◌∷◌, ◌++◌, length, map, get_or, take}
use Rattle.std.proofs.Common.{slice_get, Some, refl, sym, ap, ◌∙◌, subst, arith}
use Rattle.std.specs.Option.{option_map}
use Rattle.std.proofs.lemmas.List.{map-append, length-map}
use Rattle.std.proofs.lemmas.Option.{get_or_from_slice_get, slice_get-map, slice_get_read, slice_get_within}
use Rattle.tl_search.proofs.ListLaws.{get-inside}
use Rattle.tl_syntax.proofs.ListLaws.{Each-append}
use Rattle.tl_syntax.specs.declared.action.Action.{Action}
use Rattle.tl_syntax.specs.Lists.{Each}
use Rattle.tl_space.specs.declared.numbers.Met.{Met}
use Rattle.tl_space.specs.declared.numbers.Met.TheVariants as met
use Rattle.tl_space.specs.declared.way.Way.{Way}
use Rattle.tl_space.specs.declared.way.Way.TheVariants as way
use Rattle.tl_space.specs.Ways.{action_at, met_by, mets_of, IsWay}
use Rattle.tl_known.specs.NumberedLists.{Stay}

module _ (us bs : List Action) (stay : Stay us bs) where
  -- a number keeps its action
  action-stays : (k : ℕ) → k < length us → action_at bs k ≡ action_at us k
  action-stays k h =
      let x = get-inside us k h in
      let none : Action = record { op = 0; args = [] } in
      get_or_from_slice_get bs k x.0 none (stay k x.0 x.1) ∙ sym (get_or_from_slice_get us k x.0 none x.1)

  pub way-stays : (w : Way) → IsWay us w → IsWay bs w
  way-stays way.First h = tt
  way-stays (way.After j k) h = let x = get-inside us k h in slice_get_within bs k x.0 (stay k x.0 x.1)

  met-stays : (w : Way) → IsWay us w → met_by bs w ≡ met_by us w
  met-stays way.First h = refl
  met-stays (way.After j k) h = ap (λ (a : Action). met.After j a) (action-stays k h)

  pub ways-stay : (ws : List Way) → Each (IsWay us) ws → Each (IsWay bs) ws
  ways-stay [] h = tt
  ways-stay (w ∷ ws) h = (way-stays w h.0, ways-stay ws h.1)

  pub mets-stay : (ws : List Way) → Each (IsWay us) ws → mets_of bs ws ≡ mets_of us ws
  mets-stay [] h = refl
  mets-stay (w ∷ ws) h = let p = met-stays w h.0 in let q = mets-stay ws h.1 in λ i. p i ∷ q i

-- one more way
pub ways-more : (us : List Action) (ws vs : List Way) (w : Way) → vs ≡ ws ++ w ∷ [] → Each (IsWay us) ws → IsWay us w → Each (IsWay us) vs
ways-more us ws vs w e h k = subst (Each (IsWay us)) (sym e) ((Each-append (IsWay us) ws (w ∷ [])).1 (h, (k, tt)))

pub mets-more : (us : List Action) (ws vs : List Way) (w : Way) (m : Met) → vs ≡ ws ++ w ∷ [] → met_by us w ≡ m → mets_of us vs ≡
    mets_of us ws ++ m ∷ []
mets-more us ws vs w m e f = ap (mets_of us) e ∙ (map-append (met_by us) ws (w ∷ []) ∙ ap (λ (x : Met). mets_of us ws ++ x ∷ []) f)

-- the first ways alone
pub each-taken : {A : Type 0} (P : A → Type 0) (n : ℕ) (xs : List A) → Each P xs → Each P (take n xs)
each-taken P zero xs h = tt
each-taken P (suc n) [] h = tt
each-taken P (suc n) (x ∷ xs) h = (h.0, each-taken P n xs h.1)

map-taken : {A B : Type 0} (f : A → B) (n : ℕ) (xs : List A) → map f (take n xs) ≡ take n (map f xs)
map-taken f zero xs = refl
map-taken f (suc n) [] = refl
map-taken f (suc n) (x ∷ xs) = ap (λ ys. f x ∷ ys) (map-taken f n xs)

pub ways-taken : (us : List Action) (n : ℕ) (ws vs : List Way) → vs ≡ take n ws → Each (IsWay us) ws → Each (IsWay us) vs
ways-taken us n ws vs e h = subst (Each (IsWay us)) (sym e) (each-taken (IsWay us) n ws h)

pub mets-taken : (us : List Action) (n : ℕ) (ws vs : List Way) → vs ≡ take n ws → mets_of us vs ≡ take n (mets_of us ws)
mets-taken us n ws vs e = ap (mets_of us) e ∙ map-taken (met_by us) n ws

-- what stands behind others is let go
pub taken-before : {A : Type 0} (xs : List A) (x : A) → take (length xs) (xs ++ x ∷ []) ≡ xs
taken-before [] x = refl
taken-before (y ∷ xs) x = ap (λ ys. y ∷ ys) (taken-before xs x)

length-more : {A : Type 0} (xs : List A) (x : A) → length (xs ++ x ∷ []) ≡ suc (length xs)
length-more [] x = refl
length-more (y ∷ xs) x = ap suc (length-more xs x)

pub still-inside : {A : Type 0} (xs ys : List A) (x : A) (n : ℕ) → n ≡ length xs → ys ≡ xs ++ x ∷ [] → n ≤ length ys
still-inside xs ys x n e f = let a = ap length f in let b = length-more xs x in omega (arith, a, b, e)

-- a fact holds of each error
pub on-error : {A E : Type 0} {P : Type 0} (r : Result A E) → P → OnErr r P
on-error (Ok x) p = tt
on-error (Err e) p = p

-- the way of a pair
each-got : {A : Type 0} (P : A → Type 0) (xs : List A) (i : ℕ) (x : A) → Each P xs → i < length xs → x ≡ get_or xs i x → P x
each-got P [] i x h l e = absurd (omega arith)
each-got P (y ∷ xs) zero x h l e = subst P (sym e) h.0
each-got P (y ∷ xs) (suc i) x h l e = each-got P xs i x h.1 (omega arith) e

module _ (us : List Action) (ws : List Way) (i : ℕ) (w : Way) (h : i < length ws) (e : w ≡ get_or ws i w) where
  pub way-there : Each (IsWay us) ws → (v : Way) → w ≡ v → IsWay us v
  way-there each v q = subst (IsWay us) q (each-got (IsWay us) ws i w each h e)

  pub met-there : (v : Way) → w ≡ v → slice_get (mets_of us ws) i ≡ Some (met_by us v)
  met-there v q =
      slice_get-map (met_by us) ws i
      ∙ ap (λ o. option_map (met_by us) o) (slice_get_read ws (length ws) i w refl h e ∙ ap (λ (z : Way). Some z) q)

pub ways-count : (us : List Action) (ws : List Way) → length (mets_of us ws) ≡ length ws
ways-count us ws = length-map ws (met_by us)
