-- A walk over a list by its positions.
use Rattle.std.proofs.Common.{◌≡◌, ◌<◌, ◌≤◌, ◌+◌, ℕ, zero, suc, List, [], ◌∷◌, ◌++◌, drop, take, length, get_or, Bool, true, false, ◌&&◌}
use Rattle.std.proofs.Common.{refl, sym, ap, ◌∙◌, subst, drop-cons, add-one, arith}
use Rattle.std.proofs.lemmas.List.{take_more}
use Rattle.std.specs.List.{list_all}
use Rattle.tl_eval.proofs.ScopeLaws.{each-at}
use Rattle.tl_syntax.specs.Lists.{Each}

-- what is left begins with the item at the position
pub drop-opened : {A : Type 0} (xs : List A) (i : ℕ) (x : A) → i < length xs → x ≡ get_or xs i x → drop i xs ≡ x ∷ drop (i + 1) xs
drop-opened xs i x h k = drop-cons xs i x h ∙ ((λ j. sym k j ∷ drop (suc i) xs) ∙ ap (λ (n : ℕ). x ∷ drop n xs) (sym (add-one i)))

-- what was passed is one more
pub take-opened : {A : Type 0} (xs : List A) (i : ℕ) (x : A) → i < length xs → x ≡ get_or xs i x → take (i + 1) xs ≡ take i xs ++ x ∷ []
take-opened xs i x h k = take_more xs i x h ∙ ap (λ y. take i xs ++ y ∷ []) (sym k)

pub drop-past : {A : Type 0} (xs : List A) (i : ℕ) → length xs ≤ i → drop i xs ≡ []
drop-past [] zero h = refl
drop-past [] (suc i) h = refl
drop-past (x ∷ xs) zero h = absurd (omega arith)
drop-past (x ∷ xs) (suc i) h = drop-past xs i (omega arith)

pub take-past : {A : Type 0} (xs : List A) (i : ℕ) → length xs ≤ i → take i xs ≡ xs
take-past [] zero h = refl
take-past [] (suc i) h = refl
take-past (x ∷ xs) zero h = absurd (omega arith)
take-past (x ∷ xs) (suc i) h = ap (λ ys. x ∷ ys) (take-past xs i (omega arith))

pub each-item : {A : Type 0} (P : A → Type 0) (xs : List A) (i : ℕ) (x : A) → Each P xs → i < length xs → x ≡ get_or xs i x → P x
each-item P xs i x h k q = subst P (sym q) (each-at P xs i x h k)

-- the item at a position of the list, whatever else would stand there
pub get-itself : {A : Type 0} (xs : List A) (i : ℕ) (d : A) → i < length xs → get_or xs i d ≡ get_or xs i (get_or xs i d)
get-itself xs i d h = same xs i d (get_or xs i d) h
  where
    same : {A : Type 0} (xs : List A) (i : ℕ) (d e : A) → i < length xs → get_or xs i d ≡ get_or xs i e
    same [] i d e h = absurd (omega arith)
    same (x ∷ xs) zero d e h = refl
    same (x ∷ xs) (suc i) d e h = same xs i d e (omega arith)

-- a test of all items, in turn
module _ {A : Type 0} (test : A → Bool) (xs : List A) (i : ℕ) (x : A) (h : i < length xs) (k : x ≡ get_or xs i x) (b : Bool)
    (q : b ≡ test x) (so : list_all test xs ≡ list_all test (drop i xs)) where
  opened : list_all test xs ≡ (b && list_all test (drop (i + 1) xs))
  opened = so ∙ (ap (list_all test) (drop-opened xs i x h k) ∙ ap (λ (c : Bool). c && list_all test (drop (i + 1) xs)) (sym q))

  pub all-on : b ≡ true → list_all test xs ≡ list_all test (drop (i + 1) xs)
  all-on t = opened ∙ ap (λ (c : Bool). c && list_all test (drop (i + 1) xs)) t

  pub all-stop : b ≡ false → false ≡ list_all test xs
  all-stop t = sym (opened ∙ ap (λ (c : Bool). c && list_all test (drop (i + 1) xs)) t)

pub all-end : {A : Type 0} (test : A → Bool) (xs : List A) (i : ℕ) → length xs ≤ i → list_all test xs ≡ list_all test (drop i xs) → true ≡
    list_all test xs
all-end test xs i h so = sym (so ∙ ap (list_all test) (drop-past xs i h))

-- ---- the first items of a list

pub length-taken : {A : Type 0} (xs : List A) (j : ℕ) → j ≤ length xs → length (take j xs) ≡ j
length-taken xs zero h = refl
length-taken [] (suc j) h = absurd (omega arith)
length-taken (x ∷ xs) (suc j) h = ap suc (length-taken xs j (omega arith))

get-taken : {A : Type 0} (xs : List A) (j i : ℕ) (x : A) → i < j → get_or (take j xs) i x ≡ get_or xs i x
get-taken xs zero i x h = absurd (omega arith)
get-taken [] (suc j) i x h = refl
get-taken (y ∷ xs) (suc j) zero x h = refl
get-taken (y ∷ xs) (suc j) (suc i) x h = get-taken xs j i x (omega arith)

-- what is left of them begins with the item at the position
pub taken-opened : {A : Type 0} (xs : List A) (j i : ℕ) (x : A) → j ≤ length xs → i < j → x ≡ get_or xs i x → drop i (take j xs) ≡ x ∷
    drop (i + 1) (take j xs)
taken-opened xs j i x h l q =
    let many = length-taken xs j h in
    drop-opened (take j xs) i x (omega (arith, many, l)) (q ∙ sym (get-taken xs j i x l))

pub taken-past : {A : Type 0} (xs : List A) (j i : ℕ) → j ≤ length xs → j ≤ i → drop i (take j xs) ≡ []
taken-past xs j i h l = let many = length-taken xs j h in drop-past (take j xs) i (omega (arith, many, l))
