-- The new variables of each bound, worked out in turn.
use Rattle.std.proofs.Common.{◌≡◌, ◌<◌, ◌≤◌, ◌+◌, ℕ, zero, suc, List, [], ◌∷◌, ◌++◌, filter, take, drop, append_assoc, append-nil, length}
use Rattle.std.proofs.Common.{get_or, Bool, true, false, cond, refl, sym, ap, ◌∙◌, arith}
use Rattle.tl_action.specs.Join.{is_new, new_from}
use Rattle.tl_action.proofs.Walks.{drop-opened, take-opened, drop-past}
use Rattle.tl_syntax.specs.declared.bound.Bound.{Bound}
use Rattle.tl_syntax.specs.declared.variable.Var.{Var}

filter-two : {A : Type 0} (p : A → Bool) (xs ys : List A) → filter p (xs ++ ys) ≡ filter p xs ++ filter p ys
filter-two p [] ys = refl
filter-two p (x ∷ xs) ys = (elim (p x) as (λ b. cond b (x ∷ filter p (xs ++ ys)) (filter p (xs ++ ys)) ≡
    cond b (x ∷ filter p xs) (filter p xs) ++ filter p ys) [ true ↦ ap (λ zs. x ∷ zs) (filter-two p xs ys) | false ↦ filter-two p xs ys ])

module _ {A : Type 0} (p : A → Bool) (xs : List A) (i : ℕ) (x : A) (h : i < length xs) (k : x ≡ get_or xs i x) (kept : List A)
    (so : kept ≡ filter p (take i xs)) where
  opened : filter p (take (i + 1) xs) ≡ filter p (take i xs) ++ cond (p x) (x ∷ []) []
  opened = ap (filter p) (take-opened xs i x h k) ∙ filter-two p (take i xs) (x ∷ [])

  pub filter-keeps : (more : List A) → p x ≡ true → more ≡ kept ++ x ∷ [] → more ≡ filter p (take (i + 1) xs)
  filter-keeps more t q = q ∙ (ap (λ ys. ys ++ x ∷ []) so ∙ sym (opened ∙ ap (λ (b : Bool). filter p (take i xs) ++ cond b (x ∷ []) []) t))

  pub filter-drops : p x ≡ false → kept ≡ filter p (take (i + 1) xs)
  filter-drops t = so ∙ sym (opened ∙ (ap (λ (b : Bool). filter p (take i xs) ++ cond b (x ∷ []) []) t ∙ append-nil (filter p (take i xs))))

-- ---- the new parameters

pub new_parameters-on : (ss : List Var) (bs : List Bound) (j : ℕ) (b : Bound) (new_parameters more : List (List Var)) (vars : List Var) →
    j < length bs → b ≡ get_or bs j b → vars ≡ filter (is_new (take j bs) b) ss → more ≡ new_parameters ++ vars ∷ []
    → new_from ss [] bs ≡ new_parameters ++ new_from ss (take j bs) (drop j bs) → new_from ss [] bs ≡ more ++
    new_from ss (take (j + 1) bs) (drop (j + 1) bs)
new_parameters-on ss bs j b new_parameters more vars h k q z so =
    so
    ∙ (ap (λ rest. new_parameters ++ new_from ss (take j bs) rest) (drop-opened bs j b h k)
    ∙ (ap (λ vs. new_parameters ++ (vs ∷ new_from ss (take j bs ++ b ∷ []) (drop (j + 1) bs))) (sym q)
    ∙ (sym (append_assoc new_parameters (vars ∷ []) (new_from ss (take j bs ++ b ∷ []) (drop (j + 1) bs)))
    ∙ ap₂' (sym z) (sym (take-opened bs j b h k)))))
  where
    ap₂' : {us vs : List (List Var)} {xs ys : List Bound} → us ≡ vs → xs ≡ ys → us ++ new_from ss xs (drop (j + 1) bs) ≡ vs ++
        new_from ss ys (drop (j + 1) bs)
    ap₂' p r = λ i. p i ++ new_from ss (r i) (drop (j + 1) bs)

pub new_parameters-ended : (ss : List Var) (bs : List Bound) (j : ℕ) (new_parameters : List (List Var)) → length bs ≤ j →
    new_from ss [] bs ≡ new_parameters ++ new_from ss (take j bs) (drop j bs) → new_parameters ≡ new_from ss [] bs
new_parameters-ended ss bs j new_parameters h so = sym (so ∙ (ap (λ rest. new_parameters ++ new_from ss (take j bs) rest)
    (drop-past bs j h) ∙ append-nil new_parameters))

-- the new parameters of a bound
pub new_parameters-are : (ss : List Var) (seen bs : List Bound) (j : ℕ) (b : Bound) (vs : List Var) → j < length bs →
    get_or (new_from ss seen bs) j vs ≡ filter (is_new (seen ++ take j bs) (get_or bs j b)) ss
new_parameters-are ss seen [] j b vs h = absurd (omega arith)
new_parameters-are ss seen (x ∷ bs) zero b vs h = ap (λ (ys : List Bound). filter (is_new ys x) ss) (sym (append-nil seen))
new_parameters-are ss seen (x ∷ bs) (suc j) b vs h =
    new_parameters-are ss (seen ++ x ∷ []) bs j b vs (omega arith) ∙ ap (λ (ys : List Bound). filter (is_new ys (get_or bs j b)) ss)
    (append_assoc seen (x ∷ []) (take j bs))

pub new_parameters-length : (ss : List Var) (seen bs : List Bound) → length (new_from ss seen bs) ≡ length bs
new_parameters-length ss seen [] = refl
new_parameters-length ss seen (b ∷ bs) = ap suc (new_parameters-length ss (seen ++ b ∷ []) bs)
