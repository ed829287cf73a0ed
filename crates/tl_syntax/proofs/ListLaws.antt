-- What holds of each item of a list, and of one of them.
use Rattle.std.proofs.Common.{◌≡◌, ◌⊎◌, ◌↔◌, List, [], ◌∷◌, ◌++◌, map, flat_map, filter, Bool, true, false, cond, not, ◌&&◌, ◌||◌}
use Rattle.std.proofs.Common.{true≢false, refl, sym, ap, ◌∙◌, subst, inl, inr}
use Rattle.std.specs.List.{list_any, list_all}
use Rattle.tl_syntax.specs.Lists.{Each, AtLeastOne, Among}

pub iff-trans : {A B C : Type 0} → A ↔ B → B ↔ C → A ↔ C
iff-trans p q = (λ a. q.0 (p.0 a), λ c. p.1 (q.1 c))

pub iff-path : {A : Type 0} (P : A → Type 0) {a b : A} → a ≡ b → P a ↔ P b
iff-path P e = (subst P e, subst P (sym e))

pub iff-sym : {A B : Type 0} → A ↔ B → B ↔ A
iff-sym p = (p.1, p.0)

pub Each-map : {A : Type 0} {P Q : A → Type 0} → ((x : A) → P x ↔ Q x) → (xs : List A) → Each P xs ↔ Each Q xs
Each-map same [] = (λ h. h, λ h. h)
Each-map same (x ∷ xs) = (λ h. ((same x).0 h.0, (Each-map same xs).0 h.1), λ h. ((same x).1 h.0, (Each-map same xs).1 h.1))

pub One-map : {A : Type 0} {P Q : A → Type 0} → ((x : A) → P x ↔ Q x) → (xs : List A) → AtLeastOne P xs ↔ AtLeastOne Q xs
One-map same [] = (λ h. h, λ h. h)
One-map same (x ∷ xs) = (
  elim [ inl h ↦ inl ((same x).0 h) | inr k ↦ inr ((One-map same xs).0 k) ],
  elim [ inl h ↦ inl ((same x).1 h) | inr k ↦ inr ((One-map same xs).1 k) ],
)

pub Each-over : {A B : Type 0} (P : B → Type 0) (g : A → B) (xs : List A) → Each P (map g xs) ↔ Each (λ x. P (g x)) xs
Each-over P g [] = (λ h. h, λ h. h)
Each-over P g (x ∷ xs) = (λ h. (h.0, (Each-over P g xs).0 h.1), λ h. (h.0, (Each-over P g xs).1 h.1))

pub One-over : {A B : Type 0} (P : B → Type 0) (g : A → B) (xs : List A) → AtLeastOne P (map g xs) ↔ AtLeastOne (λ x. P (g x)) xs
One-over P g [] = (λ h. h, λ h. h)
One-over P g (x ∷ xs) = (
  elim [ inl h ↦ inl h | inr k ↦ inr ((One-over P g xs).0 k) ],
  elim [ inl h ↦ inl h | inr k ↦ inr ((One-over P g xs).1 k) ],
)

module _ {A : Type 0} (P : A → Type 0) where
  pub Each-append : (xs ys : List A) → Each P (xs ++ ys) ↔ (Each P xs × Each P ys)
  Each-append [] ys = (λ h. (tt, h), λ h. h.1)
  Each-append (x ∷ xs) ys = (λ h. let k = (Each-append xs ys).0 h.1 in ((h.0, k.0), k.1), λ h. (h.0.0, (Each-append xs ys).1 (h.0.1, h.1)))

  pub One-append : (xs ys : List A) → AtLeastOne P (xs ++ ys) ↔ (AtLeastOne P xs ⊎ AtLeastOne P ys)
  One-append [] ys = (λ h. inr h, elim [ inl b ↦ absurd b | inr h ↦ h ])
  One-append (x ∷ xs) ys = (
    elim [ inl h ↦ inl (inl h) | inr k ↦ elim ((One-append xs ys).0 k) [ inl m ↦ inl (inr m) | inr m ↦ inr m ] ],
    elim [ inl h ↦ elim h [ inl m ↦ inl m | inr m ↦ inr ((One-append xs ys).1 (inl m)) ] | inr k ↦ inr ((One-append xs ys).1 (inr k)) ],
  )

  -- what passes the test may be dropped where it holds
  pub Each-drop : (p : A → Bool) → ((x : A) → p x ≡ true → P x) → (xs : List A) → Each P (filter (λ x. not (p x)) xs) ↔ Each P xs
  Each-drop p sure [] = (λ h. h, λ h. h)
  Each-drop p sure (x ∷ xs) = (elim (p x) as (λ b. p x ≡ b → Each P (cond (not b) (x ∷ filter (λ y. not (p y)) xs)
      (filter (λ y. not (p y)) xs)) ↔ (P x × Each P xs)) [
        | true ↦ λ e. (λ h. (sure x e, (Each-drop p sure xs).0 h), λ h. (Each-drop p sure xs).1 h.1)
        | false ↦ λ e. (λ h. (h.0, (Each-drop p sure xs).0 h.1), λ h. (h.0, (Each-drop p sure xs).1 h.1))
      ]) refl

  -- what passes the test may be dropped where it fails
  pub One-drop : (p : A → Bool) → ((x : A) → p x ≡ true → P x → ⊥) → (xs : List A)
      → AtLeastOne P (filter (λ x. not (p x)) xs) ↔ AtLeastOne P xs
  One-drop p never [] = (λ h. h, λ h. h)
  One-drop p never (x ∷ xs) = (elim (p x) as (λ b. p x ≡ b → AtLeastOne P
      (cond (not b) (x ∷ filter (λ y. not (p y)) xs) (filter (λ y. not (p y)) xs)) ↔ (P x ⊎ AtLeastOne P xs)) [
        | true ↦ λ e. (λ h. inr ((One-drop p never xs).0 h), elim [ inl h ↦ absurd (never x e h) | inr k ↦ (One-drop p never xs).1 k ])
        | false ↦ λ e. (
          elim [ inl h ↦ inl h | inr k ↦ inr ((One-drop p never xs).0 k) ],
          elim [ inl h ↦ inl h | inr k ↦ inr ((One-drop p never xs).1 k) ],
        )
      ]) refl

  -- where one passes a test that no_formula holding passes, not each holds
  pub Each-refuted : (p : A → Bool) → ((x : A) → p x ≡ true → P x → ⊥) → (xs : List A) → list_any p xs ≡ true → Each P xs → ⊥
  Each-refuted p never [] e h = true≢false (sym e)
  Each-refuted p never (x ∷ xs) e h = (elim (p x) as (λ b. p x ≡ b → (b || list_any p xs) ≡ true → ⊥) [
    | true ↦ λ q _. never x q h.0
    | false ↦ λ q k. Each-refuted p never xs k h.1
  ]) refl e

  -- where one passes a test at which it holds, one holds
  pub One-certain : (p : A → Bool) → ((x : A) → p x ≡ true → P x) → (xs : List A) → list_any p xs ≡ true → AtLeastOne P xs
  One-certain p sure [] e = true≢false (sym e)
  One-certain p sure (x ∷ xs) e = (elim (p x) as (λ b. p x ≡ b → (b || list_any p xs) ≡ true → P x ⊎ AtLeastOne P xs) [
    | true ↦ λ q _. inl (sure x q)
    | false ↦ λ q k. inr (One-certain p sure xs k)
  ]) refl e

  pub One-filter : (p : A → Bool) (xs : List A) → AtLeastOne P (filter p xs) → AtLeastOne P xs
  One-filter p [] h = h
  One-filter p (x ∷ xs) h = (elim (p x) as (λ b. AtLeastOne P (cond b (x ∷ filter p xs) (filter p xs)) → P x ⊎ AtLeastOne P xs) [
    | true ↦ elim [ inl k ↦ inl k | inr k ↦ inr (One-filter p xs k) ]
    | false ↦ λ k. inr (One-filter p xs k)
  ]) h

  -- one that holds passes the test, or stays when what passes is dropped
  pub One-split : (p : A → Bool) (xs : List A) → AtLeastOne P xs
      → ((x : A) × ((p x ≡ true) × P x)) ⊎ AtLeastOne P (filter (λ x. not (p x)) xs)
  One-split p [] h = absurd h
  One-split p (x ∷ xs) h = (elim (p x) as (λ b. p x ≡ b → ((y : A) × ((p y ≡ true) × P y)) ⊎
      AtLeastOne P (cond (not b) (x ∷ filter (λ y. not (p y)) xs) (filter (λ y. not (p y)) xs))) [
        | true ↦ λ q. elim h [ inl k ↦ inl (x, (q, k)) | inr k ↦ One-split p xs k ]
        | false ↦ λ q. elim h [ inl k ↦ inr (inl k) | inr k ↦ elim (One-split p xs k) [ inl m ↦ inl m | inr m ↦ inr (inr m) ] ]
      ]) refl

  pub One-flat : {B : Type 0} (f : B → List A) (bs : List B) → AtLeastOne P (flat_map f bs) ↔ AtLeastOne (λ b. AtLeastOne P (f b)) bs
  One-flat f [] = (λ h. h, λ h. h)
  One-flat f (b ∷ bs) = (
    λ h. elim ((One-append (f b) (flat_map f bs)).0 h) [ inl k ↦ inl k | inr k ↦ inr ((One-flat f bs).0 k) ],
    λ h. (One-append (f b) (flat_map f bs)).1 (elim h [ inl k ↦ inl k | inr k ↦ inr ((One-flat f bs).1 k) ]),
  )

-- the witness of one, and one from a witness
pub one_out : {A : Type 0} (P : A → Type 0) (xs : List A) → AtLeastOne P xs → (x : A) × (Among x xs × P x)
one_out P [] h = absurd h
one_out P (x ∷ xs) h = elim h [ inl k ↦ (x, (inl refl, k)) | inr k ↦ (let w = one_out P xs k in (w.0, (inr w.1.0, w.1.1))) ]

pub one_in : {A : Type 0} (P : A → Type 0) (x : A) (xs : List A) → Among x xs → P x → AtLeastOne P xs
one_in P x [] h k = h
one_in P x (y ∷ xs) h k = elim h [ inl e ↦ inl (subst P (sym e) k) | inr m ↦ inr (one_in P x xs m k) ]

pub Among-filter : {A : Type 0} (p : A → Bool) (x : A) (xs : List A) → Among x (filter p xs) ↔ (Among x xs × (p x ≡ true))
Among-filter p x [] = (λ h. absurd h, λ h. h.0)
Among-filter p x (y ∷ xs) = (elim (p y) as (λ b. p y ≡ b → AtLeastOne (λ z. z ≡ x) (cond b (y ∷ filter p xs) (filter p xs)) ↔
    ((y ≡ x ⊎ Among x xs) × (p x ≡ true))) [
      | true ↦ λ q. (
        elim [ inl e ↦ (inl e, subst (λ z. p z ≡ true) e q) | inr k ↦ (let m = (Among-filter p x xs).0 k in (inr m.0, m.1)) ],
        λ h. elim h.0 [ inl e ↦ inl e | inr k ↦ inr ((Among-filter p x xs).1 (k, h.1)) ],
      )
      | false ↦ λ q. (
        λ k. let m = (Among-filter p x xs).0 k in (inr m.0, m.1),
        λ h. elim h.0 [ inl e ↦ absurd (true≢false (sym h.1 ∙ (ap p (sym e) ∙ q))) | inr k ↦ (Among-filter p x xs).1 (k, h.1) ],
      )
    ]) refl

pub and-iff : {a b : Bool} {A B : Type 0} → A ↔ (a ≡ true) → B ↔ (b ≡ true) → (A × B) ↔ ((a && b) ≡ true)
and-iff {a} {b} p q = (λ h. subst (λ c. (c && b) ≡ true) (sym (p.0 h.0)) (q.0 h.1), λ h. let k = parts a b h in (p.1 k.0, q.1 k.1))
  where
    parts : (a b : Bool) → (a && b) ≡ true → (a ≡ true) × (b ≡ true)
    parts true b h = (refl, h)
    parts false b h = absurd (true≢false (sym h))

pub or-iff : {a b : Bool} {A B : Type 0} → A ↔ (a ≡ true) → B ↔ (b ≡ true) → (A ⊎ B) ↔ ((a || b) ≡ true)
or-iff {a} {b} p q = (
  elim [ inl h ↦ left a b (p.0 h) | inr h ↦ right a b (q.0 h) ],
  λ h.
      elim (parts a b h) [ inl k ↦ inl (p.1 k) | inr k ↦ inr (q.1 k) ],
)
  where
    left : (a b : Bool) → a ≡ true → (a || b) ≡ true
    left true b h = refl
    left false b h = absurd (true≢false (sym h))

    right : (a b : Bool) → b ≡ true → (a || b) ≡ true
    right true b h = refl
    right false b h = h

    parts : (a b : Bool) → (a || b) ≡ true → (a ≡ true) ⊎ (b ≡ true)
    parts true b h = inl refl
    parts false b h = inr h

pub not-iff : {a : Bool} {A : Type 0} → A ↔ (a ≡ true) → (A → ⊥) ↔ (not a ≡ true)
not-iff {a} {A} p = ((elim a as (λ c. (A → c ≡ true) × (c ≡ true → A) → (A → ⊥) ↔ (not c ≡ true)) [
  | true ↦ λ q. (λ h. absurd (h (q.1 refl)), λ h. absurd (true≢false (sym h)))
  | false ↦ λ q. (λ _. refl, λ _ k. true≢false (sym (q.0 k)))
]) p)

pub all-iff : {A : Type 0} (P : A → Type 0) (p : A → Bool) → ((x : A) → P x ↔ (p x ≡ true)) → (xs : List A) → Each P xs ↔
    (list_all p xs ≡ true)
all-iff P p h [] = (λ _. refl, λ _. tt)
all-iff P p h (x ∷ xs) = and-iff (h x) (all-iff P p h xs)

pub any-iff : {A : Type 0} (P : A → Type 0) (p : A → Bool) → ((x : A) → P x ↔ (p x ≡ true)) → (xs : List A) → AtLeastOne P xs ↔
    (list_any p xs ≡ true)
any-iff P p h [] = (λ b. absurd b, λ e. true≢false (sym e))
any-iff P p h (x ∷ xs) = or-iff (h x) (any-iff P p h xs)

-- what holds of each holds of any that is in the list, and the other way round
pub Each-Among : {A : Type 0} (P : A → Type 0) (xs : List A) → Each P xs ↔ ((x : A) → Among x xs → P x)
Each-Among P [] = (λ _ x m. absurd m, λ _. tt)
Each-Among P (x ∷ xs) = (
  λ h y m. elim m [ inl e ↦ subst P e h.0 | inr k ↦ (Each-Among P xs).0 h.1 y k ],
  λ h. (h x (inl refl), (Each-Among P xs).1 (λ y m. h y (inr m))),
)

-- two tests that pass together are one
pub same_test : (a b : Bool) → (a ≡ true → b ≡ true) → (b ≡ true → a ≡ true) → a ≡ b
same_test true b h k = sym (h refl)
same_test false true h k = k refl
same_test false false h k = refl
