-- What is used of lists, tests and breaks, where nothing is broken.
use Rattle.std.proofs.Common.{◌≡◌, ◌<◌, ◌≤◌, ℕ, List, [], ◌∷◌, ◌++◌, Bool, true, false, cond, not, flat_map, refl, sym, ap, ◌∙◌, arith, inl}
use Rattle.std.proofs.Common.{inr}
use Rattle.std.specs.Prelude.{◌||◌}
use Rattle.std.proofs.lemmas.Bool.{true≢false, ne_eqb, cases_lt}
use Rattle.tl_syntax.specs.Lists.{Each}
use Rattle.tl_syntax.specs.FreeVariables.{is_slot_in, slots_without}
use Rattle.tl_rules.specs.declared.rule.Rule.{Rule}
use Rattle.tl_rules.specs.Rules.{breaks_if}

-- where two lists together are empty, each is
pub none-parts : {A : Type 0} (xs ys : List A) → xs ++ ys ≡ [] → (xs ≡ []) × (ys ≡ [])
none-parts [] ys h = (refl, h)
none-parts (x ∷ xs) ys h = cc

-- a test by which nothing is broken fails, and one whose failure would break something passes
pub test-fails : (test : Bool) (r : Rule) (at : ℕ) → breaks_if test r at ≡ [] → test ≡ false
test-fails true r at h = cc
test-fails false r at h = refl

pub test-passes : (test : Bool) (r : Rule) (at : ℕ) → breaks_if (not test) r at ≡ [] → test ≡ true
test-passes true r at h = refl
test-passes false r at h = cc

pub Each-implies : {A : Type 0} (P Q : A → Type 0) → ((x : A) → P x → Q x) → (xs : List A) → Each P xs → Each Q xs
Each-implies P Q step [] h = tt
Each-implies P Q step (x ∷ xs) h = (step x h.0, Each-implies P Q step xs h.1)

pub Each-both : {A : Type 0} (P : A → Type 0) (xs ys : List A) → Each P xs → Each P ys → Each P (xs ++ ys)
Each-both P [] ys h i = i
Each-both P (x ∷ xs) ys h i = (h.0, Each-both P xs ys h.1 i)

pub Each-flat : {A B : Type 0} (P : B → Type 0) (f : A → List B) (xs : List A) → Each (λ x. Each P (f x)) xs → Each P (flat_map f xs)
Each-flat P f [] h = tt
Each-flat P f (x ∷ xs) h = Each-both P (f x) (flat_map f xs) h.0 (Each-flat P f xs h.1)

-- a slot above all of a list is none of it
pub not-among : (slots : List ℕ) (low q : ℕ) → low ≤ q → Each (λ s. s < low) slots → is_slot_in slots q ≡ false
not-among [] low q le h = refl
not-among (s ∷ slots) low q le h = ap (λ (b : Bool). b || is_slot_in slots q) (ne_eqb q s (λ e. omega (arith, h.0, e))) ∙
    not-among slots low q le h.1

-- slots below the second number, without all those from the first on, are below the first
pub below-without : (slots : List ℕ) (low high : ℕ) → ((q : ℕ) → low ≤ q → q < high → is_slot_in slots q ≡ true) → (qs : List ℕ) →
    Each (λ q. q < high) qs → Each (λ q. q < low) (slots_without slots qs)
below-without slots low high all [] h = tt
below-without slots low high all (q ∷ qs) h = (elim (is_slot_in slots q) as
    (λ b. is_slot_in slots q ≡ b → Each (λ p. p < low) (cond (not b) (q ∷ slots_without slots qs) (slots_without slots qs))) [
      | true ↦ λ e. below-without slots low high all qs h.1
      | false ↦ λ e. (under e, below-without slots low high all qs h.1)
    ]) refl
  where
    under : is_slot_in slots q ≡ false → q < low
    under e = elim (cases_lt q low) [
      | inl lt ↦ lt
      | inr ge ↦ absurd (true≢false (sym (all q ge h.0) ∙ e))
    ]

pub Each-parts : {A : Type 0} (P : A → Type 0) (xs ys : List A) → Each P (xs ++ ys) → Each P xs × Each P ys
Each-parts P [] ys h = (tt, h)
Each-parts P (x ∷ xs) ys h = let later = Each-parts P xs ys h.1 in ((h.0, later.0), later.1)
