-- What fails together: where it is not decided what holds, this is said in place of holding together.
use Rattle.std.proofs.Common.{◌⊎◌, ◌↔◌, List, [], ◌∷◌, inl, inr}
use Rattle.tl_syntax.specs.Lists.{Each, AtLeastOne}

-- one fails exactly where the other does
abbrev pub FailTogether : Type 0 → Type 0 → Type 0
FailTogether A B = (A → ⊥) ↔ (B → ⊥)

-- what holds together fails together
pub fail-both : {A B : Type 0} → A ↔ B → FailTogether A B
fail-both h = (λ n b. n (h.1 b), λ n a. n (h.0 a))

-- what fails together and is decided holds together
pub hold-both : {A B : Type 0} → Dec A → Dec B → FailTogether A B → A ↔ B
hold-both d e h = (λ a. elim e [ yes b ↦ b | no n ↦ absurd (h.1 n a) ], λ b. elim d [ yes a ↦ a | no n ↦ absurd (h.0 n b) ])

pub fail-and : {A B C D : Type 0} → FailTogether A B → FailTogether C D → FailTogether (A × C) (B × D)
fail-and h k = (λ n w. h.0 (λ a. k.0 (λ c. n (a, c)) w.1) w.0, λ n w. h.1 (λ b. k.1 (λ d. n (b, d)) w.1) w.0)

pub fail-or : {A B C D : Type 0} → FailTogether A B → FailTogether C D → FailTogether (A ⊎ C) (B ⊎ D)
fail-or h k = (
  λ n. elim [ inl b ↦ h.0 (λ a. n (inl a)) b | inr d ↦ k.0 (λ c. n (inr c)) d ],
  λ n. elim [ inl a ↦ h.1 (λ b. n (inl b)) a | inr c ↦ k.1 (λ d. n (inr d)) c ],
)

pub fail-each : {A : Type 0} {P Q : A → Type 0} → ((x : A) → FailTogether (P x) (Q x)) → (xs : List A)
    → FailTogether (Each P xs) (Each Q xs)
fail-each h [] = (λ n. n, λ n. n)
fail-each h (x ∷ xs) = fail-and (h x) (fail-each h xs)

pub fail-one : {A : Type 0} {P Q : A → Type 0} → ((x : A) → FailTogether (P x) (Q x)) → (xs : List A)
    → FailTogether (AtLeastOne P xs) (AtLeastOne Q xs)
fail-one h [] = (λ n. n, λ n. n)
fail-one h (x ∷ xs) = fail-or (h x) (fail-one h xs)
