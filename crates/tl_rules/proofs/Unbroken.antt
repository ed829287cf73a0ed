-- What parts mean where they break no rule, put together.
use Rattle.std.proofs.Common.{◌≡◌, ℕ, List, [], ◌∷◌, ◌++◌, refl, sym, ◌∙◌, ap}
use Rattle.std.specs.Prelude.{Bool, true, false, not, Option, Some, None, option_and_then, if◌then◌else◌}
use Rattle.std.specs.Option.{option_map}
use Rattle.tl_rules.specs.declared.rule.Rule.{Rule}
use Rattle.tl_rules.specs.Rules.{Break, breaks_if}
use Rattle.tl_rules.specs.Unbroken.{where_unbroken}
use Rattle.tl_rules.specs.Both.{option_both}

pub map-unbroken : {A B : Type 0} (f : A → B) (xs : List Break) (a : A) → option_map f (where_unbroken xs a) ≡ where_unbroken xs (f a)
map-unbroken f [] a = refl
map-unbroken f (x ∷ xs) a = refl

pub both-unbroken : {A B C : Type 0} (f : A → B → C) (xs ys : List Break) (a : A) (b : B) →
    option_both f (where_unbroken xs a) (where_unbroken ys b) ≡ where_unbroken (xs ++ ys) (f a b)
both-unbroken f [] [] a b = refl
both-unbroken f [] (y ∷ ys) a b = refl
both-unbroken f (x ∷ xs) ys a b = refl

-- the breaks of what is built from parts stand before those of the parts
pub then-unbroken : {A B : Type 0} (k : A → Option B) (own xs : List Break) (a : A) (b : B) → k a ≡ where_unbroken own b →
    option_and_then k (where_unbroken xs a) ≡ where_unbroken (own ++ xs) b
then-unbroken k [] [] a b h = h
then-unbroken k [] (x ∷ xs) a b h = refl
then-unbroken k (o ∷ own) [] a b h = h
then-unbroken k (o ∷ own) (x ∷ xs) a b h = refl

-- those of what comes after stand after
pub next-unbroken : {A B : Type 0} (k : A → Option B) (xs ys : List Break) (a : A) (b : B) → k a ≡ where_unbroken ys b →
    option_and_then k (where_unbroken xs a) ≡ where_unbroken (xs ++ ys) b
next-unbroken k [] ys a b h = h
next-unbroken k (x ∷ xs) ys a b h = refl

-- a test that has to pass, and one that must not
pub if-unbroken : {A : Type 0} (test : Bool) (r : Rule) (at : ℕ) (xs : List Break) (m : Option A) (a : A) → m ≡ where_unbroken xs a →
    (if test then m else None) ≡ where_unbroken (breaks_if (not test) r at ++ xs) a
if-unbroken true r at xs m a h = h
if-unbroken false r at xs m a h = refl

pub unless-unbroken : {A : Type 0} (test : Bool) (r : Rule) (at : ℕ) (xs : List Break) (m : Option A) (a : A) → m ≡ where_unbroken xs a →
    (if test then None else m) ≡ where_unbroken (breaks_if test r at ++ xs) a
unless-unbroken true r at xs m a h = refl
unless-unbroken false r at xs m a h = h

-- the order of breaks says nothing here
pub swap-unbroken : {A : Type 0} (xs ys zs : List Break) (a : A) → where_unbroken (xs ++ (ys ++ zs)) a ≡ where_unbroken (ys ++ (xs ++ zs)) a
swap-unbroken [] [] zs a = refl
swap-unbroken [] (y ∷ ys) zs a = refl
swap-unbroken (x ∷ xs) [] zs a = refl
swap-unbroken (x ∷ xs) (y ∷ ys) zs a = refl

pub end-unbroken : {A : Type 0} (xs : List Break) (a : A) → where_unbroken (xs ++ []) a ≡ where_unbroken xs a
end-unbroken [] a = refl
end-unbroken (x ∷ xs) a = refl

pub group-unbroken : {A : Type 0} (xs ys zs : List Break) (a : A) → where_unbroken ((xs ++ ys) ++ zs) a ≡
    where_unbroken (xs ++ (ys ++ zs)) a
group-unbroken [] ys zs a = refl
group-unbroken (x ∷ xs) ys zs a = refl

-- between what is meant where no rule is broken, and that no rule is broken and this is meant
pub means : {A : Type 0} (m : Option A) (xs : List Break) (a b : A) → m ≡ where_unbroken xs a → xs ≡ [] → b ≡ a → m ≡ Some b
means m xs a b law none is = law ∙ ap (λ (ys : List Break). where_unbroken ys a) none ∙ ap (λ (c : _). Some c) (sym is)

pub meant : {A : Type 0} (m : Option A) (xs : List Break) (a b : A) → m ≡ where_unbroken xs a → m ≡ Some b → (xs ≡ []) × (b ≡ a)
meant m xs a b law is = cases xs (sym law ∙ is)
  where
    cases : (ys : List Break) → where_unbroken ys a ≡ Some b → (ys ≡ []) × (b ≡ a)
    cases [] e = (refl, cc)
    cases (y ∷ ys) e = absurd (cc)
