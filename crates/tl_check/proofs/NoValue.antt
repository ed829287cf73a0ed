-- What is no value is None.
use Rattle.std.specs.Prelude.{◌≡◌, Option, Some, None, refl}

pub none-left : {A : Type 0} (o : Option A) → ((x : A) → o ≡ Some x → ⊥) → o ≡ None
none-left None h = refl
none-left (Some x) h = absurd (h x refl)
