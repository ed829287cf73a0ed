-- Parts that mean something together.
use Rattle.std.specs.Prelude.{Option, Some, None}

-- what two parts mean together, where each means something
abbrev pub option_both : {A B C : Type 0} → (A → B → C) → Option A → Option B → Option C
option_both f None b = None
option_both f (Some a) None = None
option_both f (Some a) (Some b) = Some (f a b)
