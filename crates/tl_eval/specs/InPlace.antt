-- What a call leaves in place, where its answer says that this counts.
use Rattle.std.specs.Prelude.{Bool, true, false, Option, Some, None}

-- what stands in place, where it counts
abbrev pub in_place : {A : Type 0} → Bool → A → Option A
in_place true a = Some a
in_place false a = None
