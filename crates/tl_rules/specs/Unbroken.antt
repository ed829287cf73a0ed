-- What forms mean, where they break no rule.
use Rattle.std.specs.Prelude.{List, [], ◌∷◌, Option, Some, None}
use Rattle.tl_rules.specs.Rules.{Break}

-- what is meant, where these breaks are none
abbrev pub where_unbroken : {A : Type 0} → List Break → A → Option A
where_unbroken [] meant = Some meant
where_unbroken (b ∷ bs) meant = None
