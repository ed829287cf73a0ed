-- Rules, breaks of rules by forms, and the break that is answered.
--
-- A break: the form at an offset breaks a rule. The other files list the breaks of each role: first
-- those of the form itself, by the numbers of their rules, and then those of its parts. What is
-- answered for a file is the break with the least offset, and there the least rule.
use Rattle.std.specs.Prelude.{◌≡◌, ℕ, ◌<◌, ◌≤◌, ◌⊎◌, List, [], ◌∷◌, Bool, Option, Some, None, if◌then◌else◌}
use Rattle.tl_syntax.specs.Lists.{Each, Among}
use Rattle.tl_rules.specs.declared.rule.Rule.{Rule}
use Rattle.tl_rules.specs.declared.rule.Rule.TheVariants.{Shape, Unknown, Twice, Arity, Unbound, Shadow, NotInBound, Temporal, GoalArg}
use Rattle.tl_rules.specs.declared.rule.Rule.TheVariants.{Limit, NotGround, TwoValues, NoOperator, ArgumentCount, NotAValue, NoPair}

-- the form at this offset breaks this rule
abbrev pub Break : Type 0
Break = Rule × ℕ

-- the number of a rule
abbrev pub rule_number : Rule → ℕ
rule_number Shape = 10
rule_number Unknown = 11
rule_number Twice = 12
rule_number Arity = 13
rule_number Unbound = 14
rule_number Shadow = 15
rule_number NotInBound = 16
rule_number Temporal = 17
rule_number GoalArg = 18
rule_number Limit = 19
rule_number NotGround = 20
rule_number TwoValues = 21
rule_number NoOperator = 30
rule_number ArgumentCount = 31
rule_number NotAValue = 32
rule_number NoPair = 33

-- the rule is broken where the test says so
abbrev pub breaks_if : Bool → Rule → ℕ → List Break
breaks_if test broken at = if test then (broken, at) ∷ [] else []

-- the first of a list of breaks
abbrev pub first_break : List Break → Option Break
first_break [] = None
first_break (b ∷ bs) = Some b

-- the first has a lesser offset than the second, or the same offset and no greater rule
abbrev pub IsNoLater : Break → Break → Type 0
IsNoLater b c = (b.1 < c.1) ⊎ ((b.1 ≡ c.1) × (rule_number b.0 ≤ rule_number c.0))

-- the break of the list with the least offset and there the least rule
pub record IsLeastBreak (bs : List Break) (b : Break) : Type 0 where
  pub among : Among b bs
  pub least : Each (IsNoLater b) bs
