-- Of the breaks of a list one at most is the least.
use Rattle.std.proofs.Common.{◌≡◌, ℕ, inl, inr, List, [], ◌∷◌, refl, sym, ap, ◌∙◌, subst, arith}
use Rattle.std.specs.Prelude.{◌==◌, if◌then◌else◌}
use Rattle.tl_syntax.specs.Lists.{Each, Among}
use Rattle.tl_rules.specs.declared.rule.Rule.{Rule}
use Rattle.tl_rules.specs.declared.rule.Rule.TheVariants.{Shape, Unknown, Twice, Arity, Unbound, Shadow, NotInBound, Temporal, GoalArg}
use Rattle.tl_rules.specs.declared.rule.Rule.TheVariants.{Limit, NotGround, TwoValues, NoOperator, ArgumentCount, NotAValue, NoPair}
use Rattle.tl_rules.specs.Rules.{Break, rule_number, IsNoLater, IsLeastBreak}

-- the rule of this number
abbrev rule_of : ℕ → Rule
rule_of n =
    if n == 10 then Shape else (if n == 11 then Unknown else (if n == 12 then Twice else (if n == 13 then Arity else
    (if n == 14 then Unbound else (if n == 15 then Shadow else (if n == 16 then NotInBound else (if n == 17 then Temporal else
    (if n == 18 then GoalArg else (if n == 19 then Limit else (if n == 20 then NotGround else (if n == 21 then TwoValues else
    (if n == 30 then NoOperator else (if n == 31 then ArgumentCount else (if n == 32 then NotAValue else NoPair))))))))))))))

rule_of_number : (r : Rule) → rule_of (rule_number r) ≡ r
rule_of_number Shape = refl
rule_of_number Unknown = refl
rule_of_number Twice = refl
rule_of_number Arity = refl
rule_of_number Unbound = refl
rule_of_number Shadow = refl
rule_of_number NotInBound = refl
rule_of_number Temporal = refl
rule_of_number GoalArg = refl
rule_of_number Limit = refl
rule_of_number NotGround = refl
rule_of_number TwoValues = refl
rule_of_number NoOperator = refl
rule_of_number ArgumentCount = refl
rule_of_number NotAValue = refl
rule_of_number NoPair = refl

-- rules of one number are one rule
one_rule : (r s : Rule) → rule_number r ≡ rule_number s → r ≡ s
one_rule r s same = sym (rule_of_number r) ∙ ap rule_of same ∙ rule_of_number s

-- what holds of each holds of one among them
of_each : {A : Type 0} (P : A → Type 0) (x : A) (xs : List A) → Each P xs → Among x xs → P x
of_each P x [] each among = absurd among
of_each P x (y ∷ ys) each (inl same) = subst P same each.0
of_each P x (y ∷ ys) each (inr among) = of_each P x ys each.1 among

neither_later : (b c : Break) → IsNoLater b c → IsNoLater c b → (b.1 ≡ c.1) × (rule_number b.0 ≡ rule_number c.0)
neither_later b c (inl h) (inl k) = absurd (omega (arith, h, k))
neither_later b c (inl h) (inr k) = absurd (omega (arith, h, k.0))
neither_later b c (inr h) (inl k) = absurd (omega (arith, h.0, k))
neither_later b c (inr h) (inr k) = (h.0, omega (arith, h.1, k.1))

-- the least break is one
pub one_least : (bs : List Break) (b c : Break) → IsLeastBreak bs b → IsLeastBreak bs c → b ≡ c
one_least bs b c h k =
    let same = neither_later b c (of_each (IsNoLater b) c bs h.least k.among) (of_each (IsNoLater c) b bs k.least h.among) in
    let rules = one_rule b.0 c.0 same.1 in
    λ i. (rules i, same.0 i)

-- where nothing is broken there is no least break
pub no_least : (bs : List Break) (b : Break) → bs ≡ [] → IsLeastBreak bs b → ⊥
no_least bs b none h = subst (λ (cs : List Break). Among b cs) none h.among
