-- Breaks in order, and the first of them.
use Rattle.std.proofs.Common.{◌≡◌, ℕ, ◌+◌, ◌*◌, ◌<◌, ◌≤◌, List, [], ◌∷◌, ◌++◌, Bool, true, false, refl, subst, inl, inr, arith, Some}
use Rattle.std.specs.Prelude.{if◌then◌else◌}
use Rattle.std.specs.Prelude.{leb}
use Rattle.std.proofs.lemmas.Bool.{cases_Bool, leb-true, leb-false}
use Rattle.tl_syntax.specs.Lists.{Each}
use Rattle.tl_rules.specs.declared.rule.Rule.{Rule}
use Rattle.tl_rules.specs.declared.rule.Rule.TheVariants.{Shape}
use Rattle.tl_rules.specs.Rules.{Break, rule_number, breaks_if, first_break, IsNoLater, IsLeastBreak}

-- the place of a break in the order, which is by offsets and then by the numbers of rules, all below 64
abbrev pub key : Break → ℕ
key b = 64 * b.1 + rule_number b.0

-- the breaks rise, from at least the first number on up to at most the second
abbrev pub Rise : ℕ → List Break → ℕ → Type 0
Rise low [] high = low ≤ high
Rise low (b ∷ bs) high = (low ≤ key b) × Rise (key b) bs high

pub record IsInOrder (low : ℕ) (bs : List Break) (high : ℕ) : Type 0 where
  pub rise : Rise low bs high

rise-from : (low next high : ℕ) (bs : List Break) → low ≤ next → Rise next bs high → Rise low bs high
rise-from low next high [] le h = omega arith
rise-from low next high (b ∷ bs) le h = (omega (arith, h.0), h.1)

rise-to : (low high next : ℕ) (bs : List Break) → high ≤ next → Rise low bs high → Rise low bs next
rise-to low high next [] le h = omega arith
rise-to low high next (b ∷ bs) le h = (h.0, rise-to (key b) high next bs le h.1)

rise-both : (low middle high : ℕ) (bs cs : List Break) → Rise low bs middle → Rise middle cs high → Rise low (bs ++ cs) high
rise-both low middle high [] cs h i = rise-from low middle high cs h i
rise-both low middle high (b ∷ bs) cs h i = (h.0, rise-both (key b) middle high bs cs h.1 i)

pub from : (low next high : ℕ) (bs : List Break) → low ≤ next → IsInOrder next bs high → IsInOrder low bs high
from low next high bs le h = record { rise = rise-from low next high bs le h.rise }

pub up_to : (low high next : ℕ) (bs : List Break) → high ≤ next → IsInOrder low bs high → IsInOrder low bs next
up_to low high next bs le h = record { rise = rise-to low high next bs le h.rise }

pub both : (low middle high : ℕ) (bs cs : List Break) → IsInOrder low bs middle → IsInOrder middle cs high → IsInOrder low (bs ++ cs) high
both low middle high bs cs h i = record { rise = rise-both low middle high bs cs h.rise i.rise }

pub none : (low high : ℕ) → low ≤ high → IsInOrder low [] high
none low high le = record { rise = le }

pub one : (broken : Rule) (at low high : ℕ) → low ≤ 64 * at + rule_number broken → 64 * at + rule_number broken ≤ high →
    IsInOrder low ((broken, at) ∷ []) high
one broken at low high before after = record { rise = (before, after) }

pub tested : (test : Bool) (broken : Rule) (at low high : ℕ) → low ≤ 64 * at + rule_number broken → 64 * at + rule_number broken ≤ high →
    IsInOrder low (breaks_if test broken at) high
tested true broken at low high before after = one broken at low high before after
tested false broken at low high before after = none low high (omega arith)

pub either : (test : Bool) (low high : ℕ) (bs cs : List Break) → IsInOrder low bs high → IsInOrder low cs high →
    IsInOrder low (if test then bs else cs) high
either true low high bs cs h i = h
either false low high bs cs h i = i

number-small : (r : Rule) → rule_number r < 64
number-small Shape = omega arith
number-small _ = omega arith

no-later : (b c : Break) → key b ≤ key c → IsNoLater b c
no-later b c le =
    let small = number-small b.0 in
    let less = number-small c.0 in
    elim (cases_Bool (leb c.1 b.1)) [
      | inl is ↦ let back = leb-true c.1 b.1 is in inr (omega arith, omega arith)
      | inr is ↦ inl (leb-false c.1 b.1 is)
    ]

each-later : (b : Break) (low high : ℕ) (bs : List Break) → key b ≤ low → Rise low bs high → Each (IsNoLater b) bs
each-later b low high [] le h = tt
each-later b low high (c ∷ cs) le h = (no-later b c (omega (arith, h.0)), each-later b (key c) high cs (omega (arith, h.0)) h.1)

-- of breaks in order the first is the least
pub first-least : (low high : ℕ) (bs : List Break) (b : Break) → IsInOrder low bs high → first_break bs ≡ Some b → IsLeastBreak bs b
first-least low high [] b h is = cc
first-least low high (c ∷ cs) b h is =
    let same : c ≡ b = cc in
    let P : Break → Type 0 = λ d. IsLeastBreak (c ∷ cs) d in
    let later = h.rise in
    subst P same (record { among = inl refl; least = (no-later c c (omega arith), each-later c (key c) high cs (omega arith) later.1) })
