-- Breaks that are looked for only where there are no others.
use Rattle.std.proofs.Common.{◌≡◌, List, [], ◌∷◌, refl}
use Rattle.tl_rules.specs.declared.rule.FormFault.{FormFault}
use Rattle.tl_rules.specs.declared.rule.FormFault.TheVariants.{Breaks, NoMemory}
use Rattle.tl_rules.specs.Rules.{Break}
use Rattle.tl_rules.specs.Reads.{IsFirst}
use Rattle.tl_problem.specs.Elements.{breaks_or_else}

-- the first of the breaks before is the first of all
pub else-front : (xs ys : List Break) (e : FormFault) → IsFirst xs e → IsFirst (breaks_or_else xs ys) e
else-front [] ys (Breaks broken at) h = cc
else-front (x ∷ xs) ys (Breaks broken at) h = h
else-front xs ys NoMemory h = tt

-- where nothing breaks before, the first of the breaks after is the first of all
pub else-back : (xs ys : List Break) (e : FormFault) → xs ≡ [] → IsFirst ys e → IsFirst (breaks_or_else xs ys) e
else-back xs ys e none h = rw none h

-- nothing breaks where nothing breaks before and after
pub else-none : (xs ys : List Break) → xs ≡ [] → ys ≡ [] → breaks_or_else xs ys ≡ []
else-none xs ys before after = rw (before, after) refl

pub ruleset in_turn = (else-front, else-back, else-none)
