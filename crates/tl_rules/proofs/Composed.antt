-- Breaks of parts one after the other.
use Rattle.std.proofs.Common.{◌≡◌, List, [], ◌∷◌, ◌++◌, length, refl, arith}
use Rattle.tl_sexpr.specs.declared.form.Form.{Form}
use Rattle.tl_rules.specs.declared.rule.FormFault.{FormFault}
use Rattle.tl_rules.specs.declared.rule.FormFault.TheVariants.{Breaks, NoMemory}
use Rattle.tl_rules.specs.Rules.{Break}
use Rattle.tl_rules.specs.Parts.{count}
use Rattle.tl_rules.specs.Reads.{IsFirst, trees_in}

-- the first of the breaks before is the first of all
pub first-front : (xs ys : List Break) (e : FormFault) → IsFirst xs e → IsFirst (xs ++ ys) e
first-front [] ys (Breaks broken at) h = cc
first-front (x ∷ xs) ys (Breaks broken at) h = h
first-front xs ys NoMemory h = tt

-- where nothing breaks before, the first of the breaks after is the first of all
pub first-back : (xs ys : List Break) (e : FormFault) → xs ≡ [] → IsFirst ys e → IsFirst (xs ++ ys) e
first-back xs ys e none h = rw none h

-- nothing breaks where nothing breaks before and after
pub none-both : (xs ys : List Break) → xs ≡ [] → ys ≡ [] → xs ++ ys ≡ []
none-both xs ys before after = rw (before, after) refl

pub count-trees : (xs : List Form) → count (trees_in xs) ≡ length xs
count-trees [] = refl
count-trees (x ∷ xs) = omega (arith, count-trees xs)

pub ruleset composed = (first-front, first-back, none-both, count-trees)
