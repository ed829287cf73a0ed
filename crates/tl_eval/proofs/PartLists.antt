-- The parts for leading arguments of a list.
use Rattle.std.proofs.Common.{◌≡◌, ◌<◌, ℕ, zero, suc, List, [], ◌∷◌, map, take, length, get_or, Bool, true, false, Option, Some, None, sym}
use Rattle.std.proofs.Common.{ap, ◌∙◌, inl, inr, arith}
use Rattle.tl_eval.specs.InPlace.{in_place}
use Rattle.tl_eval.specs.PatternOf.{part_for, AreParts}
use Rattle.tl_syntax.specs.declared.variable.Arg.{Arg}
use Rattle.tl_syntax.specs.declared.variable.Var.{Var}
use Rattle.tl_syntax.specs.Assignment.{Assignment}
use Rattle.tl_syntax.specs.Lists.{Among}
use Rattle.tl_match.specs.declared.pattern.Part.{Part}

-- the first n parts are those of the first n arguments
pub record LeadingParts (ss : List Var) (e : Assignment) (xs : List Arg) (n : ℕ) (ps : List Part) : Type 0 where
  pub size : length ps ≡ 9
  pub same : map (λ p. Some p) (take n ps) ≡ map (part_for ss e) (take n xs)

among-mapped : {A B : Type 0} (f : A → B) (xs : List A) (n : ℕ) (d : A) (y : B) → n < length xs → f (get_or xs n d) ≡ y → Among y (map f xs)
among-mapped f [] n d y h k = absurd (let z : ⊥ = omega arith in z)
among-mapped f (u ∷ xs) zero d y h k = inl k
among-mapped f (u ∷ xs) (suc n) d y h k = inr (among-mapped f xs n d y (omega arith) k)

-- where the argument at a position has no part, some argument has none
pub parts-none : (ss : List Var) (e : Assignment) (xs : List Arg) (n : ℕ) (d : Arg) (o : Option Part) → n < length xs → o ≡
    part_for ss e (get_or xs n d) → o ≡ None → AreParts ss e xs None
parts-none ss e xs n d o h k l = among-mapped (part_for ss e) xs n d None h (sym k ∙ l)

-- what counts, and what does not
pub counts : {A : Type 0} (b : Bool) (a : A) → b ≡ true → in_place b a ≡ Some a
counts b a q = ap (λ c. in_place c a) q

pub counts-not : {A : Type 0} (b : Bool) (a : A) → b ≡ false → in_place b a ≡ None
counts-not b a q = ap (λ c. in_place c a) q
